-- The table of access verdicts: one test computed over its 32 entries, and what it says of each.
use mathlib.Core.Path.{◌≡◌, refl}
use mathlib.Core.Bool.{Bool, true, false, beq}
use Prim.Native.Nat.{ℕ, ◌+◌, ◌*◌, ◌/◌, ◌%◌, ◌<◌}
use native.Mathlib.Omega.{arith}
use lib.ListN.{get_or}
use Rattle.seq.specs.Below.{all_below}
use Rattle.seq.proofs.BelowLaws.{all_each}
use Rattle.seq.proofs.Tests.{beq_true}
use Rattle.model.specs.declared.Mode.{Mode}
use Rattle.model.specs.declared.Mode.TheVariants.{Read, Write}
use Rattle.model.specs.Parties.{mode_of, mode_number, allowed, access_table, table_entry}

-- the entry at this place, level * 8 + class * 2 + mode, is right
unfoldable right : ℕ → Bool
right at = beq (get_or access_table at false) (allowed (at / 8) (at / 2 % 4) (mode_of (at % 2)))

-- all entries are right, one test computed over the table
all_right : all_below 32 right ≡ true
unfolding all_below right access_table allowed
all_right = refl

pub mode_number_small : (mode : Mode) → mode_number mode < 2
mode_number_small Read = omega arith
mode_number_small Write = omega arith

number_back : (mode : Mode) → mode_of (mode_number mode) ≡ mode
number_back Read = refl
number_back Write = refl

-- the entry for each level, class and mode is the rule's verdict
pub table_same : (level class : ℕ) (mode : Mode) → level < 4 → class < 4 → table_entry level class mode ≡ allowed level class mode
unfolding right table_entry
table_same level class mode l k =
    let m = mode_number_small mode in
    let e1 : (level * 8 + class * 2 + mode_number mode) / 8 ≡ level = omega arith in
    let e2 : (level * 8 + class * 2 + mode_number mode) / 2 % 4 ≡ class = omega arith in
    let e3 : (level * 8 + class * 2 + mode_number mode) % 2 ≡ mode_number mode = omega arith in
    beq_true (get_or access_table (level * 8 + class * 2 + mode_number mode) false) (allowed level class mode)
    (rw (e1, e2, e3, number_back mode) at (all_each right 32 (level * 8 + class * 2 + mode_number mode) all_right (omega arith)))
