-- What a level sees of a slot, and of a dormant one.
use mathlib.Core.Path.{◌≡◌, sym, ◌∙◌}
use mathlib.Core.Bool.{true, false}
use Prim.Native.Nat.{ℕ, ◌<◌, ◌≤◌}
use native.Mathlib.Omega.{arith}
use borrow.Author.Tests.{leb-true, le-leb, ne_eqb, not-true}
use lib.Dec.{leb}
use Rattle.seq.specs.Below.{any_below}
use Rattle.seq.proofs.Tests.{true_false, and_true, both_true, not_true_false, parts}
use Rattle.seq.proofs.BelowLaws.{any_hit, any_none, hit_any}
use Rattle.model.specs.declared.State.{State}
use Rattle.model.specs.Parties.{level_of}
use Rattle.model.specs.Words.{holds, seen_holder, seen, is_open, dormant, sees_dormant}

-- a slot is seen through a row that holds it
pub seen_by : (s : State) (L i : ℕ) → seen s L i ≡ true → (r : ℕ) × (r < 32) × (level_of r ≤ L) × (holds s i r ≡ true)
unfolding seen seen_holder
seen_by s L i e =
    let x = any_hit (seen_holder s L i) 32 e in
    let y = and_true (leb (level_of x.0) L) (holds s i x.0) x.2 in
    (x.0, x.1, leb-true (level_of x.0) L y.0, y.1)

pub by_seen : (s : State) (L i r : ℕ) → r < 32 → level_of r ≤ L → holds s i r ≡ true → seen s L i ≡ true
unfolding seen seen_holder
by_seen s L i r b l h = hit_any (seen_holder s L i) 32 r b (both_true (le-leb (level_of r) L l) h)

pub not_seen : (s : State) (L i r : ℕ) → seen s L i ≡ false → r < 32 → level_of r ≤ L → holds s i r ≡ false
not_seen s L i r e b l = not_true_false (holds s i r) (λ h. true_false (sym (by_seen s L i r b l h) ∙ e))

pub none_seen : (s : State) (L i : ℕ) → ((r : ℕ) → r < 32 → level_of r ≤ L → holds s i r ≡ false) → seen s L i ≡ false
none_seen s L i f = not_true_false (seen s L i) (λ e. let x = seen_by s L i e in true_false (sym x.3 ∙ f x.0 x.1 x.2))

-- an open slot is not seen
pub open_seen : (s : State) (L i : ℕ) → is_open s L i ≡ true → seen s L i ≡ false
unfolding is_open
open_seen s L i e = not-true (seen s L i) e

-- a slot that a level sees is held
pub seen_held : (s : State) (L i : ℕ) → seen s L i ≡ true → any_below 32 (holds s i) ≡ true
seen_held s L i e = let x = seen_by s L i e in hit_any (holds s i) 32 x.0 x.1 x.3

-- what a level does not see, no lower one sees
pub seen_lower : (s : State) (L M i : ℕ) → M ≤ L → seen s L i ≡ false → seen s M i ≡ false
seen_lower s L M i m e = none_seen s M i (λ r b l. not_seen s L i r e b (omega arith))

-- a dormant slot has no holder
pub dormant_unheld : (s : State) (slot : ℕ) → dormant s slot ≡ true → (r : ℕ) → r < 32 → holds s slot r ≡ false
unfolding dormant
dormant_unheld s slot e r b = any_none (holds s slot) 32 r (not-true (any_below 32 (holds s slot)) (search parts depth 20)) b

-- levels up to 2 see no dormant page
pub no_dormant : (s : State) (level slot : ℕ) → level ≤ 2 → sees_dormant s level slot ≡ false
unfolding sees_dormant
no_dormant s level slot h = rw (ne_eqb level 3 (λ e. omega arith))
