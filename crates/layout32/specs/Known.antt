-- Document 02, T-07: what tells a sound area of the last 32-bit layout from any other: its version, its clock and its deadlines; and what is so of it.
use Rattle.std.specs.Prelude.{◌≡◌, Bool, true, ◌&&◌, ◌||◌, List, ℕ, ◌≤◌, leb, ltb, eqb, length, get_or}
use Rattle.seq.specs.Below.{all_below}
use Rattle.model.specs.declared.Row.{Row}
use Rattle.model.specs.State.{free_row}
use Rattle.rules.specs.Sound.{sound}
use Rattle.area.specs.Layout.{version, decoded, exact_as}
use Rattle.layout32.specs.Layout as Old
use Rattle.layout32.specs.Sound32.{last_clock32}

-- the deadlines of the rows are unsigned 32-bit numbers, and the clock is not past the last tick that it had
unfoldable pub fits : ℕ → List Row → Bool
fits clock rows = leb clock last_clock32 && all_below 32 (λ row. ltb (get_or rows row free_row).deadline 4294967296)

-- any clock and any rows in the version that is written, and those that fit in the last 32-bit one
unfoldable pub known : ℕ → ℕ → List Row → Bool
known v clock rows = eqb v version || (eqb v Old.version && fits clock rows)

-- what is so of a sound area of that layout: in the layout that is written it is exact but for its version, and names the same state, which is sound
pub record OldArea (a : List ℕ) : Type 0 where
  pub long : 65536 ≤ length a
  pub exactly : exact_as Old.version a ≡ true
  pub narrow : fits (decoded a).clock (decoded a).rows ≡ true
  pub sound_state : sound (decoded a) ≡ true
  pub named : Old.decoded a ≡ decoded a
