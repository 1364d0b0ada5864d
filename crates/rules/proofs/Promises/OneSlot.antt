-- A page is in at most one slot: in every sound state, and after every list of calls from a fresh start.
use mathlib.Core.Path.{◌≡◌}
use mathlib.Core.Bool.{true}
use mathlib.Core.List.{List}
use Prim.Native.Nat.{ℕ, ◌<◌, ◌≤◌}
use Rattle.model.specs.declared.State.{State}
use Rattle.model.specs.State.{fresh, slot_at}
use Rattle.model.specs.Words.{has_page}
use Rattle.rules.specs.Sound.{sound}
use Rattle.model.specs.declared.Call.{Call}
use Rattle.rules.specs.Run.{after}
use Rattle.rules.proofs.Facts.SoundFacts.{facts}
use Rattle.rules.proofs.Leaves.PageLaws.{one_place}
use Rattle.rules.proofs.Stays.StaysFresh.{fresh_sound}
use Rattle.rules.proofs.Stays.StaysSound.{run_sound}

-- no page in two slots
pub one_slot : (s : State) → sound s ≡ true → (page i j : ℕ) → i < 64 → j < 64
    → has_page page (slot_at s i).content ≡ true → has_page page (slot_at s j).content ≡ true → i ≡ j
one_slot s z = one_place s (facts s z)

-- no page in two slots after any list of calls, starts among them, from a fresh start
pub one_slot_ever : (slots delay : ℕ) → 1 ≤ slots → slots ≤ 64 → 1 ≤ delay → delay ≤ 255 → (cs : List Call) (page i j : ℕ) → i < 64 → j < 64
    → has_page page (slot_at (after (fresh slots delay) cs) i).content ≡ true → has_page page (slot_at (after (fresh slots delay) cs) j).content ≡ true → i ≡ j
one_slot_ever slots delay a b c d cs = one_slot (after (fresh slots delay) cs) (run_sound (fresh slots delay) cs (fresh_sound slots delay a b c d))
