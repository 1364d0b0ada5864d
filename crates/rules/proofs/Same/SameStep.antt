-- A call by a level up to L, or a tick, on two states alike for L gives the same answer and alike states, where the borders agree once a row of the first has begun.
use mathlib.Core.Path.{◌≡◌, sym, ◌∙◌}
use mathlib.Core.Bool.{true}
use Prim.Native.Nat.{ℕ, ◌≤◌}
use native.Mathlib.Omega.{arith}
use borrow.Author.Tests.{leb-true}
use Rattle.seq.proofs.Tests.{true_false}
use Rattle.model.specs.declared.State.{State}
use Rattle.model.specs.Parties.{row_of, mode_of}
use Rattle.rules.specs.Calls.{three_steps, served, requested}
use Rattle.rules.specs.Refusals.{request_refusal, tick_refusal}
use Rattle.model.specs.declared.Call.{Call}
use Rattle.model.specs.declared.Call.TheVariants.{Start, Begin, Request, Unpin, End, Tick, Look, View, Count, Borders}
use Rattle.rules.specs.Run.{outcome}
use Rattle.rules.specs.Secrecy.{is_kept}
use Rattle.rules.specs.Sound.{sound}
use Rattle.rules.specs.Tries.{ticked}
use Rattle.rules.specs.SoundFacts.{Sound, BordersSound}
use Rattle.rules.proofs.Facts.SoundFacts.{facts, borders_facts}
use Rattle.rules.specs.Alike.{Alike, Same}
use Rattle.rules.proofs.Leaves.RefusalFacts.{request_taken, tick_taken}
use Rattle.rules.proofs.Same.SameSlots.{same_open_count}
use Rattle.rules.proofs.Same.SameChanges.{same_unless}
use Rattle.rules.proofs.Same.SameRefusals.{same_request_refusal, same_tick_refusal}
use Rattle.rules.proofs.Same.SameCalls.{same_steps, same_begun, same_ended, same_looked, same_viewed, same_counted}
use Rattle.rules.proofs.Same.SameUnpin.{same_unpinned}
use Rattle.rules.proofs.Same.SameRequest.{same_request}
use Rattle.rules.proofs.Same.SameTries.{same_tries}
use Rattle.rules.proofs.Stays.StaysSound.{steps_sound}

module _ (L : ℕ) (s t : State) (two : L ≤ 2) (y : Sound s) (z : Sound t) (alike : Alike L s t) (level number : ℕ) (low : level ≤ L) where
  same_requested : BordersSound s → (s.begun ≡ true → s.borders ≡ t.borders) → (page mode : ℕ) → Same L (requested s level number page mode) (requested t level number page mode)
  unfolding requested
  same_requested o agree page mode =
      same_unless L s t (request_refusal s level number page mode) (request_refusal t level number page mode)
      (served s (row_of level number) page (mode_of mode)) (served t (row_of level number) page (mode_of mode))
      alike (same_request_refusal L s t alike two level number low o agree page mode)
      (λ e.
      let n = (request_taken s level number page mode e).names in
      same_request L s t (row_of level number) page (mode_of mode) two n.row_is (omega (arith, n.own_level)) y z alike)

-- a tick: its steps, and then the tries
same_ticked : (L : ℕ) (s t : State) → L ≤ 2 → sound s ≡ true → sound t ≡ true → Alike L s t → (room : ℕ) → Same L (ticked s room) (ticked t room)
unfolding ticked
same_ticked L s t two y z alike room =
    same_unless L s t (tick_refusal s room) (tick_refusal t room) _ _ alike (same_tick_refusal L s t alike room)
    (λ e. (
      rw alike.clock,
      same_tries L (three_steps s) (three_steps t) (same_steps L s t (facts s y) (facts t z) alike) two
          (steps_sound s y (tick_taken s room e).early) (steps_sound t z (tick_taken t room (sym (same_tick_refusal L s t alike room) ∙ e)).early),
    ))

pub same_step : (L : ℕ) (s t : State) (c : Call) → L ≤ 2 → sound s ≡ true → sound t ≡ true → Alike L s t → (s.begun ≡ true → s.borders ≡ t.borders) → is_kept L c ≡ true
    → Same L (outcome s c) (outcome t c)
unfolding outcome is_kept
same_step L s t (Start slots delay) two y z a g k = true_false (sym k)
same_step L s t (Begin level number deadline) two y z a g k = same_begun L s t (facts s y) (facts t z) a two level (leb-true level L k) number deadline
same_step L s t (Request level number page mode) two y z a g k = same_requested L s t two (facts s y) (facts t z) a level number (leb-true level L k) (borders_facts s y) g page mode
same_step L s t (Unpin level number page) two y z a g k = same_unpinned L s t two (facts s y) (facts t z) a level number page (leb-true level L k)
same_step L s t (End level number) two y z a g k = same_ended L s t (facts s y) (facts t z) a two level (leb-true level L k) number
same_step L s t (Tick room) two y z a g k = same_ticked L s t two y z a room
same_step L s t (Look level number) two y z a g k = same_looked L s t (facts s y) (facts t z) a two level (leb-true level L k) number
same_step L s t (View level page) two y z a g k = same_viewed L s t (facts s y) (facts t z) a two level (leb-true level L k) page
same_step L s t (Count level) two y z a g k = same_counted L s t (facts s y) (facts t z) a two level (leb-true level L k) (same_open_count L s t (facts s y) (facts t z) a level (leb-true level L k))
same_step L s t (Borders first second third) two y z a g k = true_false (sym k)
