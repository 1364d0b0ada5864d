-- A request of a row above a level leaves the state alike for the level.
use mathlib.Core.Path.{◌≡◌, sym, ◌∙◌}
use mathlib.Core.Bool.{Bool, false, ◌&&◌}
use Prim.Native.Nat.{ℕ, ◌+◌, ◌<◌, ◌≤◌}
use native.Mathlib.Omega.{arith}
use borrow.Author.Tests.{le-leb}
use lib.Dec.{leb}
use Rattle.seq.specs.declared.Found.TheVariants.{At, Nowhere}
use Rattle.seq.proofs.Tests.{true_false, both_true, not_true_false}
use Rattle.seq.proofs.BelowLaws.{any_none}
use Rattle.std.specs.Prelude.{Option, None}
use Rattle.model.specs.declared.Cause.TheVariants.{Taken}
use Rattle.model.specs.declared.Condition.TheVariants.{Waiting}
use Rattle.model.specs.declared.Mode.{Mode}
use Rattle.model.specs.declared.Outcome.{Outcome}
use Rattle.model.specs.declared.State.{State}
use Rattle.model.specs.Parties.{level_of}
use Rattle.model.specs.State.{row_at, slot_at, holding_at}
use Rattle.model.specs.Words.{arrival_in, pins, outranks, least_arrival, slot_of}
use Rattle.model.specs.Changes.{killed}
use Rattle.model.proofs.ChangeLaws.{killed_holding, sized_killed}
use Rattle.model.proofs.PinLaws.{not_pinned}
use Rattle.model.proofs.PriorityLaws.{outranks_level}
use Rattle.model.proofs.SeenLaws.{not_seen}
use Rattle.rules.specs.Choice.{chosen}
use Rattle.rules.specs.Calls.{waiting, granted, conflicts, must_wait, pinners_killed, write_back, step2, step3, filled, served}
use Rattle.rules.specs.SoundFacts.{Sound}
use Rattle.rules.specs.Alike.{Alike}
use Rattle.rules.proofs.Same.AlikeLaws.{alike_trans}
use Rattle.rules.proofs.Leaves.PageLaws.{found_slot, killed_slot_of}
use Rattle.rules.proofs.Leaves.GrantLaws.{unheld_spared}
use Rattle.rules.proofs.Leaves.FillLaws.{sized_filled, freed}
use Rattle.rules.proofs.Leaves.ServeCases.{Step, wait_1, grant_1, grant_2, grant_3, wait_g, fill, step}
use Rattle.rules.proofs.Unseen.HiddenChanges.{killed_hidden, row_hidden, granted_hidden}
use Rattle.rules.proofs.Unseen.HiddenFill.{filled_hidden}
use Rattle.rules.proofs.Unseen.HiddenChoice.{chosen_unheld}

module _ (L : ℕ) (s : State) (z : Sound s) (me : ℕ) (mine : me < 32) (higher : L < level_of me) where
  -- where no wait is due, no conflicting pin is of the level or a lower one
  no_wait : (slot : ℕ) (mode : Mode) → must_wait s me slot mode ≡ false → (r : ℕ) → r < 32 → level_of r ≤ L → conflicts s me slot mode r ≡ false
  unfolding must_wait
  no_wait slot mode e r b l =
      let k = any_none (λ other. leb (level_of other) (level_of me) && conflicts s me slot mode other && outranks s other me) 32 r e b in
      not_true_false (conflicts s me slot mode r) (λ c. true_false (sym (both_true (both_true (le-leb (level_of r) (level_of me) (omega arith)) c) (outranks_level s r me (omega arith))) ∙ k))

  -- a grant after a kill of rows above the level
  kill_and_grant : (some : ℕ → Bool) → ((r : ℕ) → r < 32 → level_of r ≤ L → some r ≡ false) → (slot : ℕ) → slot < 64 → (mode : Mode) (arrival : ℕ) (back : Option ℕ)
      → Alike L s (granted (killed some Taken s) me slot mode arrival back).state
  kill_and_grant some f slot b mode arrival back =
      alike_trans (killed_hidden L s z.sized z.size_most some f Taken)
      (granted_hidden L (killed some Taken s) (sized_killed some s z.sized Taken) me mine higher slot b mode arrival back)

  waiting_hidden : (page : ℕ) (mode : Mode) → Alike L s (waiting s me page mode).state
  unfolding waiting
  waiting_hidden page mode = row_hidden L s z.sized me mine higher (record { condition = Waiting page mode; deadline = (row_at s me).deadline })

  fill_hidden : (slot : ℕ) → chosen s me ≡ At slot → (page : ℕ) (mode : Mode) → slot_of s page ≡ Nowhere
      → Alike L s (granted (filled (pinners_killed s slot) slot page (level_of me)) me slot mode (s.clock + s.delay) (write_back (slot_at (pinners_killed s slot) slot))).state
  unfolding pinners_killed
  fill_hidden slot e page mode n =
      let c = chosen_unheld L s z me higher slot e in
      let k : State = killed (pins s slot) Taken s in
      let f = freed s z slot c.0 in
      let b : slot < 64 = omega (arith, c.0, z.size_most) in
      alike_trans (killed_hidden L s z.sized z.size_most (pins s slot) (λ r h l. not_pinned (holding_at s slot r).pin (c.1 r h l)) Taken)
      (alike_trans
      (filled_hidden k f.sized f.most slot page (level_of me) f.there f.one (killed_slot_of (pins s slot) s z.sized z.size_most Taken page ∙ n) L
      (λ r h l. killed_holding (pins s slot) s z.sized Taken slot r h ∙ rw (not_pinned (holding_at s slot r).pin (c.1 r h l)) (z.unheld slot r b h (c.1 r h l))))
      (granted_hidden L (filled k slot page (level_of me)) (sized_filled k f.sized f.most slot page (level_of me) f.there) me mine higher slot b mode (s.clock + s.delay) (write_back (slot_at k slot))))

  pub served_hidden : (page : ℕ) (mode : Mode) → Alike L s (served s me page mode).state
  unfolding step2 step3
  served_hidden page mode = go (served s me page mode) (step s me page mode)
    where
      in_range_lem : (slot : ℕ) → slot_of s page ≡ At slot → slot < 64
      in_range_lem slot e = omega (arith, (found_slot s page slot e).0, z.size_most)

      go : (o : Outcome) → Step s me page mode o → Alike L s o.state
      go o (wait_1 slot e v w q) = rw q (waiting_hidden page mode)
      go o (grant_1 slot e v w q) = rw q (kill_and_grant (conflicts s me slot mode) (no_wait slot mode w) slot (in_range_lem slot e) mode (least_arrival s (level_of me) slot) None)
      go o (grant_2 slot e d q) = rw q (granted_hidden L s z.sized me mine higher slot (in_range_lem slot e) mode (arrival_in (slot_at s slot).content) None)
      go o (grant_3 slot e v q) = rw q (kill_and_grant (conflicts s me slot mode) (λ r h l. unheld_spared s me slot mode r (not_seen s (level_of me) slot r v h (omega arith))) slot (in_range_lem slot e) mode (s.clock + s.delay) None)
      go o (wait_g e c q) = rw q (waiting_hidden page mode)
      go o (fill slot e c q) = rw q (fill_hidden slot c page mode e)
