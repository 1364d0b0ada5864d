-- Step 3: a page that the requester's view does not see is due at clock + delay, whatever is in the slots.
use mathlib.Core.Path.{◌≡◌, sym, ◌∙◌, ap}
use mathlib.Core.Bool.{true, false}
use Prim.Native.Nat.{ℕ, ◌+◌, ◌<◌}
use native.Mathlib.Omega.{arith}
use borrow.Author.Tests.{leb-true}
use Rattle.seq.specs.declared.Found.TheVariants.{At}
use Rattle.seq.proofs.Tests.{true_false, not_true_false}
use Rattle.model.specs.declared.Answer.TheVariants.{PageUnseen, PageDormant}
use Rattle.std.specs.Prelude.{Option, None}
use Rattle.model.specs.declared.Cause.TheVariants.{Taken}
use Rattle.model.specs.declared.Holding.{Holding}
use Rattle.model.specs.declared.Mode.{Mode}
use Rattle.model.specs.declared.Outcome.{Outcome}
use Rattle.model.specs.declared.State.{State}
use Rattle.model.specs.Parties.{level_of}
use Rattle.model.specs.State.{slot_at}
use Rattle.model.specs.Words.{arrival_in, holds, pins, seen, slot_of}
use Rattle.model.specs.Changes.{killed}
use Rattle.model.proofs.ChangeLaws.{killed_holding}
use Rattle.model.proofs.SeenLaws.{not_seen}
use Rattle.rules.specs.Arrivals.{Charged, waits, fetches}
use Rattle.rules.specs.Calls.{waiting, granted, conflicts, step3, pinners_killed, write_back, filled, hits_dormant, served, viewed_in}
use Rattle.rules.specs.Sound.{sound}
use Rattle.rules.specs.SoundFacts.{Sound}
use Rattle.rules.proofs.Facts.SoundFacts.{facts}
use Rattle.rules.proofs.Leaves.FillLaws.{filled_empty, freed}
use Rattle.rules.proofs.Leaves.GrantLaws.{own_spared}
use Rattle.rules.proofs.Leaves.PageLaws.{found_has, found_below}
use Rattle.rules.proofs.Leaves.ServeCases.{Step, wait_1, grant_1, grant_2, grant_3, wait_g, fill, step}
use Rattle.rules.proofs.Promises.Granting.{Ground, Grant, killed_ground, filled_ground, granted_answer_lem, own_holding, grant_fetch}
use Rattle.rules.proofs.Promises.Reasons.{seen_page}
use Rattle.rules.proofs.Stays.StaysChoice.{chosen_free}

module _ (s : State) (sound-state : sound s ≡ true) (row page : ℕ) (mode : Mode) (b : row < 32) where
  z : Sound s
  z = facts s sound-state

  -- a grant to a row without a holding of its own, at clock + delay
  charged : (u : State) (slot : ℕ) (back : Option ℕ) → Ground s u page slot → holds u slot row ≡ false → (o : Outcome)
      → o ≡ granted u row slot mode (s.clock + s.delay) back → Charged s row o
  charged u slot back ground free o q =
      granted_answer_lem u row slot mode (s.clock + s.delay) back o.answer (ap (λ (x : Outcome). x.answer) (sym q))
      (λ k e. let n = leb-true (s.clock + s.delay) u.clock k in absurd (omega (arith, ground.clock, z.delay_least)))
      (λ k e. fetches slot back e (grant_fetch s row page mode b o g (s.clock + s.delay) slot back e).1
      (ap (λ (h : Holding). h.arrival) (own_holding s row page mode b o g) ∙ rw free))
    where
      g : Grant s row page mode o
      g = record { before = u; slot = slot; arrival = s.clock + s.delay; back = back; ground = ground; same = q }

  -- a dormant page that level 3 sees is not unseen
  dormant_told : (slot : ℕ) → slot_of s page ≡ At slot → hits_dormant s row slot ≡ true → seen s (level_of row) slot ≡ false → viewed_in (slot_of s page) s (level_of row) ≡ PageUnseen → ⊥
  dormant_told slot e d v w =
      let x : PageDormant (arrival_in (slot_at s slot).content) ≡ PageUnseen = rw (e, v, d) at w in
      let n : ◌≡◌ {A = ℕ} 0 1 = cc in omega arith

  pub unseen_charged : viewed_in (slot_of s page) s (level_of row) ≡ PageUnseen → Charged s row (served s row page mode)
  unfolding waiting step3 pinners_killed
  unseen_charged unseen = go (served s row page mode) (step s row page mode)
    where
      not_seen_there : (slot : ℕ) → slot_of s page ≡ At slot → seen s (level_of row) slot ≡ false
      not_seen_there slot e =
          not_true_false (seen s (level_of row) slot) (λ v. seen_page s z page (level_of row) slot (found_below s z page slot e) (found_has s page slot e).1 v unseen)

      go : (o : Outcome) → Step s row page mode o → Charged s row o
      go o (wait_1 slot e v w q) = waits (rw q)
      go o (grant_1 slot e v w q) = true_false (sym v ∙ not_seen_there slot e)
      go o (grant_2 slot e d q) = absurd (dormant_told slot e d (not_seen_there slot e) unseen)
      go o (grant_3 slot e v q) =
          charged (killed (conflicts s row slot mode) Taken s) slot None (killed_ground s z (conflicts s row slot mode) page slot e)
          (rw (killed_holding (conflicts s row slot mode) s z.sized Taken slot row b, own_spared s row slot mode) (not_seen s (level_of row) slot row v b (omega arith))) o q
      go o (wait_g e c q) = waits (rw q)
      go o (fill slot e c q) =
          let x = (chosen_free s row b z slot c).0 in
          let f = freed s z slot x in
          charged (filled (pinners_killed s slot) slot page (level_of row)) slot (write_back (slot_at (pinners_killed s slot) slot)) (filled_ground s z page slot (level_of row) x)
          (rw (filled_empty (killed (pins s slot) Taken s) f.sized f.most slot page (level_of row) f.there row b)) o q
