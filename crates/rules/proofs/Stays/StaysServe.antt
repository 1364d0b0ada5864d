-- A served request leaves a sound state sound: each of its steps grants a page, or waits.
use mathlib.Core.Path.{◌≡◌, refl, sym, ◌∙◌}
use mathlib.Core.Bool.{Bool, true, false, cond}
use Prim.Native.Nat.{ℕ, ◌+◌, ◌<◌, ◌≤◌}
use native.Mathlib.Omega.{arith}
use borrow.Author.Tests.{le-leb}
use Rattle.seq.specs.declared.Found.TheVariants.{At, Nowhere}
use Rattle.seq.proofs.Tests.{true_false, both_true, parts}
use Rattle.std.specs.Prelude.{None}
use Rattle.model.specs.declared.Cause.TheVariants.{Taken}
use Rattle.model.specs.declared.Mode.{Mode}
use Rattle.model.specs.declared.Outcome.{Outcome}
use Rattle.model.specs.declared.State.{State}
use Rattle.model.specs.Parties.{level_of, may_access}
use Rattle.model.specs.State.{empty_holding, slot_at, holding_at}
use Rattle.model.specs.Words.{is_filled, page_in, arrival_in, is_pin, pin_of, pins, seen_holder, seen, sees_dormant, least_arrival, slot_of}
use Rattle.model.specs.Changes.{released, killed, cleared, wrote_slot}
use Rattle.model.proofs.ChangeLaws.{killed_slot, killed_holding}
use Rattle.model.proofs.ContentLaws.{has_page_lem}
use Rattle.model.proofs.PinLaws.{no_pin, not_pinned, pin_held}
use Rattle.model.proofs.SeenLaws.{dormant_unheld, not_seen}
use Rattle.model.proofs.ArrivalLaws.{least_is, least_first}
use Rattle.rules.specs.Calls.{waiting, granted, conflicts, step2, step3, pinners_killed, write_back, filled, unseen_at, hits_dormant, served}
use Rattle.rules.specs.Choice.{chosen}
use Rattle.rules.specs.SoundFacts.{Sound}
use Rattle.rules.proofs.Facts.SoundFacts.{held_taken}
use Rattle.rules.proofs.Leaves.PageLaws.{found_slot, not_found}
use Rattle.rules.proofs.Leaves.FillLaws.{filled_at, filled_empty}
use Rattle.rules.proofs.Leaves.ServeCases.{Step, wait_1, grant_1, grant_2, grant_3, wait_g, fill, step}
use Rattle.rules.proofs.Stays.StaysBase.{slot_marked}
use Rattle.rules.proofs.Stays.StaysDrop.{killed_sound}
use Rattle.rules.proofs.Stays.StaysOwn.{waiting_sound}
use Rattle.rules.proofs.Stays.StaysNew.{Asking}
use Rattle.rules.proofs.Stays.StaysGrant.{granted_sound}
use Rattle.rules.proofs.Stays.StaysFill.{asking_filled, filled_sound}
use Rattle.rules.proofs.Stays.StaysChoice.{chosen_free}
use Rattle.rules.proofs.Stays.StaysTaken.{asking_killed, killed_granted}

module _ (s : State) (row page : ℕ) (mode : Mode) (h : Sound s) (a : Asking s row) (p : page ≤ 4095) (m : may_access s.borders (level_of row) page mode ≡ true) where
  wait_sound : Sound (waiting s row page mode).state
  wait_sound = waiting_sound s row page mode a.row_is h a.live a.settled p m

  module _ (slot : ℕ) (b : slot < 64) (f : is_filled (slot_at s slot).content ≡ true) (e : page_in (slot_at s slot).content ≡ page) where
    -- granted by each of the steps 1 to 3
    sound_1 : seen s (level_of row) slot ≡ true → Sound (granted (killed (conflicts s row slot mode) Taken s) row slot mode (least_arrival s (level_of row) slot) None).state
    unfolding seen_holder
    sound_1 v =
        let x = least_is s (level_of row) slot v in
        let y = h.held slot x.0 b x.1 x.2 in
        killed_granted s row mode h a slot (least_arrival s (level_of row) slot) b f (rw e m)
        (omega (arith, x.3, y.after)) (omega (arith, x.3, y.arrival))
        (λ w. omega (arith, a.settled.arrived slot b w, least_first s (level_of row) slot row a.row_is (both_true (le-leb (level_of row) (level_of row) (omega arith)) w)))

    sound_2 : hits_dormant s row slot ≡ true → Sound (step2 s row slot mode).state
    unfolding sees_dormant step2
    sound_2 v =
        let d = dormant_unheld s slot (search parts depth 20) in
        granted_sound s row slot mode (arrival_in (slot_at s slot).content) h
        (record {
          asking = a;
          slot_is = b;
          filled = f;
          allowed = rw e m;
          least = omega arith;
          most = (h.slot slot b).arrival f;
          own = λ w. true_false (sym w ∙ d row a.row_is);
          alone = λ q c _. no_pin (pin_of mode) (holding_at s slot q).pin (not_pinned (holding_at s slot q).pin (d q c));
        })
        None

    sound_3 : seen s (level_of row) slot ≡ false → Sound (unseen_at (At slot) s row page mode).state
    unfolding step3
    sound_3 v =
        killed_granted s row mode h a slot (s.clock + s.delay) b f (rw e m) ((h.slot slot b).arrival f) (omega arith)
        (λ w. true_false (sym w ∙ not_seen s (level_of row) slot row v a.row_is (omega arith)))

  module _ (none : slot_of s page ≡ Nowhere) (slot : ℕ) (c : chosen s row ≡ At slot) where
    -- the rows that pin the slot have been killed
    abbrev n : State
    n = killed (pins s slot) Taken s

    loose : (r : ℕ) → r < 32 → pins n slot r ≡ false
    loose r b = rw (killed_holding (pins s slot) s h.sized Taken slot r b) (go (pins s slot r) refl)
      where
        go : (x : Bool) → pins s slot r ≡ x → is_pin (cond x empty_holding (holding_at s slot r)).pin ≡ false
        go true e = refl
        go false e = e

    absent : (j : ℕ) → j < 64 → is_filled (slot_at n j).content ≡ true → page_in (slot_at n j).content ≡ page → ⊥
    absent j b f e =
        let k = slot_marked (wrote_slot (pins s slot) s j) (slot_at s j) (slot_at n j) (killed_slot (pins s slot) s h.sized Taken j b) in
        let g = sym k.filled ∙ f in
        true_false (sym (has_page_lem page (slot_at s j).content g (sym k.page ∙ e))
        ∙ not_found s page j none ((h.slot j b).started g))

    fill_sound : Sound (granted (filled (pinners_killed s slot) slot page (level_of row)) row slot mode (s.clock + s.delay) (write_back (slot_at (pinners_killed s slot) slot))).state
    unfolding pinners_killed killed released filled cleared
    fill_sound =
        let x = chosen_free s row a.row_is h slot c in
        let k = killed_sound (pins s slot) Taken s h (λ r b w. held_taken s h slot r (omega (arith, x.0, h.size_most)) b (pin_held (holding_at s slot r).pin w)) in
        let y = asking_killed (pins s slot) Taken s row h x.1 a in
        granted_sound (filled n slot page (level_of row)) row slot mode (s.clock + s.delay)
        (filled_sound n slot page (level_of row) k x.0 p (omega (arith, a.row_is)) loose absent)
        (record {
          asking = asking_filled n slot page (level_of row) k x.0 row y;
          slot_is = omega (arith, x.0, h.size_most);
          filled = rw (filled_at n k.sized k.size_most slot page (level_of row) x.0) refl;
          allowed = rw (filled_at n k.sized k.size_most slot page (level_of row) x.0) m;
          least = rw (filled_at n k.sized k.size_most slot page (level_of row) x.0) (omega arith);
          most = omega arith;
          own = λ w. true_false (sym (rw (filled_empty n k.sized k.size_most slot page (level_of row) x.0 row a.row_is) at w));
          alone = λ q b _. rw (filled_empty n k.sized k.size_most slot page (level_of row) x.0 q b) (no_pin (pin_of mode) empty_holding.pin refl);
        })
        (write_back (slot_at n slot))

  pub served_sound : Sound (served s row page mode).state
  served_sound = go (served s row page mode) (step s row page mode)
    where
      at : {P : Type 0} (slot : ℕ) → slot_of s page ≡ At slot → (slot < 64 → is_filled (slot_at s slot).content ≡ true → page_in (slot_at s slot).content ≡ page → P) → P
      at slot e k = let x = found_slot s page slot e in k (omega (arith, x.0, h.size_most)) x.1 x.2

      go : (o : Outcome) → Step s row page mode o → Sound o.state
      go o (wait_1 slot e v w q) = rw q wait_sound
      go o (grant_1 slot e v w q) = rw q (at slot e (λ b f i. sound_1 slot b f i v))
      go o (grant_2 slot e d q) = rw q (at slot e (λ b f i. sound_2 slot b f i d))
      go o (grant_3 slot e v q) = rw q (at slot e (λ b f i. sound_3 slot b f i v))
      go o (wait_g e c q) = rw q wait_sound
      go o (fill slot e c q) = rw q (fill_sound e slot c)
