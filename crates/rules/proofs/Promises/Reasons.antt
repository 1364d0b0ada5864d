-- Document 02, T-05: a served request waits exactly for the reasons named there, and a reason outlasts every later try of a worse row.
use mathlib.Core.Path.{◌≡◌, refl, sym, ◌∙◌, ap}
use mathlib.Core.Bool.{Bool, true, false, ◌&&◌, ◌||◌, not}
use mathlib.Core.Logic.{inl, inr}
use Prim.Native.Nat.{ℕ, ◌<◌}
use native.Mathlib.Omega.{arith}
use native.Mathlib.Decide.{ℕ_discrete}
use borrow.Author.Tests.{leb-true, le-leb, ne_eqb, eq-eqb, eqb-false, not-true, not-false}
use lib.Dec.{leb, ltb, eqb}
use Rattle.seq.specs.Below.{any_below}
use Rattle.seq.specs.declared.Found.{Found}
use Rattle.seq.specs.declared.Found.TheVariants.{At, Nowhere}
use Rattle.seq.proofs.Tests.{true_false, parts, or_false, both_true, not_true_false}
use Rattle.seq.proofs.BelowLaws.{any_hit, hit_any, all_fails}
use Rattle.seq.proofs.PickLaws.{at_nowhere, pick_is, pick_some, pick_none}
use Rattle.model.specs.declared.Answer.TheVariants.{PageUnseen, Wait}
use Rattle.std.specs.Prelude.{None}
use Rattle.model.specs.declared.Cause.TheVariants.{Taken}
use Rattle.model.specs.declared.Condition.TheVariants.{Waiting}
use Rattle.model.specs.declared.Holding.{Holding}
use Rattle.model.specs.declared.Mode.{Mode}
use Rattle.model.specs.declared.Outcome.{Outcome}
use Rattle.model.specs.declared.Pin.{Pin}
use Rattle.model.specs.declared.Pin.TheVariants.{Absent, Unpinned, Read, Write}
use Rattle.model.specs.declared.Row.{Row}
use Rattle.model.specs.declared.State.{State}
use Rattle.model.specs.Parties.{level_of}
use Rattle.model.specs.Changes.{killed}
use Rattle.model.specs.State.{row_at, slot_at, holding_at}
use Rattle.model.specs.Words.{strength, strongest_pin, least_arrival, has_page, is_held, is_pin, pin_of, conflict, holds, pins, seen_holder, seen, outranks, slot_of}
use Rattle.model.proofs.ContentLaws.{has_page_lem, page_has}
use Rattle.model.proofs.PinLaws.{pin_held}
use Rattle.model.proofs.SeenLaws.{seen_by, by_seen}
use Rattle.model.proofs.PriorityLaws.{outranks_trans, outranks_level, outranks_kept}
use Rattle.rules.specs.Calls.{viewed_pin, step1, waiting, conflicts, must_wait, served, viewed_in}
use Rattle.rules.specs.Choice.{step_a, step_b, held_above, held_at_own_level, seen_pin, in_c, in_d, in_e, in_f, before_held, step_held, chosen}
use Rattle.rules.specs.Sound.{sound}
use Rattle.rules.specs.Waits.{BetterPins, CannotTake, by_lower, by_better, by_itself, NoSlot, WaitReason}
use Rattle.rules.proofs.Choosing.ChoiceSteps.{neither, no_step_a, no_step_b, c_or_d}
use Rattle.rules.specs.SoundFacts.{Sound}
use Rattle.rules.proofs.Facts.SoundFacts.{facts}
use Rattle.rules.proofs.Leaves.PageLaws.{finds, found_slot, found_has, found_below, killed_page}
use Rattle.rules.proofs.Leaves.PinWords.{conflict_in, in_conflict_is, in_conflict_held}
use Rattle.rules.proofs.Leaves.ServeCases.{served_fixed}
use Rattle.rules.specs.Slots.{LeftAlone}
use Rattle.rules.proofs.Promises.BetterSafe.{chosen_unheld, granted_page, better_safe}
use Rattle.rules.proofs.Promises.Granting.{never_waits, killed_ground}
use Rattle.rules.proofs.Promises.Serving.{Serving, waits, waits_g, joins, fills, serving}
use Rattle.rules.proofs.Stays.StaysChoice.{chosen_free}
use Rattle.rules.proofs.Stays.StaysTries.{stored_sound}

-- ---- the slots where none is chosen

-- a seen slot that neither e nor f takes
module _ (s : State) (row slot : ℕ) where
  not_own : seen s (level_of row) slot ≡ true → held_at_own_level s row slot ≡ false → CannotTake s row slot
  unfolding held_at_own_level seen_holder
  not_own v e =
      let x = all_fails (λ other. not (seen_holder s (level_of row) slot other) || (eqb (level_of other) (level_of row) && not (outranks s other row))) 32 (rw v at e) in
      let h = x.0 in
      let q = or_false (not (seen_holder s (level_of row) slot h)) (eqb (level_of h) (level_of row) && not (outranks s h row)) x.2 in
      let k : leb (level_of h) (level_of row) && holds s slot h ≡ true = not-false (seen_holder s (level_of row) slot h) q.0 in
      let l = leb-true (level_of h) (level_of row) (search parts depth 20) in
      elim (ℕ_discrete (level_of h) (level_of row)) [
        | yes w ↦ by_better h x.1 w (not-false (outranks s h row) (rw (eq-eqb (level_of h) (level_of row) w) at q.1)) (search parts depth 20)
        | no w ↦ by_lower h x.1 (omega arith) (search parts depth 20)
      ]

  own : held_at_own_level s row slot ≡ true → in_e s row slot ≡ false → in_f s row slot ≡ false → CannotTake s row slot
  unfolding in_e in_f
  own h e f =
      let p : seen_pin s (level_of row) slot ≡ true = not-false (seen_pin s (level_of row) slot) (rw h at e) in
      by_itself (not-false (pins s slot row) (rw (h, p) at f))

-- g. none: the requester can take no slot
none_held : (s : State) (row : ℕ) → chosen s row ≡ Nowhere → (slot : ℕ) → slot < s.size → CannotTake s row slot
unfolding chosen held_above step_held
none_held s row e slot b =
    let a : step_a s ≡ Nowhere = search neither depth 20 in
    let p : step_b s ≡ Nowhere = search neither depth 20 in
    let h = no_step_b s slot p b (no_step_a s slot a b) in
    go h (search neither depth 20) (search neither depth 20) (search neither depth 20) (search neither depth 20) (seen s (level_of row) slot) (held_at_own_level s row slot) refl refl
  where
    go : any_below 32 (holds s slot) ≡ true → step_held s (in_c s row) ≡ Nowhere → step_held s (in_d s row) ≡ Nowhere → step_held s (in_e s row) ≡ Nowhere → step_held s (in_f s row) ≡ Nowhere
        → (v o : Bool) → seen s (level_of row) slot ≡ v → held_at_own_level s row slot ≡ o → CannotTake s row slot
    go h c d e f false o q w = absurd (c_or_d s row slot b (both_true h (rw q)) c d)
    go h c d e f true false q w = not_own s row slot q w
    go h c d e f true true q w = own s row slot w (pick_none (in_e s row) (before_held s) s.size slot e b) (pick_none (in_f s row) (before_held s) s.size slot f b)

-- a slot that a row cannot take has a holder that outranks each row that the row outranks
ahead : (s : State) (row slot : ℕ) → row < 32 → CannotTake s row slot → (worse : ℕ) → outranks s row worse ≡ true
    → (h : ℕ) × (h < 32) × (outranks s h worse ≡ true) × (holds s slot h ≡ true)
ahead s row slot m (by_lower h b l q) worse o = (h, b, outranks_trans s h row worse (outranks_level s h row l) o, q)
ahead s row slot m (by_better h b l p q) worse o = (h, b, outranks_trans s h row worse p o, q)
ahead s row slot m (by_itself p) worse o = (row, m, o, pin_held (holding_at s slot row).pin p)

-- none is chosen where each slot started with is not
none_chosen : (s : State) (row : ℕ) → row < 32 → Sound s → ((slot : ℕ) → slot < s.size → chosen s row ≡ At slot → ⊥) → chosen s row ≡ Nowhere
none_chosen s row b z n = go (chosen s row) refl
  where
    go : (f : Found) → chosen s row ≡ f → chosen s row ≡ Nowhere
    go Nowhere e = e
    go (At slot) e = absurd (n slot (chosen_free s row b z slot e).0 e)

module _ (s : State) (z : Sound s) where
  -- where a row can take no slot, none is chosen for it
  held_none : (row : ℕ) → row < 32 → ((slot : ℕ) → slot < s.size → CannotTake s row slot) → chosen s row ≡ Nowhere
  held_none row b every = none_chosen s row b z (λ slot i e. against slot e (every slot i))
    where
      against : (slot : ℕ) → chosen s row ≡ At slot → CannotTake s row slot → ⊥
      against slot e (by_lower h m l q) = true_false (sym q ∙ (chosen_unheld s z row h m (outranks_level s h row l) slot e).1)
      against slot e (by_better h m l p q) = true_false (sym q ∙ (chosen_unheld s z row h m p slot e).1)
      against slot e (by_itself p) = true_false (sym p ∙ (chosen_free s row b z slot e).1)

  -- nor for a worse one
  worse_none : (row worse : ℕ) → row < 32 → worse < 32 → outranks s row worse ≡ true → ((slot : ℕ) → slot < s.size → CannotTake s row slot) → chosen s worse ≡ Nowhere
  worse_none row worse b c o every = none_chosen s worse c z (λ slot i e.
      let x = ahead s row slot b (every slot i) worse o in
      true_false (sym x.3 ∙ (chosen_unheld s z worse x.0 x.1 x.2 slot e).1))

  -- a page that no slot has is not found, and unseen
  nowhere_found : (page : ℕ) → ((slot : ℕ) → slot < 64 → has_page page (slot_at s slot).content ≡ false) → slot_of s page ≡ Nowhere
  nowhere_found page n = go (slot_of s page) refl
    where
      go : (f : Found) → slot_of s page ≡ f → slot_of s page ≡ Nowhere
      go Nowhere e = e
      go (At slot) e = true_false (sym (found_has s page slot e).1 ∙ n slot (found_below s z page slot e))

  unseen_page : (page level : ℕ) → ((slot : ℕ) → slot < 64 → has_page page (slot_at s slot).content ≡ false) → viewed_in (slot_of s page) s level ≡ PageUnseen
  unseen_page page level n = rw (nowhere_found page n)

  -- a page in a slot that a level sees is not unseen
  pinned_seen : (p : Pin) (arrival : ℕ) → is_held p ≡ true → viewed_pin p arrival ≡ PageUnseen → ⊥
  pinned_seen Absent arrival h e = true_false (sym h)
  pinned_seen Unpinned arrival h e = let n : ◌≡◌ {A = ℕ} 0 1 = cc in omega arith
  pinned_seen Read arrival h e = let n : ◌≡◌ {A = ℕ} 0 1 = cc in omega arith
  pinned_seen Write arrival h e = let n : ◌≡◌ {A = ℕ} 0 1 = cc in omega arith

  strongest_held : (level slot : ℕ) → seen s level slot ≡ true → is_held (strongest_pin s level slot) ≡ true
  unfolding strongest_pin seen_holder
  strongest_held level slot v =
      let x = seen_by s level slot v in
      let before : ℕ → ℕ → Bool = λ row other. ltb (strength (holding_at s slot other).pin) (strength (holding_at s slot row).pin) in
      let y = pick_some (seen_holder s level slot) before 32 x.0 x.1 (both_true (le-leb (level_of x.0) level x.2) x.3) in
      let k = (pick_is (seen_holder s level slot) before 32 y.0 y.1).1 in
      rw y.1 (search parts depth 20)

  pub seen_page : (page level slot : ℕ) → slot < 64 → has_page page (slot_at s slot).content ≡ true → seen s level slot ≡ true → viewed_in (slot_of s page) s level ≡ PageUnseen → ⊥
  seen_page page level slot b h v e =
      let f = page_has page (slot_at s slot).content h in
      pinned_seen (strongest_pin s level slot) (least_arrival s level slot) (strongest_held level slot v) (rw (finds s z page slot b f.0 f.1, v) at e)

  -- a slot that a row cannot take is seen by its level
  taken_seen : (row slot : ℕ) → row < 32 → CannotTake s row slot → seen s (level_of row) slot ≡ true
  taken_seen row slot b (by_lower h m l q) = by_seen s (level_of row) slot h m (omega arith) q
  taken_seen row slot b (by_better h m l p q) = by_seen s (level_of row) slot h m (omega arith) q
  taken_seen row slot b (by_itself p) = by_seen s (level_of row) slot row b (omega arith) (pin_held (holding_at s slot row).pin p)

  -- where the page is unseen and the row can take no slot, no slot has the page, and none is chosen
  pub no_slot_has : (row page : ℕ) → row < 32 → NoSlot s row page → (slot : ℕ) → slot < 64 → has_page page (slot_at s slot).content ≡ false
  no_slot_has row page b n slot i = not_true_false (has_page page (slot_at s slot).content) (λ h.
      seen_page page (level_of row) slot i h (taken_seen row slot b (n.every slot ((z.slot slot i).started (page_has page (slot_at s slot).content h).0))) n.unseen)

  pub no_slot_chosen : (row page : ℕ) → row < 32 → NoSlot s row page → chosen s row ≡ Nowhere
  no_slot_chosen row page b n = held_none row b n.every

  -- ---- why a served request waits

  must_wait_lem : (row page : ℕ) (mode : Mode) (slot : ℕ) → slot_of s page ≡ At slot → must_wait s row slot mode ≡ true → BetterPins s row page mode
  unfolding must_wait conflicts
  must_wait_lem row page mode slot e w =
      let f = found_slot s page slot e in
      let x = any_hit (λ other. leb (level_of other) (level_of row) && (not (eqb other row) && conflict (pin_of mode) (holding_at s slot other).pin) && outranks s other row) 32 w in
      let k = x.2 in
      record {
        slot = slot;
        slot_is = found_below s z page slot e;
        has_it = has_page_lem page (slot_at s slot).content f.1 f.2;
        other = x.0;
        other_row = x.1;
        different = eqb-false x.0 row (not-true (eqb x.0 row) (search parts depth 20));
        other_level = leb-true (level_of x.0) (level_of row) (search parts depth 20);
        better = search parts depth 20;
        against = conflict_in mode (holding_at s slot x.0).pin (search parts depth 20);
      }

  -- wait comes only by steps 1 and g
  pub waits_by : (row page : ℕ) (mode : Mode) (o : Outcome) → Serving s row page mode o → o.answer ≡ Wait → WaitReason s row page mode
  waits_by row page mode o (waits slot e v m q) k = inl (must_wait_lem row page mode slot e m)
  waits_by row page mode o (waits_g e n q) k = inr (record { unseen = rw e; every = none_held s row n })
  waits_by row page mode o (joins slot arrival some e n q) k = never_waits _ _ _ _ _ _ (rw q at k)
  waits_by row page mode o (fills slot e n q) k = never_waits _ _ _ _ _ _ (rw q at k)

  -- ---- a request with such a reason waits

  must_wait_by : (row page : ℕ) (mode : Mode) (p : BetterPins s row page mode) → must_wait s row p.slot mode ≡ true
  unfolding must_wait conflicts
  must_wait_by row page mode p =
      hit_any (λ other. leb (level_of other) (level_of row) && (not (eqb other row) && conflict (pin_of mode) (holding_at s p.slot other).pin) && outranks s other row) 32 p.other p.other_row
      (rw (le-leb (level_of p.other) (level_of row) p.other_level, ne_eqb p.other row p.different, in_conflict_is mode (holding_at s p.slot p.other).pin p.against, p.better))

  pub reason_waits : (row page : ℕ) (mode : Mode) → row < 32 → WaitReason s row page mode → (served s row page mode).answer ≡ Wait
  unfolding served step1 waiting
  reason_waits row page mode b (inl p) =
      let f = page_has page (slot_at s p.slot).content p.has_it in
      let q = in_conflict_held mode (holding_at s p.slot p.other).pin p.against in
      rw (finds s z page p.slot p.slot_is f.0 f.1, by_seen s (level_of row) p.slot p.other p.other_row p.other_level q, must_wait_by row page mode p)
  reason_waits row page mode b (inr n) = rw (nowhere_found page (no_slot_has row page b n), no_slot_chosen row page b n)

-- ---- the reason after a try of a worse row

-- where no slot is chosen, every slot keeps its page
pages_stay : (s : State) → Sound s → (row page : ℕ) (mode : Mode) → row < 32 → chosen s row ≡ Nowhere → (p i : ℕ) → i < 64
    → has_page p (slot_at (served s row page mode).state i).content ≡ has_page p (slot_at s i).content
unfolding waiting
pages_stay s z row page mode b n p i c = go (served s row page mode) (serving s row page mode)
  where
    go : (o : Outcome) → Serving s row page mode o → has_page p (slot_at o.state i).content ≡ has_page p (slot_at s i).content
    go o (waits slot e v m q) = rw q
    go o (waits_g e m q) = rw q
    go o (joins slot arrival some e m q) =
        let g = killed_ground s z some page slot e in
        rw q (granted_page (killed some Taken s) g.sized row slot b g.slot_is mode arrival None p i ∙ killed_page some s z.sized z.size_most Taken p i c)
    go o (fills slot e m q) = at_nowhere (sym m ∙ n)

-- the stored request of a worse row is served
module _ (s : State) (z : sound s ≡ true) (worse : ℕ) (c : worse < 32) (asked : ℕ) (mode' : Mode) (w : (row_at s worse).condition ≡ Waiting asked mode') (row : ℕ) (b : row < 32) (o : outranks s row worse ≡ true) where
  abbrev t : State
  t = (served s worse asked mode').state

  safe : (h : ℕ) → h < 32 → outranks s h worse ≡ true → LeftAlone s t h
  safe = better_safe s z worse c asked mode'

  still_holds : (h slot : ℕ) → LeftAlone s t h → slot < 64 → holds s slot h ≡ true → holds t slot h ≡ true
  still_holds h slot x i q = ap (λ (k : Holding). is_held k.pin) (x.holding_same slot i) ∙ q

  still_better : (h : ℕ) → LeftAlone s t h → outranks s h row ≡ true → outranks t h row ≡ true
  still_better h x q = outranks_kept t s h row (served_fixed s worse asked mode').places (ap (λ (k : Row). k.deadline) x.row_same) (ap (λ (k : Row). k.deadline) (safe row b o).row_same) ∙ q

  pins_still : (page : ℕ) (mode : Mode) → BetterPins s row page mode → BetterPins t row page mode
  pins_still page mode p =
      let x = safe p.other p.other_row (outranks_trans s p.other row worse p.better o) in
      let i = p.slot_is in
      record {
        slot = p.slot;
        slot_is = i;
        has_it = x.page_same p.slot i (in_conflict_held mode (holding_at s p.slot p.other).pin p.against) page ∙ p.has_it;
        other = p.other;
        other_row = p.other_row;
        different = p.different;
        other_level = p.other_level;
        better = still_better p.other x p.better;
        against = rw (x.holding_same p.slot i) p.against;
      }

  held_still : (slot : ℕ) → slot < 64 → CannotTake s row slot → CannotTake t row slot
  held_still slot i (by_lower h m l q) =
      let x = safe h m (outranks_trans s h row worse (outranks_level s h row l) o) in
      by_lower h m l (still_holds h slot x i q)
  held_still slot i (by_better h m l p q) =
      let x = safe h m (outranks_trans s h row worse p o) in
      by_better h m l (still_better h x p) (still_holds h slot x i q)
  held_still slot i (by_itself p) = by_itself (ap (λ (k : Holding). is_pin k.pin) ((safe row b o).holding_same slot i) ∙ p)

  slot_still : (page : ℕ) → NoSlot s row page → NoSlot t row page
  slot_still page n =
      let y = facts s z in
      let x = facts t (stored_sound s z worse c asked mode' w) in
      let gone = worse_none s y row worse b c o n.every in
      record {
        unseen = unseen_page t x page (level_of row) (λ slot i. pages_stay s y worse asked mode' c gone page slot i ∙ no_slot_has s y row page b n slot i);
        every = λ slot i. let j = rw (served_fixed s worse asked mode').size at i in held_still slot (omega (arith, y.size_most)) (n.every slot j);
      }

  pub reason_still : (page : ℕ) (mode : Mode) → WaitReason s row page mode → WaitReason t row page mode
  reason_still page mode (inl p) = inl (pins_still page mode p)
  reason_still page mode (inr n) = inr (slot_still page n)
