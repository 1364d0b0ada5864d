-- The slot of a page, and what is read of the holdings of a slot.
use mathlib.Core.Path.{◌≡◌, refl, sym, ◌∙◌, ap}
use mathlib.Core.List.{List, map}
use mathlib.Core.Bool.{Bool, true, false}
use Prim.Native.Nat.{ℕ, ◌<◌, ◌≤◌}
use native.Mathlib.Omega.{arith}
use lib.Dec.{ltb}
use lib.ListN.{length}
use Rattle.std.specs.Prelude.{Option, Some, None, filter}
use Rattle.std.specs.List.{enumerate_from, reduce}
use Rattle.std.specs.Option.{unwrap_or}
use Rattle.std.specs.Ordering.{max_by_ordering}
use Rattle.std.proofs.lemmas.Grind.{common_steps}
use Rattle.std.proofs.lemmas.List.{take_all}
use Rattle.seq.specs.Below.{pick_below, at_found}
use Rattle.seq.specs.declared.Found.{Found}
use Rattle.seq.specs.declared.Found.TheVariants.{At, Nowhere}
use Rattle.seq.proofs.PickLaws.{pick_is, picked_same}
use Rattle.model.specs.declared.Answer.{Answer}
use Rattle.model.specs.declared.Answer.TheVariants.{PageUnseen, PageDormant}
use Rattle.model.specs.declared.Holding.{Holding}
use Rattle.model.specs.declared.Pin.{Pin}
use Rattle.model.specs.declared.Pin.TheVariants.{Absent}
use Rattle.model.specs.declared.State.{State}
use Rattle.model.specs.contracts.PinOrd.TheImpl.{ghosts}
use Rattle.model.specs.State.{empty_holding, slot_at, holding_at}
use Rattle.model.specs.Words.{arrival_in, has_page, strength, stronger, seen_holder, seen, strongest_pin, page_slot}
use Rattle.rules.specs.Calls.{viewed_pin, viewed_in}
use Rattle.model.specs.Inner.Holdings.{holdings_on}
use Rattle.serve.specs.Inner.SlotHoldings.{seen_test, held_by, seen_in, least_in, sees_dormant_in}
use Rattle.serve.proofs.SlotLaws.{held_by_lem, seen_in_lem, least_in_lem, dormant_in_lem}
use Rattle.calls.specs.Inner.Parts.{strongest_in}
use Rattle.calls.proofs.ChainLaws.{best_of}

max_is : (p q : Pin) → max_by_ordering (ghosts.cmp p q) p q ≡ stronger p q
unfolding stronger
max_is p q = grind (arith, common_steps)

-- the strongest of some pins is the greatest
pub max_pin : (l : List Pin) → reduce (λ p q. max_by_ordering (ghosts.cmp p q) p q) l ≡ reduce stronger l
max_pin l = λ j. reduce (λ p q. max_is p q j) l

-- the strongest pin among the holdings that a level sees
pub strongest_chain : (held : List Holding) (level : ℕ) → length held ≡ 32 → (o : Option Pin)
    → o ≡ reduce stronger (map (λ (p : ℕ × Holding). p.1.pin) (filter (λ p. seen_test level p.0 p.1) (enumerate_from 0 held))) → unwrap_or o Absent ≡ strongest_in held level
unfolding strongest_in stronger
strongest_chain held level l o e =
    let k = best_of held empty_holding (seen_test level) (λ h. h.pin) stronger (λ i j. ltb (strength (held_by held j).pin) (strength (held_by held i).pin)) (λ i j. refl) 32 (rw l (omega arith)) in
    rw (e ∙ rw (take_all 32 held (omega arith)) at k) (go (pick_below 32 (λ row. seen_test level row (held_by held row)) (λ row other. ltb (strength (held_by held other).pin) (strength (held_by held row).pin))))
  where
    go : (f : Found) → unwrap_or (at_found f (λ i. Some (held_by held i).pin) None) Absent ≡ at_found f (λ row. (held_by held row).pin) Absent
    go Nowhere = refl
    go (At i) = refl

-- a page's slot is one of those started with
pub found_below : (s : State) (page slot : ℕ) (f : Found) → s.size ≤ 64 → f ≡ page_slot s.slots s.size page → f ≡ At slot → slot < 64
found_below s page slot f h e q =
    let y = pick_is (λ i. has_page page (slot_at s i).content) (λ i j. false) s.size slot (sym e ∙ q) in
    omega (arith, y.0)

module _ (s : State) (level slot : ℕ) where
  seen_test_lem : (row : ℕ) → seen_test level row (holding_at s slot row) ≡ seen_holder s level slot row
  unfolding seen_test seen_holder
  seen_test_lem row = refl

  strongest_in_lem : strongest_in (holdings_on s slot) level ≡ strongest_pin s level slot
  unfolding strongest_in strongest_pin
  strongest_in_lem =
      picked_same (λ row. seen_test level row (held_by (holdings_on s slot) row)) (seen_holder s level slot)
      (λ row other. ltb (strength (held_by (holdings_on s slot) other).pin) (strength (held_by (holdings_on s slot) row).pin))
      (λ row other. ltb (strength (holding_at s slot other).pin) (strength (holding_at s slot row).pin))
      (λ row. (held_by (holdings_on s slot) row).pin) (λ row. (holding_at s slot row).pin) Absent 32
      (λ row h. ap (seen_test level row) (held_by_lem s slot row h) ∙ seen_test_lem row)
      (λ i j h k _ _. rw (held_by_lem s slot i h, held_by_lem s slot j k))
      (λ i h _. rw (held_by_lem s slot i h))

  module _ (held : List Holding) (on : held ≡ holdings_on s slot) (sees : Bool) (e : sees ≡ seen_in held level) where
    seen_is : seen s level slot ≡ sees
    seen_is = sym (e ∙ ap (λ (h : List Holding). seen_in h level) on ∙ seen_in_lem s slot level)

    pub view_pin : (p : Pin) (least : ℕ) (a : Answer) → sees ≡ true → p ≡ strongest_in held level → least ≡ least_in held level → a ≡ viewed_pin p least → a ≡ viewed_in (At slot) s level
    view_pin p least a t f g q = rw (seen_is ∙ t) (q ∙ rw (f, g, on, strongest_in_lem, least_in_lem s slot level))

    pub view_dormant : (b : Bool) (arrival : ℕ) → sees ≡ false → b ≡ sees_dormant_in held (slot_at s slot) level → b ≡ true → arrival ≡ arrival_in (slot_at s slot).content → PageDormant arrival ≡ viewed_in (At slot) s level
    view_dormant b arrival t f g q = rw (seen_is ∙ t, sym (dormant_in_lem s slot level) ∙ sym (f ∙ ap (λ (h : List Holding). sees_dormant_in h (slot_at s slot) level) on) ∙ g, q)

    pub view_none : (b : Bool) → sees ≡ false → b ≡ sees_dormant_in held (slot_at s slot) level → b ≡ false → PageUnseen ≡ viewed_in (At slot) s level
    view_none b t f g = rw (seen_is ∙ t, sym (dormant_in_lem s slot level) ∙ sym (f ∙ ap (λ (h : List Holding). sees_dormant_in h (slot_at s slot) level) on) ∙ g)
