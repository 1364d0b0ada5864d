-- An unpin's reply.
use mathlib.Core.Path.{◌≡◌, refl, sym, ◌∙◌, ap}
use mathlib.Core.Bool.{Bool, false, cond}
use mathlib.Core.List.{List}
use Prim.Native.Nat.{ℕ, ◌+◌, ◌*◌, ◌/◌, ◌%◌, ◌<◌}
use native.Mathlib.Omega.{arith}
use native.Mathlib.Decide.{ℕ_discrete}
use borrow.Author.Tests.{eq-eqb, ne_eqb}
use lib.ListN.{length, get_or, set, replicate, length-replicate}
use Rattle.seq.specs.Each.{each}
use Rattle.seq.proofs.EachLaws.{replicate_at, each_length, each_still}
use Rattle.model.specs.declared.Pin.TheVariants.{Unpinned}
use Rattle.model.specs.declared.Slot.{Slot}
use Rattle.model.specs.declared.Holding.{Holding}
use Rattle.model.specs.declared.Setting.TheVariants.{Left}
use Rattle.model.specs.declared.Change.{Change}
use Rattle.model.specs.declared.State.{State}
use Rattle.model.specs.State.{empty_holding, slot_at, holding_at, put_slot, put_holding}
use Rattle.model.specs.Words.{is_pin, pins}
use Rattle.model.specs.Changes.{written, dirtied}
use Rattle.model.specs.Inner.Changed.{holding_after, changed}
use Rattle.model.specs.Ranges.{Sized}
use Rattle.model.proofs.ChangedLaws.{held_set}
use Rattle.rules.specs.Calls.{unpinned_at}
use Rattle.serve.specs.Inner.SlotHoldings.{holdings_on}
use Rattle.serve.proofs.SlotLaws.{held_by_lem}

-- p: whether the holding is a pin
pub pin_is : (s : State) (row slot : ℕ) → row < 32 → (held : List Holding) (p : Bool) → held ≡ holdings_on s slot → p ≡ is_pin (get_or held row empty_holding).pin → pins s slot row ≡ p
pin_is s row slot b held p e f = sym (f ∙ rw (e, held_by_lem s slot row b))

module _ (s : State) (z : Sized s) (row slot : ℕ) (b : row < 32) (d : slot < 64) where
  same : Change
  same = record { clock = s.clock; rows = s.rows; slots = s.slots; gone = replicate 32 false; slot = slot; held = holdings_on s slot; setting = Left }

  all_same : each (holding_after same) s.holdings ≡ s.holdings
  unfolding holding_after same
  all_same = each_still (holding_after same) s.holdings empty_holding (λ k m. elim (ℕ_discrete (k / 32) slot) [
    | yes p ↦
        let here : slot * 32 + k % 32 ≡ k = omega arith in
        rw (eq-eqb (k / 32) slot p, held_by_lem s slot (k % 32) (omega arith), here)
    | no p ↦ rw (ne_eqb (k / 32) slot p, replicate_at 32 (k % 32) false)
  ])

  on_length : length (holdings_on s slot) ≡ 32
  unfolding holdings_on
  on_length = each_length _ (replicate 32 empty_holding) ∙ length-replicate 32 empty_holding

  set_changed : (held : List Holding) (y : Slot) (h : Holding) → held ≡ holdings_on s slot
      → changed s (record { clock = s.clock; rows = s.rows; slots = set s.slots slot y; gone = replicate 32 false; slot = slot; held = set held row h; setting = Left }) ≡ put_holding (put_slot s slot y) slot row h
  unfolding changed same
  set_changed held y h e =
      let c : Change = record { clock = s.clock; rows = s.rows; slots = set s.slots slot y; gone = replicate 32 false; slot = slot; held = set held row h; setting = Left } in
      let t : each (holding_after c) s.holdings ≡ set s.holdings (slot * 32 + row) h =
      sym (held_set s z same c row h d b on_length refl refl (ap (λ (l : List Holding). set l row h) e)) ∙ ap (λ (l : List Holding). set l (slot * 32 + row) h) all_same in
      λ j. record { size = s.size; delay = s.delay; clock = s.clock; rows = s.rows; slots = set s.slots slot y; holdings = t j; borders = s.borders; begun = s.begun; places = s.places }

  pub unpin_changed : (held : List Holding) (w : Bool) (y : Slot) → held ≡ holdings_on s slot → w ≡ written s.clock (get_or held row empty_holding)
      → y ≡ cond w (dirtied (slot_at s slot)) (slot_at s slot)
      → changed s (record {
        clock = s.clock;
        rows = s.rows;
        slots = set s.slots slot y;
        gone = replicate 32 false;
        slot = slot;
        held = set held row (record { pin = Unpinned; arrival = (get_or held row empty_holding).arrival; touch = (get_or held row empty_holding).touch });
        setting = Left;
      }) ≡ unpinned_at s row slot
  unfolding unpinned_at
  unpin_changed held w y e f g =
      let there : get_or held row empty_holding ≡ holding_at s slot row = ap (λ (l : List Holding). get_or l row empty_holding) e ∙ held_by_lem s slot row b in
      set_changed held y (record { pin = Unpinned; arrival = (get_or held row empty_holding).arrival; touch = (get_or held row empty_holding).touch }) e
      ∙ rw (g, f, there)
