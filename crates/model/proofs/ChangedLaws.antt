-- The state after a change: its holdings place by place, where no slot's holdings are replaced, and where one of them is set.
use mathlib.Core.Path.{◌≡◌, refl, sym, ◌∙◌}
use mathlib.Core.Bool.{Bool, false, cond}
use mathlib.Core.List.{List}
use Prim.Native.Nat.{ℕ, ◌+◌, ◌*◌, ◌/◌, ◌%◌, ◌<◌}
use native.Mathlib.Omega.{arith}
use native.Mathlib.Decide.{ℕ_discrete}
use borrow.Author.Tests.{eq-eqb, ne_eqb}
use lib.ListN.{length, get_or, set, length-set}
use lib.Seq.{ext_get_or, get_or-set_same, get_or-set_other}
use Rattle.seq.specs.Each.{each}
use Rattle.seq.proofs.EachLaws.{each_length, each_at, each_same, each_still}
use Rattle.model.specs.State.{empty_holding, holding_at}
use Rattle.model.specs.Inner.Changed.{marked, holding_after, borders_after, begun_after, places_after, changed, holdings_dropped}
use Rattle.model.specs.declared.Row.{Row}
use Rattle.model.specs.declared.Slot.{Slot}
use Rattle.model.specs.declared.Holding.{Holding}
use Rattle.model.specs.declared.Setting.{Setting}
use Rattle.model.specs.declared.Change.{Change}
use Rattle.model.specs.declared.State.{State}
use Rattle.model.specs.Ranges.{Sized}
use Rattle.model.proofs.StateLaws.{place_slot, place_row}

module _ (s : State) (z : Sized s) where
  -- a list that agrees with a change at every place
  pub holdings_are : (c : Change) (l : List Holding) → length l ≡ 2048
      → ((k : ℕ) → k < 2048 → holding_after c k (get_or s.holdings k empty_holding) ≡ get_or l k empty_holding)
      → each (holding_after c) s.holdings ≡ l
  holdings_are c l e f =
      let n : length (each (holding_after c) s.holdings) ≡ 2048 = each_length (holding_after c) s.holdings ∙ z.holdings in
      ext_get_or empty_holding (each (holding_after c) s.holdings) l (n ∙ sym e)
      (λ k b. each_at (holding_after c) s.holdings k empty_holding (rw z.holdings (rw n at b)) ∙ f k (rw n at b))

  -- the slot whose holdings are replaced
  pub held_at : (c : Change) (row : ℕ) → c.slot < 64 → row < 32 → holding_at (changed s c) c.slot row ≡ get_or c.held row empty_holding
  unfolding changed holding_after
  held_at c row b h =
      each_at (holding_after c) s.holdings (c.slot * 32 + row) empty_holding (rw z.holdings (omega arith))
      ∙ rw (place_slot c.slot row h, place_row c.slot row h, eq-eqb c.slot c.slot refl)

  module _ (clock : ℕ) (rows : List Row) (slots : List Slot) (gone : List Bool) (setting : Setting) where
    -- some rows lose all their holdings
    pub changed_dropped : changed s (holdings_dropped clock rows slots gone setting) ≡ record {
      size = s.size;
      delay = s.delay;
      clock = clock;
      rows = rows;
      slots = slots;
      holdings = each (λ k h. cond (marked gone (k % 32)) empty_holding h) s.holdings;
      borders = borders_after setting s.borders;
      begun = begun_after setting s.begun;
      places = places_after setting s.places;
    }
    unfolding changed holdings_dropped holding_after
    changed_dropped = λ j. record {
      size = s.size;
      delay = s.delay;
      clock = clock;
      rows = rows;
      slots = slots;
      holdings =
          each_same (holding_after (holdings_dropped clock rows slots gone setting)) (λ k h. cond (marked gone (k % 32)) empty_holding h) s.holdings empty_holding
          (λ k b. rw (ne_eqb (k / 32) 64 (λ e. omega (arith, z.holdings)))) j;
      borders = borders_after setting s.borders;
      begun = begun_after setting s.begun;
      places = places_after setting s.places;
    }

    -- no row does
    pub changed_none : ((row : ℕ) → row < 32 → marked gone row ≡ false) → changed s (holdings_dropped clock rows slots gone setting) ≡ record {
      size = s.size;
      delay = s.delay;
      clock = clock;
      rows = rows;
      slots = slots;
      holdings = s.holdings;
      borders = borders_after setting s.borders;
      begun = begun_after setting s.begun;
      places = places_after setting s.places;
    }
    changed_none f =
        changed_dropped
        ∙ (λ j. record {
          size = s.size;
          delay = s.delay;
          clock = clock;
          rows = rows;
          slots = slots;
          holdings = each_still (λ k h. cond (marked gone (k % 32)) empty_holding h) s.holdings empty_holding (λ k _. rw (f (k % 32) (omega arith))) j;
          borders = borders_after setting s.borders;
          begun = begun_after setting s.begun;
          places = places_after setting s.places;
        })

  -- one holding of the slot is set
  pub held_set : (c d : Change) (row : ℕ) (h : Holding) → c.slot < 64 → row < 32 → length c.held ≡ 32
      → d.slot ≡ c.slot → d.gone ≡ c.gone → d.held ≡ set c.held row h
      → set (each (holding_after c) s.holdings) (c.slot * 32 + row) h ≡ each (holding_after d) s.holdings
  unfolding holding_after
  held_set c d row h b g l e1 e2 e3 =
      let place = c.slot * 32 + row in
      let old = each (holding_after c) s.holdings in
      let n : length old ≡ 2048 = each_length (holding_after c) s.holdings ∙ z.holdings in
      let place-below : place < length old = rw n (omega arith) in
      sym (holdings_are d (set old place h) (length-set old place h ∙ n) (λ k m.
      let x = get_or s.holdings k empty_holding in
      let was : get_or old k empty_holding ≡ holding_after c k x = each_at (holding_after c) s.holdings k empty_holding (rw z.holdings m) in
      elim (ℕ_discrete (k / 32) c.slot) [
        | yes p ↦ elim (ℕ_discrete (k % 32) row) [
          | yes q ↦
              let here : k ≡ place = omega arith in
              rw (e1, e3, eq-eqb (k / 32) c.slot p, q, get_or-set_same c.held row h empty_holding (rw l g), here) (sym (get_or-set_same old place h empty_holding place-below))
          | no q ↦
              rw (get_or-set_other old place k h empty_holding (λ i. q (omega arith)), was, e1, e3, eq-eqb (k / 32) c.slot p) (get_or-set_other c.held row (k % 32) h empty_holding q)
        ]
        | no p ↦ rw (get_or-set_other old place k h empty_holding (λ i. p (omega arith)), was, e1, e2, ne_eqb (k / 32) c.slot p)
      ]))
