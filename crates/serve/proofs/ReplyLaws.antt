-- The state after each change that a request makes.
use mathlib.Core.Path.{◌≡◌, refl, sym, ◌∙◌, ap}
use mathlib.Core.Bool.{Bool, false, cond}
use mathlib.Core.List.{List}
use Prim.Native.Nat.{ℕ, ◌+◌, ◌*◌, ◌/◌, ◌%◌, ◌<◌}
use native.Mathlib.Omega.{arith}
use native.Mathlib.Decide.{ℕ_discrete}
use borrow.Author.Tests.{eq-eqb, ne_eqb}
use lib.Dec.{eqb}
use lib.ListN.{length, get_or, set, replicate, length-replicate}
use Rattle.seq.specs.Each.{each}
use Rattle.seq.proofs.EachLaws.{each_length, each_at, each_same, replicate_at}
use Rattle.model.specs.declared.Answer.TheVariants.{Wait}
use Rattle.std.specs.Prelude.{Option}
use Rattle.model.specs.declared.Cause.TheVariants.{Taken}
use Rattle.model.specs.declared.Setting.TheVariants.{Left}
use Rattle.model.specs.declared.Change.{Change}
use Rattle.model.specs.declared.Holding.{Holding}
use Rattle.model.specs.declared.Mode.{Mode}
use Rattle.model.specs.declared.Reply.{Reply}
use Rattle.model.specs.declared.State.{State}
use Rattle.model.specs.Parties.{level_of}
use Rattle.model.specs.State.{empty_slot, empty_holding}
use Rattle.model.specs.Changes.{released, killed, cleared}
use Rattle.model.specs.Inner.Changed.{marked, holding_after, borders_after, begun_after, places_after, changed, outcome_of}
use Rattle.model.specs.Ranges.{Sized}
use Rattle.model.proofs.SlotHoldings.{long_lem}
use Rattle.model.proofs.ChangedLaws.{holdings_are, held_at, held_set, changed_none}
use Rattle.rules.specs.Calls.{waiting, granted, filled, write_back}
use Rattle.serve.specs.Inner.Granted.{filled_slot, held_now, touched_slot, granted_row, granted_answer}
use Rattle.serve.specs.Inner.SlotHoldings.{holdings_on, pinning, marks_of}
use Rattle.serve.specs.Inner.Replies.{wait_reply, taken, slot_filled, granting, entered}
use Rattle.serve.proofs.SlotLaws.{held_by_lem}

-- the slot of a change stays
pub taken_slot : (s : State) (gone : List Bool) (slot : ℕ) (held : List Holding) (c : Change) → c ≡ taken s gone slot held → slot < 64 → c.slot < 64
unfolding taken
taken_slot s gone slot held c e h = rw e h

-- a page enters a slot, from what the functions called give
pub entered_lem : (s : State) (slot row page : ℕ) (mode : Mode) (due : ℕ) (held : List Holding) (gone : List Bool) (c : Change) (back : Option ℕ) (none : Holding) (o : Reply)
    → held ≡ holdings_on s slot → gone ≡ marks_of held pinning → c ≡ taken s gone slot held → back ≡ write_back (get_or c.slots slot empty_slot) → none ≡ empty_holding
    → o ≡ granting (record c { slots = set c.slots slot (filled_slot page due (level_of row) s.clock); held = replicate 32 none }) row mode due back
    → o ≡ entered s slot row page mode due
unfolding entered slot_filled taken
entered_lem s slot row page mode due held gone c back none o on m k b f q = rw (q, b, f, k, m, on)

module _ (s : State) (z : Sized s) where
  pub after_wait : (row page : ℕ) (mode : Mode) → outcome_of s (wait_reply s row page mode) ≡ waiting s row page mode
  unfolding outcome_of wait_reply waiting
  after_wait row page mode = λ j. record { state = changed_none s z s.clock (waiting s row page mode).state.rows s.slots (replicate 32 false) Left (λ r _. replicate_at 32 r false) j; answer = Wait }

  -- step 4
  after_granting : (c : Change) (row : ℕ) (mode : Mode) (arrival : ℕ) (back : Option ℕ) → c.slot < 64 → row < 32 → length c.held ≡ 32
      → outcome_of s (granting c row mode arrival back) ≡ granted (changed s c) row c.slot mode arrival back
  unfolding outcome_of changed granting granted granted_row touched_slot held_now granted_answer
  after_granting c row mode arrival back b h l =
      let place = c.slot * 32 + row in
      let old = each (holding_after c) s.holdings in
      λ j. record {
        state = record {
          size = s.size;
          delay = s.delay;
          clock = c.clock;
          rows = (granting c row mode arrival back).change.rows;
          slots = (granting c row mode arrival back).change.slots;
          holdings =
              (sym (held_set s z c (granting c row mode arrival back).change row (held_now (get_or c.held row empty_holding) mode arrival c.clock) b h l refl refl refl)
              ∙ ap (λ (own : Holding). set old place (held_now own mode arrival c.clock)) (sym (held_at s z c row b h))) j;
          borders = borders_after c.setting s.borders;
          begun = begun_after c.setting s.begun;
          places = places_after c.setting s.places;
        };
        answer = (granting c row mode arrival back).answer;
      }

  -- the marked rows are killed
  changed_taken : (gone : List Bool) (slot : ℕ) → changed s (taken s gone slot (holdings_on s slot)) ≡ killed (marked gone) Taken s
  unfolding changed taken killed released holding_after
  changed_taken gone slot = λ j. record {
    size = s.size;
    delay = s.delay;
    clock = s.clock;
    rows = (taken s gone slot (holdings_on s slot)).rows;
    slots = (released (marked gone) s).slots;
    holdings = each_same (holding_after (taken s gone slot (holdings_on s slot))) (λ k h. cond (marked gone (k % 32)) empty_holding h) s.holdings empty_holding (λ k _. there k) j;
    borders = s.borders;
    begun = s.begun;
    places = s.places;
  }
    where
      there : (k : ℕ) → holding_after (taken s gone slot (holdings_on s slot)) k (get_or s.holdings k empty_holding) ≡ cond (marked gone (k % 32)) empty_holding (get_or s.holdings k empty_holding)
      there k = elim (ℕ_discrete (k / 32) slot) [
        | yes e ↦
            let r : k % 32 < 32 = omega arith in
            let here : slot * 32 + k % 32 ≡ k = omega arith in
            rw (eq-eqb (k / 32) slot e, each_at (λ row h. cond (marked gone row) empty_holding h) (holdings_on s slot) (k % 32) empty_holding (rw (long_lem s slot) r), held_by_lem s slot (k % 32) r, here)
        | no e ↦ rw (ne_eqb (k / 32) slot e)
      ]

  -- the slot is given to the page
  changed_filled : (c : Change) (page level : ℕ) → changed s (slot_filled c page (c.clock + s.delay) level) ≡ filled (changed s c) c.slot page level
  unfolding changed slot_filled filled cleared holding_after
  changed_filled c page level =
      let left = each (holding_after c) s.holdings in
      λ j. record {
        size = s.size;
        delay = s.delay;
        clock = c.clock;
        rows = c.rows;
        slots = (slot_filled c page (c.clock + s.delay) level).slots;
        holdings =
            holdings_are s z (slot_filled c page (c.clock + s.delay) level) (each (λ k h. cond (eqb (k / 32) c.slot) empty_holding h) left)
            (each_length (λ k h. cond (eqb (k / 32) c.slot) empty_holding h) left ∙ long) there j;
        borders = borders_after c.setting s.borders;
        begun = begun_after c.setting s.begun;
        places = places_after c.setting s.places;
      }
    where
      long : length (each (holding_after c) s.holdings) ≡ 2048
      long = each_length (holding_after c) s.holdings ∙ z.holdings

      there : (k : ℕ) → k < 2048 → holding_after (slot_filled c page (c.clock + s.delay) level) k (get_or s.holdings k empty_holding)
          ≡ get_or (each (λ i h. cond (eqb (i / 32) c.slot) empty_holding h) (each (holding_after c) s.holdings)) k empty_holding
      there k b =
          rw (each_at (λ i h. cond (eqb (i / 32) c.slot) empty_holding h) (each (holding_after c) s.holdings) k empty_holding (rw long b), each_at (holding_after c) s.holdings k empty_holding (rw z.holdings b))
          (elim (ℕ_discrete (k / 32) c.slot) [
            | yes e ↦ rw (eq-eqb (k / 32) c.slot e) (replicate_at 32 (k % 32) empty_holding)
            | no e ↦ rw (ne_eqb (k / 32) c.slot e)
          ])

  -- step 4 after each
  module _ (gone : List Bool) (slot row : ℕ) (mode : Mode) (arrival : ℕ) (back : Option ℕ) (b : slot < 64) (h : row < 32) where
    pub after_taken : outcome_of s (granting (taken s gone slot (holdings_on s slot)) row mode arrival back) ≡ granted (killed (marked gone) Taken s) row slot mode arrival back
    unfolding taken
    after_taken =
        after_granting (taken s gone slot (holdings_on s slot)) row mode arrival back b h (each_length (λ r x. cond (marked gone r) empty_holding x) (holdings_on s slot) ∙ long_lem s slot)
        ∙ ap (λ (t : State). granted t row slot mode arrival back) (changed_taken gone slot)

    pub after_filled : (page level : ℕ)
        → outcome_of s (granting (slot_filled (taken s gone slot (holdings_on s slot)) page (s.clock + s.delay) level) row mode arrival back)
        ≡ granted (filled (killed (marked gone) Taken s) slot page level) row slot mode arrival back
    unfolding taken slot_filled
    after_filled page level =
        after_granting (slot_filled (taken s gone slot (holdings_on s slot)) page (s.clock + s.delay) level) row mode arrival back b h (length-replicate 32 empty_holding)
        ∙ ap (λ (t : State). granted t row slot mode arrival back)
        (changed_filled (taken s gone slot (holdings_on s slot)) page level ∙ ap (λ (t : State). filled t slot page level) (changed_taken gone slot))
