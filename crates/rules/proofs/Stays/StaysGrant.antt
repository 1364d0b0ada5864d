-- A grant leaves a sound state sound.
use mathlib.Core.Path.{◌≡◌, refl, sym, ◌∙◌, ap}
use mathlib.Core.Bool.{Bool, true, false, cond}
use Prim.Native.Nat.{ℕ, ◌<◌, ◌≤◌}
use native.Mathlib.Omega.{arith}
use native.Mathlib.Decide.{ℕ_discrete}
use borrow.Author.Tests.{leb-true, leb-false, eq-eqb, eqb-true}
use lib.Dec.{leb, eqb}
use Rattle.seq.proofs.Tests.{true_false, and_true, both_true}
use Rattle.std.specs.Prelude.{Option}
use Rattle.model.specs.declared.Mode.{Mode}
use Rattle.model.specs.declared.Condition.TheVariants.{Idle, Fetching}
use Rattle.model.specs.declared.Slot.{Slot}
use Rattle.model.specs.declared.Holding.{Holding}
use Rattle.model.specs.declared.State.{State}
use Rattle.model.specs.Parties.{level_of}
use Rattle.model.specs.State.{row_at, slot_at, holding_at, put_holding}
use Rattle.model.specs.Words.{is_live, holds, pins}
use Rattle.model.specs.Ranges.{Sized}
use Rattle.model.proofs.StateLaws.{sized_put_slot, sized_put_holding}
use Rattle.model.proofs.PutLaws.{row_same, row_other, slot_same, slot_other, holding_same, holding_other_slot, holding_other_row}
use Rattle.model.proofs.PinLaws.{pin_held}
use Rattle.rules.specs.Sound.{awaits}
use Rattle.rules.specs.Calls.{touched, granted}
use Rattle.rules.specs.SoundFacts.{RowSound, Held, Sound}
use Rattle.rules.proofs.Facts.SoundFacts.{live_taken}
use Rattle.rules.proofs.Leaves.GrantLaws.{granted_holding, granted_slot, granted_row}
use Rattle.rules.proofs.Stays.StaysBase.{Base, base, SlotStays, slot_stays, slot_touched, same}
use Rattle.rules.proofs.Stays.StaysChange.{old_slot, HoldingChange, old_holding, new_holding_lem, base_change}
use Rattle.rules.proofs.Stays.StaysOrder.{order_stays}
use Rattle.rules.proofs.Stays.StaysRows.{row_stays}
use Rattle.rules.proofs.Stays.StaysOwn.{put_row_sound}
use Rattle.rules.proofs.Stays.StaysNew.{Grantable, New, new_is, lowest_least}

module _ (s : State) (row slot : ℕ) (mode : Mode) (arrival : ℕ) (h : Sound s) (g : Grantable s row slot mode arrival) where
  abbrev k : Holding
  k = granted_holding s row slot mode arrival

  abbrev kn : New s row slot arrival k
  kn = new_is s row slot mode arrival h g

  abbrev y : Slot
  y = granted_slot s row slot

  -- the state with the slot touched, and then with the holding put
  abbrev u : State
  u = touched s row slot

  abbrev t : State
  t = put_holding u slot row k

  abbrev uz : Sized u
  uz = sized_put_slot s h.sized slot y

  touched_slot_lem : slot_at t slot ≡ y
  touched_slot_lem = slot_same s h.sized slot y g.slot_is

  other_slot : (i : ℕ) → (i ≡ slot → ⊥) → slot_at t i ≡ slot_at s i
  other_slot i e = slot_other s h.sized slot y i e

  slots : (i : ℕ) → SlotStays (slot_at s i) (slot_at t i)
  slots i = elim (ℕ_discrete i slot) [
    | yes e ↦ rw (e, touched_slot_lem) (slot_touched (level_of row) s.clock (slot_at s slot) g.filled (h.slot slot g.slot_is).touch)
    | no e ↦ slot_stays (slot_at s i) (slot_at t i) (other_slot i e)
  ]

  touches : (i : ℕ) → i < 64 → (slot_at t i).touch ≤ s.clock
  touches i b = elim (ℕ_discrete i slot) [
    | yes e ↦ rw (e, touched_slot_lem) (omega arith)
    | no e ↦ rw (other_slot i e) (h.slot i b).touch
  ]

  new_at : holding_at t slot row ≡ k
  new_at = holding_same u uz slot row k g.slot_is g.asking.row_is

  at_other_slot : (i r : ℕ) → r < 32 → (i ≡ slot → ⊥) → holding_at t i r ≡ holding_at s i r
  at_other_slot i r b e = holding_other_slot u uz slot row k i r g.asking.row_is b e

  at_other_row : (i r : ℕ) → r < 32 → (r ≡ row → ⊥) → holding_at t i r ≡ holding_at s i r
  at_other_row i r b e = holding_other_row u uz slot row k i r g.asking.row_is b e

  new_held : Held t slot row
  new_held = record {
    live = g.asking.live;
    filled = (slots slot).filled ∙ g.filled;
    allowed = rw (new_at, (slots slot).page) kn.allowed;
    after = rw (new_at, (slots slot).arrival) kn.least;
    arrival = rw new_at kn.most;
    touch = rw (new_at, touched_slot_lem) (omega (arith, kn.touch));
    lowest = rw touched_slot_lem (lowest_least (level_of row) (slot_at s slot).content g.filled);
  }

  holdings : (i r : ℕ) → i < 64 → r < 32 → HoldingChange s t i r
  holdings i r b c = elim (ℕ_discrete i slot) [
    | yes e ↦ elim (ℕ_discrete r row) [
      | yes q ↦ rw (e, q) (new_holding_lem (rw new_at kn.held) new_held (λ o f m. rw (new_at, at_other_row slot o f (λ w. m (sym w))) (kn.alone o f m)))
      | no q ↦ old_holding (same (at_other_row i r c q))
    ]
    | no e ↦ old_holding (same (at_other_slot i r c e))
  ]

  held_live : (i r : ℕ) → i < 64 → r < 32 → holds t i r ≡ true → is_live (row_at s r).condition ≡ true
  held_live i r b c w = elim (ℕ_discrete r row) [
    | yes e ↦ rw e g.asking.live
    | no e ↦ (h.held i r b c (rw (at_other_row i r c e) at w)).live
  ]

  held_base : Base t
  held_base = base_change s t (base s h) (record {
    sized = sized_put_holding u uz slot row k;
    size = refl;
    delay = refl;
    clock = omega arith;
    clock_most = h.clock_most;
    borders = λ _ _ _. refl;
    slot = λ i b. old_slot (slots i) (touches i b);
    holding = holdings;
    live = held_live;
  })

  -- the row's other holdings have arrived
  arrived_other : (i : ℕ) → i < 64 → (i ≡ slot → ⊥) → holds t i row ≡ true → (holding_at t i row).arrival ≤ s.clock
  arrived_other i b e w = rw (at_other_slot i row g.asking.row_is e) (g.asking.settled.arrived i b (rw (at_other_slot i row g.asking.row_is e) at w))

  own_row : RowSound t row (cond (leb arrival s.clock) Idle (Fetching arrival)) (row_at s row).deadline
  unfolding awaits
  own_row = go (leb arrival s.clock) refl
    where
      awaited : s.clock < arrival → awaits t row arrival slot ≡ true
      awaited a = let n = kn.coming a in rw new_at (both_true n.0 (eq-eqb k.arrival arrival n.1))

      only : s.clock < arrival → (i : ℕ) → i < 64 → awaits t row arrival i ≡ true → i ≡ slot
      only a i b w = elim (ℕ_discrete i slot) [
        | yes e ↦ e
        | no e ↦ absurd (
            let n = and_true (pins t i row) (eqb (holding_at t i row).arrival arrival) w in
            omega (arith, eqb-true (holding_at t i row).arrival arrival n.1, arrived_other i b e (pin_held (holding_at t i row).pin n.0)))
      ]

      go : (b : Bool) → leb arrival s.clock ≡ b → RowSound t row (cond (leb arrival s.clock) Idle (Fetching arrival)) (row_at s row).deadline
      go true e = rw e (record {
        deadline = g.asking.settled.deadline;
        arrived = λ i b w. elim (ℕ_discrete i slot) [
          | yes q ↦ rw (q, new_at) (kn.arrived (leb-true arrival s.clock e))
          | no q ↦ arrived_other i b q w
        ];
      })
      go false e =
          let a = leb-false arrival s.clock e in
          rw e (record {
            deadline = g.asking.settled.deadline;
            due = a;
            one = record { at = slot; below = g.slot_is; passes = awaited a; only = only a };
            others = λ i b w v. elim (ℕ_discrete i slot) [
              | yes q ↦ true_false (sym (awaited a) ∙ ap (awaits t row arrival) (sym q) ∙ v)
              | no q ↦ arrived_other i b q w
            ];
          })

  pub granted_sound : (back : Option ℕ) → Sound (granted s row slot mode arrival back).state
  unfolding granted
  granted_sound back =
      put_row_sound t row (granted_row s row arrival) g.asking.row_is held_base
      (live (leb arrival s.clock)) own_row
      (λ r b m. row_stays s t r (λ i _. same (at_other_row i r b m)) (λ i _ _. at_other_row i r b m) refl (λ _. refl) refl (h.row r b))
      (order_stays s (granted s row slot mode arrival back).state h.order refl (λ r b. elim (ℕ_discrete r row) [
        | yes e ↦ rw (e, row_same t tz row (granted_row s row arrival) g.asking.row_is) (live_taken (cond (leb arrival s.clock) Idle (Fetching arrival)) (live (leb arrival s.clock)) ∙ sym (live_taken (row_at s row).condition g.asking.live))
        | no e ↦ rw (row_other t tz row (granted_row s row arrival) r e)
      ]))
    where
      tz : Sized t
      tz = sized_put_holding u uz slot row k

      live : (b : Bool) → is_live (cond b Idle (Fetching arrival)) ≡ true
      live true = refl
      live false = refl
