-- A call that changes one row's condition, or takes the pin of one of its holdings, leaves a sound state sound: begin, a wait, unpin.
use mathlib.Core.Path.{◌≡◌, refl, sym, ◌∙◌, ap}
use mathlib.Core.Bool.{true, false}
use Prim.Native.Nat.{ℕ, ◌<◌, ◌≤◌}
use native.Mathlib.Omega.{arith}
use native.Mathlib.Decide.{ℕ_discrete}
use lib.ListN.{set, length-set}
use Rattle.seq.proofs.Tests.{true_false, false_not}
use Rattle.model.specs.declared.Mode.{Mode}
use Rattle.model.specs.declared.Condition.TheVariants.{Free, Idle, Waiting}
use Rattle.model.specs.declared.Row.{Row}
use Rattle.model.specs.declared.Slot.{Slot}
use Rattle.model.specs.declared.Holding.{Holding}
use Rattle.model.specs.declared.State.{State}
use Rattle.model.specs.Parties.{level_of, may_access, is_past}
use Rattle.model.specs.State.{row_at, slot_at, holding_at, with_begun, with_places, put_row, put_slot, put_holding}
use Rattle.model.specs.Words.{is_free, is_live, holds}
use Rattle.model.specs.Changes.{written}
use Rattle.model.specs.Ranges.{Sized}
use Rattle.model.proofs.StateLaws.{sized_put_row, sized_put_slot, sized_put_holding}
use Rattle.model.proofs.PutLaws.{row_same, row_other, slot_same, slot_other, holding_same, holding_other_slot, holding_other_row}
use Rattle.rules.specs.Calls.{last_place, row_begun, unpinned_at, waiting}
use Rattle.rules.specs.SoundFacts.{Settled, RowSound, OrderSound, Sound}
use Rattle.rules.proofs.Facts.SoundFacts.{live_taken}
use Rattle.rules.proofs.Leaves.UnpinLaws.{unpinned_holding, unpinned_slot}
use Rattle.rules.proofs.Stays.StaysBase.{Base, base, base_places, whole, SlotStays, slot_stays, slot_marked, marked_touch, HoldingStays, same, loose}
use Rattle.rules.proofs.Stays.StaysChange.{old_slot, old_holding, base_change}
use Rattle.rules.proofs.Stays.StaysOrder.{order_stays, order_begun}
use Rattle.rules.proofs.Stays.StaysRows.{settled_stays, condition_stays, row_stays}
use Rattle.rules.proofs.Stays.StaysSetting.{set_sound}

-- another row put in place of one: it is live, its condition is sound, and so are the begin orders then
pub put_row_sound : (s : State) (row : ℕ) (x : Row) → row < 32 → Base s → is_live x.condition ≡ true → RowSound s row x.condition x.deadline
    → ((r : ℕ) → r < 32 → (r ≡ row → ⊥) → RowSound s r (row_at s r).condition (row_at s r).deadline) → OrderSound (put_row s row x) → Sound (put_row s row x)
put_row_sound s row x b h live own others order =
    whole (put_row s row x) (base_change s (put_row s row x) h (record {
      sized = sized_put_row s h.sized row x;
      size = refl;
      delay = refl;
      clock = omega arith;
      clock_most = h.clock_most;
      borders = λ _ _ _. refl;
      slot = λ i g. old_slot (slot_stays (slot_at s i) (slot_at s i) refl) (h.slot i g).touch;
      holding = λ i r g f. old_holding (same refl);
      live = λ i r g f w. elim (ℕ_discrete r row) [
        | yes e ↦ rw (e, row_same s h.sized row x b) live
        | no e ↦ rw (row_other s h.sized row x r e) (h.held i r g f w).live
      ];
    }))
    (λ r g. elim (ℕ_discrete r row) [
      | yes e ↦ rw (e, row_same s h.sized row x b) (condition_stays s (put_row s row x) row (λ i _. same refl) (λ i _ _. refl) refl x.condition x.deadline (λ _. refl) own)
      | no e ↦ row_stays s (put_row s row x) r (λ i _. same refl) (λ i _ _. refl) refl (λ _. refl) (row_other s h.sized row x r e) (others r g e)
    ])
    order

-- begin: a free row has no holdings
pub begun_sound : (s : State) (row deadline : ℕ) → row < 32 → Sound s → (row_at s row).condition ≡ Free → is_past s.clock deadline ≡ false
    → Sound (row_begun s row deadline)
begun_sound s row deadline b h free e =
    let m = set_sound s s.borders true h (λ _ _ _. refl) in
    let x : Row = record { condition = Idle; deadline = deadline } in
    let places = set s.places row (last_place s (level_of row)) in
    let long = length-set s.places row (last_place s (level_of row)) ∙ h.sized.places in
    put_row_sound (with_places (with_begun s) places) row x b (base_places (with_begun s) places (base (with_begun s) m) long) refl
    (record {
      deadline = false_not (is_past s.clock deadline) e;
      arrived = λ i g w. true_false (sym (rw free at (h.held i row g b w).live));
    })
    (λ r g _. row_stays (with_begun s) (with_places (with_begun s) places) r (λ i _. same refl) (λ i _ _. refl) refl (λ _. refl) refl (m.row r g))
    (order_begun s (row_begun s row deadline) h.sized h.order row b (λ r g n. ap (λ (y : Row). is_free y.condition) (row_other s h.sized row x r n)) refl (rw free)
    (ap (λ (y : Row). is_free y.condition) (row_same s h.sized row x b)))

-- a wait
pub waiting_sound : (s : State) (row page : ℕ) (mode : Mode) → row < 32 → Sound s → is_live (row_at s row).condition ≡ true → Settled s row (row_at s row).deadline → page ≤ 4095 → may_access s.borders (level_of row) page mode ≡ true
    → Sound (waiting s row page mode).state
unfolding waiting
waiting_sound s row page mode b h live own p m =
    let x : Row = record { condition = Waiting page mode; deadline = (row_at s row).deadline } in
    put_row_sound s row x b (base s h) refl (own, p, m) (λ r g _. h.row r g)
    (order_stays s (put_row s row x) h.order refl (λ r g. elim (ℕ_discrete r row) [
      | yes e ↦ rw (e, row_same s h.sized row x b) (sym (live_taken (row_at s row).condition live))
      | no e ↦ rw (row_other s h.sized row x r e)
    ]))

-- unpin, of an idle row
pub unpinned_sound : (s : State) (row slot : ℕ) → row < 32 → slot < 64 → Sound s → (row_at s row).condition ≡ Idle → holds s slot row ≡ true → Sound (unpinned_at s row slot)
unfolding unpinned_at
unpinned_sound s row slot b c h idle own =
    whole t (base_change s t (base s h) (record {
      sized = sized_put_holding u uz slot row k;
      size = refl;
      delay = refl;
      clock = omega arith;
      clock_most = h.clock_most;
      borders = λ _ _ _. refl;
      slot = λ i g. old_slot (slots i g) (rw (touches i) (h.slot i g).touch);
      holding = λ i r g f. old_holding (holdings i r g f);
      live = λ i r g f w. elim (ℕ_discrete r row) [
        | yes e ↦ rw (e, idle)
        | no e ↦ (h.held i r g f (rw (holding_other_row u uz slot row k i r b f e) at w)).live
      ];
    }))
    (λ r g. elim (ℕ_discrete r row) [
      | yes e ↦ rw (e, idle) (settled_stays s t row (λ i f. holdings i row f b) (row_at s row).deadline (row_at s row).deadline (omega arith) own_row.deadline own_row)
      | no e ↦ row_stays s t r (λ i f. holdings i r f g) (λ i f _. holding_other_row u uz slot row k i r b g e) refl (λ _. refl) refl (h.row r g)
    ])
    (order_stays s t h.order refl (λ _ _. refl))
  where
    y : Slot
    y = unpinned_slot s row slot

    k : Holding
    k = unpinned_holding (holding_at s slot row)

    u : State
    u = put_slot s slot y

    t : State
    t = put_holding u slot row k

    uz : Sized u
    uz = sized_put_slot s h.sized slot y

    own_row : Settled s row (row_at s row).deadline
    own_row = rw idle at (h.row row b)

    slots : (i : ℕ) → i < 64 → SlotStays (slot_at s i) (slot_at t i)
    slots i g = elim (ℕ_discrete i slot) [
      | yes e ↦ rw e (slot_marked (written s.clock (holding_at s slot row)) (slot_at s slot) (slot_at t slot) (slot_same s h.sized slot y c))
      | no e ↦ slot_stays (slot_at s i) (slot_at t i) (slot_other s h.sized slot y i e)
    ]

    touches : (i : ℕ) → (slot_at t i).touch ≡ (slot_at s i).touch
    touches i = elim (ℕ_discrete i slot) [
      | yes e ↦ rw e (marked_touch (written s.clock (holding_at s slot row)) (slot_at s slot) (slot_at t slot) (slot_same s h.sized slot y c))
      | no e ↦ ap (λ (x : Slot). x.touch) (slot_other s h.sized slot y i e)
    ]

    holdings : (i r : ℕ) → i < 64 → r < 32 → HoldingStays (holding_at s i r) (holding_at t i r)
    holdings i r g f = elim (ℕ_discrete r row) [
      | yes e ↦ elim (ℕ_discrete i slot) [
        | yes q ↦ rw (e, q) (loose own (holding_same u uz slot row k c b))
        | no q ↦ same (holding_other_slot u uz slot row k i r b f q)
      ]
      | no e ↦ same (holding_other_row u uz slot row k i r b f e)
    ]
