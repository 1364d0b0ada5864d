-- Rows that lose all their holdings and are no more live, by a kill or by end, leave a sound state.
use mathlib.Core.Path.{◌≡◌, refl, sym, ◌∙◌, ap}
use mathlib.Core.Bool.{Bool, true, false, cond}
use Prim.Native.Nat.{ℕ, ◌<◌}
use native.Mathlib.Omega.{arith}
use borrow.Author.Tests.{eq-eqb, ne_eqb}
use lib.Dec.{eqb}
use Rattle.seq.proofs.Tests.{true_false, eqb_sym}
use Rattle.model.specs.declared.Cause.{Cause}
use Rattle.model.specs.declared.Row.{Row}
use Rattle.model.specs.declared.State.{State}
use Rattle.model.specs.State.{free_row, empty_holding, row_at, slot_at, holding_at}
use Rattle.model.specs.Words.{is_free, is_live, holds}
use Rattle.model.specs.Changes.{dirtied, released, killed, killed_row, wrote_slot}
use Rattle.model.specs.Ranges.{Sized}
use Rattle.model.proofs.StateLaws.{row_put, sized_put_row}
use Rattle.model.proofs.PlaceLaws.{closed_long}
use Rattle.model.proofs.ChangeLaws.{released_holding, released_slot, sized_released, killed_row_lem, killed_slot, killed_holding, sized_killed, killed_clock, killed_delay, killed_size, killed_borders}
use Rattle.rules.specs.Calls.{row_ended}
use Rattle.rules.specs.SoundFacts.{RowSound, OrderSound, Sound}
use Rattle.rules.proofs.Stays.StaysBase.{Base, base, whole, SlotStays, slot_marked, marked_touch, HoldingStays, same, gone}
use Rattle.rules.proofs.Stays.StaysChange.{old_slot, old_holding, base_change}
use Rattle.rules.proofs.Stays.StaysOrder.{order_stays, order_ended}
use Rattle.rules.proofs.Stays.StaysRows.{row_stays}

-- the rows of a set have dropped their holdings, and the others stay as they were
pub record Dropped (some : ℕ → Bool) (s t : State) : Type 0 where
  pub sized : Sized t
  pub size : t.size ≡ s.size
  pub delay : t.delay ≡ s.delay
  pub clock : t.clock ≡ s.clock
  pub borders : t.borders ≡ s.borders
  pub slot : (i : ℕ) → i < 64 → SlotStays (slot_at s i) (slot_at t i)
  pub touch : (i : ℕ) → i < 64 → (slot_at t i).touch ≡ (slot_at s i).touch
  pub gone_row : (r : ℕ) → r < 32 → some r ≡ true → RowSound t r (row_at t r).condition (row_at t r).deadline
  pub gone_holding : (i r : ℕ) → i < 64 → r < 32 → some r ≡ true → holding_at t i r ≡ empty_holding
  pub old_row : (r : ℕ) → r < 32 → some r ≡ false → row_at t r ≡ row_at s r
  pub old_holding : (i r : ℕ) → i < 64 → r < 32 → some r ≡ false → holding_at t i r ≡ holding_at s i r

-- of the rows that drop their holdings nothing need have been sound
pub dropped_sound : (some : ℕ → Bool) (s t : State) → Base s → ((r : ℕ) → r < 32 → some r ≡ false → RowSound s r (row_at s r).condition (row_at s r).deadline)
    → Dropped some s t → OrderSound t → Sound t
dropped_sound some s t b rows d order =
    whole t (base_change s t b (record {
      sized = d.sized;
      size = d.size;
      delay = d.delay;
      clock = omega (arith, d.clock);
      clock_most = omega (arith, d.clock, b.clock_most);
      borders = λ _ _ _. d.borders;
      slot = λ i h. old_slot (d.slot i h) (omega (arith, d.touch i h, d.clock, (b.slot i h).touch));
      holding = λ i r h g. old_holding (holding i r h g (some r) refl);
      live = λ i r h g w. live i r h g w (some r) refl;
    })) (λ r g. row r g (some r) refl) order
  where
    holding : (i r : ℕ) → i < 64 → r < 32 → (x : Bool) → some r ≡ x → HoldingStays (holding_at s i r) (holding_at t i r)
    holding i r h g true e = gone (d.gone_holding i r h g e)
    holding i r h g false e = same (d.old_holding i r h g e)

    live : (i r : ℕ) → i < 64 → r < 32 → holds t i r ≡ true → (x : Bool) → some r ≡ x → is_live (row_at t r).condition ≡ true
    live i r h g w true e = true_false (sym (rw (d.gone_holding i r h g e) at w))
    live i r h g w false e = rw (d.old_row r g e) (b.held i r h g (rw (d.old_holding i r h g e) at w)).live

    row : (r : ℕ) → r < 32 → (x : Bool) → some r ≡ x → RowSound t r (row_at t r).condition (row_at t r).deadline
    row r g true e = d.gone_row r g e
    row r g false e =
        row_stays s t r (λ i h. same (d.old_holding i r h g e)) (λ i h _. d.old_holding i r h g e)
        d.clock (λ _. d.borders) (d.old_row r g e) (rows r g e)

-- the slots and holdings as a release leaves them, and one row put in place of each of the set
released_dropped : (some : ℕ → Bool) (s t : State) (x : Row) → Sized t → t.size ≡ s.size → t.delay ≡ s.delay → t.clock ≡ s.clock → t.borders ≡ s.borders
    → ((i : ℕ) → i < 64 → slot_at t i ≡ cond (wrote_slot some s i) (dirtied (slot_at s i)) (slot_at s i))
    → ((i r : ℕ) → r < 32 → holding_at t i r ≡ cond (some r) empty_holding (holding_at s i r))
    → ((r : ℕ) → r < 32 → row_at t r ≡ cond (some r) x (row_at s r)) → ((r : ℕ) → RowSound t r x.condition x.deadline) → Dropped some s t
released_dropped some s t x z size delay clock borders slots holdings rows own = record {
  sized = z;
  size = size;
  delay = delay;
  clock = clock;
  borders = borders;
  slot = λ i h. slot_marked (wrote_slot some s i) (slot_at s i) (slot_at t i) (slots i h);
  touch = λ i h. marked_touch (wrote_slot some s i) (slot_at s i) (slot_at t i) (slots i h);
  gone_row = λ r g e. rw (rows r g, e) (own r);
  gone_holding = λ i r h g e. holdings i r g ∙ rw e;
  old_row = λ r g e. rows r g ∙ rw e;
  old_holding = λ i r h g e. holdings i r g ∙ rw e;
}

-- a killed row keeps its place in the begin order
killed_order : (some : ℕ → Bool) (cause : Cause) (s : State) → Sized s → OrderSound s → ((r : ℕ) → r < 32 → some r ≡ true → is_free (row_at s r).condition ≡ false) → OrderSound (killed some cause s)
unfolding killed released
killed_order some cause s z h taken = order_stays s (killed some cause s) h refl (λ r g. rw (killed_row_lem some s z cause r g) (go r g (some r) refl))
  where
    go : (r : ℕ) → r < 32 → (x : Bool) → some r ≡ x → is_free (cond x (killed_row cause) (row_at s r)).condition ≡ is_free (row_at s r).condition
    go r g true e = sym (taken r g e)
    go r g false e = refl

-- the rows of the set are not free; no more need have been sound of them
pub killed_rest : (some : ℕ → Bool) (cause : Cause) (s : State) → Base s → ((r : ℕ) → r < 32 → some r ≡ false → RowSound s r (row_at s r).condition (row_at s r).deadline)
    → OrderSound s → ((r : ℕ) → r < 32 → some r ≡ true → is_free (row_at s r).condition ≡ false) → Sound (killed some cause s)
killed_rest some cause s b rows order taken =
    dropped_sound some s (killed some cause s) b rows
    (released_dropped some s (killed some cause s) (killed_row cause) (sized_killed some s b.sized cause) (killed_size some cause s) (killed_delay some cause s) (killed_clock some cause s) (killed_borders some cause s)
    (killed_slot some s b.sized cause) (killed_holding some s b.sized cause) (killed_row_lem some s b.sized cause) (λ r. refl))
    (killed_order some cause s b.sized order taken)

pub killed_sound : (some : ℕ → Bool) (cause : Cause) (s : State) → Sound s → ((r : ℕ) → r < 32 → some r ≡ true → is_free (row_at s r).condition ≡ false) → Sound (killed some cause s)
killed_sound some cause s h = killed_rest some cause s (base s h) (λ r g _. h.row r g) h.order

-- end
pub ended_sound : (s : State) (row : ℕ) → row < 32 → Sound s → is_free (row_at s row).condition ≡ false → Sound (row_ended s row)
unfolding released
ended_sound s row b h taken =
    let u : State = released (eqb row) s in
    let uz : Sized u = sized_released (eqb row) s h.sized in
    let z = sized_put_row u uz row free_row in
    let rows : (r : ℕ) → row_at (row_ended s row) r ≡ cond (eqb r row) free_row (row_at s r) = λ r. row_put u uz row free_row r b in
    dropped_sound (eqb row) s (row_ended s row) (base s h) (λ r g _. h.row r g)
    (released_dropped (eqb row) s (row_ended s row) free_row
    (record { rows = z.rows; slots = z.slots; holdings = z.holdings; places = closed_long row s.places ∙ h.sized.places }) refl refl refl refl
    (released_slot (eqb row) s h.sized) (released_holding (eqb row) s h.sized)
    (λ r g. rows r ∙ ap (λ (x : Bool). cond x free_row (row_at s r)) (eqb_sym r row)) (λ r. refl))
    (order_ended s (row_ended s row) h.sized h.order row b (λ r g m. rw (rows r, ne_eqb r row m)) refl taken (rw (rows row, eq-eqb row row refl)))
