-- What sound says of a state, as facts.
use mathlib.Core.Path.{◌≡◌, refl, sym, ◌∙◌, ap}
use mathlib.Core.Bool.{Bool, true, false, ◌&&◌, ◌||◌, not}
use Prim.Native.Nat.{ℕ, ◌+◌, ◌<◌, ◌≤◌}
use native.Mathlib.Omega.{arith}
use native.Mathlib.Decide.{ℕ_discrete}
use borrow.Author.Tests.{lt-ltb, ltb-true, leb-true, eq-eqb, eqb-true, not-true}
use lib.Dec.{leb, ltb, eqb}
use lib.ListN.{length}
use Rattle.seq.specs.Below.{all_below, count_below}
use Rattle.seq.proofs.Tests.{true_false, parts, and_true, both_true, not_true_false}
use Rattle.seq.proofs.BelowLaws.{all_each, count_one, pairs_each, by_larger}
use Rattle.model.specs.declared.Condition.{Condition}
use Rattle.model.specs.declared.Condition.TheVariants.{Free, Idle, Fetching, Waiting, Killed}
use Rattle.model.specs.declared.Content.{Content}
use Rattle.model.specs.declared.Content.TheVariants.{Empty, Filled}
use Rattle.model.specs.declared.Pin.{Pin}
use Rattle.model.specs.declared.Pin.TheVariants.{Absent, Unpinned, Read, Write}
use Rattle.model.specs.declared.Holding.{Holding}
use Rattle.model.specs.declared.State.{State}
use Rattle.model.specs.Parties.{row_of, level_of, number_of, last_clock}
use Rattle.model.specs.State.{empty_holding, row_at, slot_at, holding_at, place_at}
use Rattle.model.specs.Words.{is_free, is_live, is_filled, page_in, arrival_in, lowest_in, has_page, is_held, holds, conflict, outranks}
use Rattle.model.specs.Changes.{rows_not_free}
use Rattle.model.proofs.PriorityLaws.{outranks_total}
use Rattle.model.proofs.ContentLaws.{has_page_lem}
use Rattle.model.proofs.PinLaws.{conflict_comm}
use Rattle.rules.specs.SoundFacts.{SlotSound, RowSound, Held, BordersSound, OrderSound, Sound}
use Rattle.rules.specs.Sound.{sound_numbers, arrived, awaits, sound_content, sound_slot, same_page, sound_pages, sound_condition, sound_row, sound_holding, sound_pins, sound_borders, sound_place, same_place, sound_order, sound}

-- ---- from the test to the facts

slot_facts : (s : State) (i : ℕ) → sound_slot s i ≡ true → SlotSound s i
unfolding sound_slot
slot_facts s i e =
    let h = and_true (sound_content s (slot_at s i).content (slot_at s i).touch) (ltb i s.size || not (is_filled (slot_at s i).content)) e in
    go (slot_at s i).content refl h.0 h.1
  where
    go : (c : Content) → (slot_at s i).content ≡ c → sound_content s (slot_at s i).content (slot_at s i).touch ≡ true
        → ltb i s.size || not (is_filled (slot_at s i).content) ≡ true → SlotSound s i
    go Empty q h k =
        let z = eqb-true (slot_at s i).touch 0 (rw q at h) in
        record {
          empty = λ _. z;
          page = λ f. true_false (sym (rw q at f));
          lowest = λ f. true_false (sym (rw q at f));
          touch = omega arith;
          arrival = λ f. true_false (sym (rw q at f));
          started = λ f. true_false (sym (rw q at f));
        }
    go (Filled p a d l) q h k =
        let h' = rw q at h in
        record {
          empty = λ f. true_false (rw q at f);
          page = λ _. rw q (leb-true p 4095 (search parts depth 20));
          lowest = λ _. rw q (leb-true l 3 (search parts depth 20));
          touch = leb-true (slot_at s i).touch s.clock (search parts depth 20);
          arrival = λ _. rw q (leb-true a (s.clock + s.delay) (search parts depth 20));
          started = λ _. last (ltb i s.size) refl (rw q at k);
        }
      where
        last : (b : Bool) → ltb i s.size ≡ b → ltb i s.size || false ≡ true → i < s.size
        last true w k = ltb-true i s.size w
        last false w k = true_false (sym (rw w at k))

arrived_fact : (s : State) (i r : ℕ) → arrived s i r ≡ true → holds s i r ≡ true → (holding_at s i r).arrival ≤ s.clock
unfolding arrived
arrived_fact s i r e h = leb-true (holding_at s i r).arrival s.clock (rw h at e)

row_facts : (s : State) (r : ℕ) (c : Condition) (d : ℕ) → sound_condition s r c d ≡ true → RowSound s r c d
row_facts s r Free d e = eqb-true d 0 e
row_facts s r (Killed cause) d e = eqb-true d 0 e
row_facts s r Idle d e = record {
  deadline = search parts depth 20;
  arrived = λ i b. arrived_fact s i r (all_each (λ slot. arrived s slot r) 64 i (search parts depth 20) b);
}
row_facts s r (Fetching due) d e = record {
  deadline = search parts depth 20;
  due = ltb-true s.clock due (search parts depth 20);
  one = count_one (awaits s r due) 64 (eqb-true (count_below 64 (awaits s r due)) 1 (search parts depth 20));
  others = λ i b h w. last i h w (arrived s i r) refl (all_each (λ slot. arrived s slot r || awaits s r due slot) 64 i (search parts depth 20) b);
}
  where
    last : (i : ℕ) → holds s i r ≡ true → awaits s r due i ≡ false → (b : Bool) → arrived s i r ≡ b → arrived s i r || awaits s r due i ≡ true → (holding_at s i r).arrival ≤ s.clock
    last i h w true q k = arrived_fact s i r q h
    last i h w false q k = true_false (sym (rw (q, w) at k))
row_facts s r (Waiting page mode) d e = (
  record {
    deadline = search parts depth 20;
    arrived = λ i b. arrived_fact s i r (all_each (λ slot. arrived s slot r) 64 i (search parts depth 20) b);
  },
  leb-true page 4095 (search parts depth 20),
  search parts depth 20,
)

held_facts : (s : State) (i r : ℕ) → sound_holding s i r ≡ true → holds s i r ≡ true → Held s i r
unfolding sound_holding
held_facts s i r e h =
    let k = rw h at e in
    record {
      live = search parts depth 20;
      filled = search parts depth 20;
      allowed = search parts depth 20;
      after = leb-true (arrival_in (slot_at s i).content) (holding_at s i r).arrival (search parts depth 20);
      arrival = leb-true (holding_at s i r).arrival (s.clock + s.delay) (search parts depth 20);
      touch = leb-true (holding_at s i r).touch (slot_at s i).touch (search parts depth 20);
      lowest = leb-true (lowest_in (slot_at s i).content) (level_of r) (search parts depth 20);
    }

no_holding : (h : Holding) → is_held h.pin ≡ false → h.arrival ≡ 0 → h.touch ≡ 0 → h ≡ empty_holding
no_holding h e a t = go h.pin refl
  where
    go : (p : Pin) → h.pin ≡ p → h ≡ empty_holding
    go Absent q = λ j. record { pin = q j; arrival = a j; touch = t j }
    go Unpinned q = true_false (rw q at e)
    go Read q = true_false (rw q at e)
    go Write q = true_false (rw q at e)

unheld_facts : (s : State) (i r : ℕ) → sound_holding s i r ≡ true → holds s i r ≡ false → holding_at s i r ≡ empty_holding
unfolding sound_holding
unheld_facts s i r e h =
    let k = and_true (eqb (holding_at s i r).arrival 0) (eqb (holding_at s i r).touch 0) (rw h at e) in
    no_holding (holding_at s i r) h (eqb-true (holding_at s i r).arrival 0 k.0) (eqb-true (holding_at s i r).touch 0 k.1)

pages_facts : (s : State) → sound_pages s ≡ true → (i j : ℕ) → i < 64 → j < 64 → is_filled (slot_at s i).content ≡ true → is_filled (slot_at s j).content ≡ true
    → page_in (slot_at s i).content ≡ page_in (slot_at s j).content → i ≡ j
unfolding sound_pages same_page
pages_facts s e i j a b f g q = elim (ℕ_discrete i j) [
  | yes m ↦ m
  | no m ↦ absurd (by_larger (λ x y. is_filled (slot_at s x).content ≡ true → is_filled (slot_at s y).content ≡ true → page_in (slot_at s x).content ≡ page_in (slot_at s y).content → ⊥)
      (λ x y h u v w. h v u (sym w)) 64
      (λ x y c d u v w.
      let k = pairs_each (λ slot other. not (is_filled (slot_at s slot).content && has_page (page_in (slot_at s slot).content) (slot_at s other).content)) 64 x y e c d in
      true_false (sym (both_true u (has_page_lem (page_in (slot_at s x).content) (slot_at s y).content v (sym w))) ∙ not-true (is_filled (slot_at s x).content && has_page (page_in (slot_at s x).content) (slot_at s y).content) k))
      i j a b m f g q)
]

pins_facts : (s : State) (i : ℕ) → sound_pins s i ≡ true → (r q : ℕ) → r < 32 → q < 32 → (r ≡ q → ⊥) → conflict (holding_at s i r).pin (holding_at s i q).pin ≡ false
unfolding sound_pins
pins_facts s i e r q a b m =
    by_larger (λ x y. conflict (holding_at s i x).pin (holding_at s i y).pin ≡ false)
    (λ x y h. conflict_comm (holding_at s i y).pin (holding_at s i x).pin ∙ h) 32
    (λ x y c d. not-true (conflict (holding_at s i x).pin (holding_at s i y).pin) (pairs_each (λ row other. not (conflict (holding_at s i row).pin (holding_at s i other).pin)) 32 x y e c d))
    r q a b m

-- a row by its level and number
by_number : (P : ℕ → Type 0) (r : ℕ) → P (row_of (level_of r) (number_of r)) → P r
by_number P r x = let e : row_of (level_of r) (number_of r) ≡ r = omega arith in rw e at x

order_facts : (s : State) → ((l : ℕ) → l < 4 → sound_order s l ≡ true) → OrderSound s
unfolding sound_order sound_place same_place
order_facts s e = record {
  none = λ r b f. by_number (λ q. place_at s q ≡ 0) r (eqb-true (place_at s (row_in r)) 0 (rw (free_at r true f) at (place r b)));
  least = λ r b f. by_number (λ q. 1 ≤ place_at s q) r (leb-true 1 (place_at s (row_in r)) (within r b f).0);
  most = λ r b f. by_number (λ q. place_at s q ≤ rows_not_free s.rows (level_of r)) r (leb-true (place_at s (row_in r)) (rows_not_free s.rows (level_of r)) (within r b f).1);
  once = once;
}
  where
    row_in : ℕ → ℕ
    row_in r = row_of (level_of r) (number_of r)

    both : (l : ℕ) → l < 4 → (all_below 8 (sound_place s l) ≡ true) × (all_below 8 (λ number. all_below number (λ other. not (same_place s l number other))) ≡ true)
    both l b = and_true (all_below 8 (sound_place s l)) (all_below 8 (λ number. all_below number (λ other. not (same_place s l number other)))) (e l b)

    place : (r : ℕ) → r < 32 → sound_place s (level_of r) (number_of r) ≡ true
    place r b = all_each (sound_place s (level_of r)) 8 (number_of r) (both (level_of r) (omega arith)).0 (omega arith)

    free_at : (r : ℕ) (t : Bool) → is_free (row_at s r).condition ≡ t → is_free (row_at s (row_in r)).condition ≡ t
    free_at r t f = let q : r ≡ row_in r = omega arith in rw q at f

    within : (r : ℕ) → r < 32 → is_free (row_at s r).condition ≡ false → (leb 1 (place_at s (row_in r)) ≡ true) × (leb (place_at s (row_in r)) (rows_not_free s.rows (level_of r)) ≡ true)
    within r b f = and_true (leb 1 (place_at s (row_in r))) (leb (place_at s (row_in r)) (rows_not_free s.rows (level_of r))) (rw (free_at r false f) at (place r b))

    once : (r q : ℕ) → r < 32 → q < 32 → level_of r ≡ level_of q → 1 ≤ place_at s r → place_at s r ≡ place_at s q → r ≡ q
    once r q b c l p m = elim (ℕ_discrete r q) [
      | yes f ↦ f
      | no f ↦
          let x : place_at s (row_of (level_of r) (number_of r)) ≡ place_at s r = ap (λ (k : ℕ). place_at s k) (omega arith) in
          let y : place_at s (row_of (level_of r) (number_of q)) ≡ place_at s q = ap (λ (k : ℕ). place_at s k) (omega arith) in
          absurd (by_larger (λ x y. 1 ≤ place_at s (row_of (level_of r) x) → place_at s (row_of (level_of r) x) ≡ place_at s (row_of (level_of r) y) → ⊥)
          (λ x y h u v. h (rw (← v) u) (sym v)) 8
          (λ x y g d u v. true_false (sym (both_true (lt-ltb 0 (place_at s (row_of (level_of r) x)) u) (eq-eqb (place_at s (row_of (level_of r) x)) (place_at s (row_of (level_of r) y)) v))
          ∙ not-true (same_place s (level_of r) x y) (pairs_each (λ number other. not (same_place s (level_of r) number other)) 8 x y (both (level_of r) (omega arith)).1 g d)))
          (number_of r) (number_of q) (omega arith) (omega arith) (λ w. f (omega arith)) (omega (arith, x, p)) (x ∙ m ∙ sym y))
    ]

pub facts : (s : State) → sound s ≡ true → Sound s
unfolding sound sound_numbers sound_row
facts s e = record {
  sized = record {
    rows = eqb-true (length s.rows) 32 (search parts depth 20);
    slots = eqb-true (length s.slots) 64 (search parts depth 20);
    holdings = eqb-true (length s.holdings) 2048 (search parts depth 20);
    places = eqb-true (length s.places) 32 (search parts depth 20);
  };
  size_least = leb-true 1 s.size (search parts depth 20);
  size_most = leb-true s.size 64 (search parts depth 20);
  delay_least = leb-true 1 s.delay (search parts depth 20);
  delay_most = leb-true s.delay 255 (search parts depth 20);
  clock_most = leb-true s.clock last_clock (search parts depth 20);
  slot = λ i b. slot_facts s i (all_each (sound_slot s) 64 i (search parts depth 20) b);
  one_slot = pages_facts s (search parts depth 20);
  row = λ q b. row_facts s q (row_at s q).condition (row_at s q).deadline (all_each (sound_row s) 32 q (search parts depth 20) b);
  order = order_facts s (λ l b. all_each (sound_order s) 4 l (search parts depth 20) b);
  held = λ i q a b. held_facts s i q (all_each (sound_holding s i) 32 q (all_each (λ slot. all_below 32 (sound_holding s slot)) 64 i (search parts depth 20) a) b);
  unheld = λ i q a b. unheld_facts s i q (all_each (sound_holding s i) 32 q (all_each (λ slot. all_below 32 (sound_holding s slot)) 64 i (search parts depth 20) a) b);
  no_conflict = λ i q o a. pins_facts s i (all_each (sound_pins s) 64 i (search parts depth 20) a) q o;
}

pub is_free_lem : (x : Condition) → is_free x ≡ true → x ≡ Free
is_free_lem Free e = refl
is_free_lem Idle e = true_false (sym e)
is_free_lem (Fetching due) e = true_false (sym e)
is_free_lem (Waiting page mode) e = true_false (sym e)
is_free_lem (Killed cause) e = true_false (sym e)

pub borders_facts : (s : State) → sound s ≡ true → BordersSound s
unfolding sound sound_borders
borders_facts s e = record {
  valid = search parts depth 20;
  free = λ b r g. is_free_lem (row_at s r).condition (all_each (λ row. is_free (row_at s row).condition) 32 r (before b).0 g);
  empty = λ b i g. not-true (is_filled (slot_at s i).content) (all_each (λ slot. not (is_filled (slot_at s slot).content)) 64 i (before b).1 g);
}
  where
    before : s.begun ≡ false → (all_below 32 (λ row. is_free (row_at s row).condition) ≡ true) × (all_below 64 (λ slot. not (is_filled (slot_at s slot).content)) ≡ true)
    before b =
        let k : s.begun || (all_below 32 (λ row. is_free (row_at s row).condition) && all_below 64 (λ slot. not (is_filled (slot_at s slot).content))) ≡ true = search parts depth 20 in
        and_true (all_below 32 (λ row. is_free (row_at s row).condition)) (all_below 64 (λ slot. not (is_filled (slot_at s slot).content))) (rw b at k)

-- a live row is not free
pub live_taken : (x : Condition) → is_live x ≡ true → is_free x ≡ false
live_taken Free e = true_false (sym e)
live_taken Idle e = refl
live_taken (Fetching due) e = refl
live_taken (Waiting page mode) e = refl
live_taken (Killed cause) e = refl

-- a row that holds a slot is not free
pub held_taken : (s : State) → Sound s → (i r : ℕ) → i < 64 → r < 32 → holds s i r ≡ true → is_free (row_at s r).condition ≡ false
held_taken s z i r a b w = live_taken (row_at s r).condition (z.held i r a b w).live

-- of two rows of a sound state that are not free one outranks the other
pub ranks_apart : (s : State) → Sound s → (r q : ℕ) → r < 32 → q < 32 → is_free (row_at s r).condition ≡ false → outranks s r q ≡ false → outranks s q r ≡ false → r ≡ q
ranks_apart s z r q a b f g h =
    let x = outranks_total s r q g h in
    z.order.once r q a b x.0 (z.order.least r a f) x.1

-- an empty slot has no holder
pub empty_unheld : (s : State) → Sound s → (i r : ℕ) → i < 64 → r < 32 → is_filled (slot_at s i).content ≡ false → holds s i r ≡ false
empty_unheld s z i r a b e = not_true_false (holds s i r) (λ h. true_false (sym (z.held i r a b h).filled ∙ e))
