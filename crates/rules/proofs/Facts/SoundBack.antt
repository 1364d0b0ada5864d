-- From the facts back to the test: a state of which they hold is sound.
use mathlib.Core.Path.{◌≡◌, refl, sym}
use mathlib.Core.Bool.{Bool, true, false, ◌&&◌, ◌||◌, not}
use Prim.Native.Nat.{ℕ, ◌+◌, ◌<◌, ◌≤◌}
use native.Mathlib.Omega.{arith}
use borrow.Author.Tests.{lt-ltb, ltb-true, le-leb, eq-eqb, eqb-true}
use lib.Dec.{leb, ltb, eqb}
use lib.ListN.{length}
use Rattle.seq.specs.Below.{all_below, count_below}
use Rattle.seq.proofs.Tests.{false_not, and_true, both_true, not_true_false, or_true_right}
use Rattle.seq.proofs.BelowLaws.{each_all, one_count, each_pairs}
use Rattle.model.specs.declared.Condition.{Condition}
use Rattle.model.specs.declared.Condition.TheVariants.{Free, Idle, Fetching, Waiting, Killed}
use Rattle.model.specs.declared.Content.{Content}
use Rattle.model.specs.declared.Content.TheVariants.{Empty, Filled}
use Rattle.model.specs.declared.State.{State}
use Rattle.model.specs.Parties.{row_of, level_of, last_clock}
use Rattle.model.specs.State.{row_at, slot_at, holding_at, place_at}
use Rattle.model.specs.Words.{is_free, is_filled, page_in, arrival_in, lowest_in, has_page, holds, conflict}
use Rattle.model.specs.Changes.{rows_not_free}
use Rattle.model.proofs.ContentLaws.{page_has}
use Rattle.rules.specs.Sound.{sound_numbers, arrived, awaits, sound_content, sound_slot, same_page, sound_pages, in_time, sound_condition, sound_row, sound_holding, sound_pins, sound_borders, sound_place, same_place, sound_order, sound}
use Rattle.rules.specs.SoundFacts.{SlotSound, Settled, RowSound, BordersSound, OrderSound, Sound}

slot_back : (s : State) (i : ℕ) → SlotSound s i → sound_slot s i ≡ true
unfolding sound_slot
slot_back s i h = both_true (go (slot_at s i).content refl) (last (is_filled (slot_at s i).content) refl)
  where
    go : (c : Content) → (slot_at s i).content ≡ c → sound_content s (slot_at s i).content (slot_at s i).touch ≡ true
    go Empty e = rw e (eq-eqb (slot_at s i).touch 0 (h.empty (rw e)))
    go (Filled p a x l) e =
        rw e (both_true (both_true (both_true
        (le-leb p 4095 (rw e at (h.page (rw e))))
        (le-leb l 3 (rw e at (h.lowest (rw e)))))
        (le-leb (slot_at s i).touch s.clock h.touch))
        (le-leb a (s.clock + s.delay) (rw e at (h.arrival (rw e)))))

    last : (b : Bool) → is_filled (slot_at s i).content ≡ b → ltb i s.size || not (is_filled (slot_at s i).content) ≡ true
    last true e = rw (lt-ltb i s.size (h.started e))
    last false e = or_true_right (ltb i s.size) (not (is_filled (slot_at s i).content)) (rw e)

pages_back : (s : State) → Sound s → sound_pages s ≡ true
unfolding sound_pages same_page
pages_back s h =
    each_pairs (λ slot other. not (is_filled (slot_at s slot).content && has_page (page_in (slot_at s slot).content) (slot_at s other).content)) 64
    (λ i j a b. false_not (is_filled (slot_at s i).content && has_page (page_in (slot_at s i).content) (slot_at s j).content)
    (not_true_false (is_filled (slot_at s i).content && has_page (page_in (slot_at s i).content) (slot_at s j).content) (λ e.
    let f = and_true (is_filled (slot_at s i).content) (has_page (page_in (slot_at s i).content) (slot_at s j).content) e in
    let g = page_has (page_in (slot_at s i).content) (slot_at s j).content f.1 in
    omega (arith, h.one_slot i j a (omega arith) f.0 g.0 (sym g.1)))))

arrived_back : (s : State) (i r : ℕ) → (holds s i r ≡ true → (holding_at s i r).arrival ≤ s.clock) → arrived s i r ≡ true
unfolding arrived
arrived_back s i r h = go (holds s i r) refl
  where
    go : (b : Bool) → holds s i r ≡ b → not (holds s i r) || leb (holding_at s i r).arrival s.clock ≡ true
    go true e = rw e (le-leb (holding_at s i r).arrival s.clock (h e))
    go false e = rw e

settled_back : (s : State) (r d : ℕ) → Settled s r d → in_time s d && all_below 64 (λ slot. arrived s slot r) ≡ true
settled_back s r d h =
    both_true h.deadline (each_all (λ slot. arrived s slot r) 64 (λ i b. arrived_back s i r (h.arrived i b)))

row_back : (s : State) (r : ℕ) (c : Condition) (d : ℕ) → RowSound s r c d → sound_condition s r c d ≡ true
row_back s r Free d h = eq-eqb d 0 h
row_back s r (Killed cause) d h = eq-eqb d 0 h
row_back s r Idle d h = settled_back s r d h
row_back s r (Fetching due) d h =
    both_true (both_true (both_true
    h.deadline
    (lt-ltb s.clock due h.due))
    (eq-eqb (count_below 64 (awaits s r due)) 1 (one_count (awaits s r due) 64 h.one)))
    (each_all (λ slot. arrived s slot r || awaits s r due slot) 64 (λ i b. go i b (awaits s r due i) refl))
  where
    go : (i : ℕ) → i < 64 → (b : Bool) → awaits s r due i ≡ b → arrived s i r || awaits s r due i ≡ true
    go i b true e = or_true_right (arrived s i r) (awaits s r due i) e
    go i b false e = rw (arrived_back s i r (λ w. h.others i b w e))
row_back s r (Waiting page mode) d h =
    both_true (both_true (settled_back s r d h.0) (le-leb page 4095 h.1)) h.2

holding_back : (s : State) (i r : ℕ) → i < 64 → r < 32 → Sound s → sound_holding s i r ≡ true
unfolding sound_holding
holding_back s i r a b h = go (holds s i r) refl
  where
    go : (x : Bool) → holds s i r ≡ x → sound_holding s i r ≡ true
    go true e =
        let k = h.held i r a b e in
        rw e (both_true (both_true (both_true (both_true (both_true (both_true k.live k.filled) k.allowed)
        (le-leb (arrival_in (slot_at s i).content) (holding_at s i r).arrival k.after))
        (le-leb (holding_at s i r).arrival (s.clock + s.delay) k.arrival))
        (le-leb (holding_at s i r).touch (slot_at s i).touch k.touch))
        (le-leb (lowest_in (slot_at s i).content) (level_of r) k.lowest))
    go false e = let k = h.unheld i r a b e in rw k

pins_back : (s : State) (i : ℕ) → i < 64 → Sound s → sound_pins s i ≡ true
unfolding sound_pins
pins_back s i a h =
    each_pairs (λ row other. not (conflict (holding_at s i row).pin (holding_at s i other).pin)) 32
    (λ r q b c. false_not (conflict (holding_at s i r).pin (holding_at s i q).pin) (h.no_conflict i r q a b (omega arith) (λ e. omega arith)))

borders_back : (s : State) → BordersSound s → sound_borders s ≡ true
unfolding sound_borders
borders_back s h = both_true h.valid (go s.begun refl)
  where
    go : (b : Bool) → s.begun ≡ b → s.begun || (all_below 32 (λ row. is_free (row_at s row).condition) && all_below 64 (λ slot. not (is_filled (slot_at s slot).content))) ≡ true
    go true e = rw e
    go false e =
        rw e (both_true
        (each_all (λ row. is_free (row_at s row).condition) 32 (λ r g. rw (h.free e r g)))
        (each_all (λ slot. not (is_filled (slot_at s slot).content)) 64 (λ i g. rw (h.empty e i g))))

order_back : (s : State) → OrderSound s → (l : ℕ) → l < 4 → sound_order s l ≡ true
unfolding sound_order sound_place same_place
order_back s h l b =
    both_true
    (each_all (sound_place s l) 8 (λ n g. place n g (is_free (row_at s (row_of l n)).condition) refl))
    (each_pairs (λ number other. not (same_place s l number other)) 8 (λ n m g d. false_not (same_place s l n m) (not_true_false (same_place s l n m) (λ e.
    let f = and_true (ltb 0 (place_at s (row_of l n))) (eqb (place_at s (row_of l n)) (place_at s (row_of l m))) e in
    omega (arith, h.once (row_of l n) (row_of l m) (omega arith) (omega arith) (omega arith) (ltb-true 0 (place_at s (row_of l n)) f.0) (eqb-true (place_at s (row_of l n)) (place_at s (row_of l m)) f.1))))))
  where
    place : (n : ℕ) → n < 8 → (t : Bool) → is_free (row_at s (row_of l n)).condition ≡ t → sound_place s l n ≡ true
    place n g true e = rw e (eq-eqb (place_at s (row_of l n)) 0 (h.none (row_of l n) (omega arith) e))
    place n g false e =
        let k : level_of (row_of l n) ≡ l = omega arith in
        rw e (both_true
        (le-leb 1 (place_at s (row_of l n)) (h.least (row_of l n) (omega arith) e))
        (le-leb (place_at s (row_of l n)) (rows_not_free s.rows l) (rw k at (h.most (row_of l n) (omega arith) e))))

pub back : (s : State) → Sound s → BordersSound s → sound s ≡ true
unfolding sound sound_numbers sound_row
back s h b =
    both_true (both_true (both_true (both_true (both_true (both_true (both_true
    (both_true (both_true (both_true (both_true (both_true (both_true (both_true (both_true
    (eq-eqb (length s.rows) 32 h.sized.rows)
    (eq-eqb (length s.slots) 64 h.sized.slots))
    (eq-eqb (length s.holdings) 2048 h.sized.holdings))
    (eq-eqb (length s.places) 32 h.sized.places))
    (le-leb 1 s.size h.size_least))
    (le-leb s.size 64 h.size_most))
    (le-leb 1 s.delay h.delay_least))
    (le-leb s.delay 255 h.delay_most))
    (le-leb s.clock last_clock h.clock_most))
    (each_all (sound_slot s) 64 (λ i b. slot_back s i (h.slot i b))))
    (pages_back s h))
    (each_all (sound_row s) 32 (λ r b. row_back s r (row_at s r).condition (row_at s r).deadline (h.row r b))))
    (each_all (λ slot. all_below 32 (sound_holding s slot)) 64 (λ i a. each_all (sound_holding s i) 32 (λ r b. holding_back s i r a b h))))
    (each_all (sound_pins s) 64 (λ i a. pins_back s i a h)))
    (borders_back s b))
    (each_all (sound_order s) 4 (λ l g. order_back s h.order l g))
