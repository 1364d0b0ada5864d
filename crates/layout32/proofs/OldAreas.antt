-- A sound area of the last 32-bit layout names one state in both layouts, has exactly its bytes but for the version, and is known by the version, the clock and the deadlines.
use mathlib.Core.Path.{◌≡◌, refl, sym, ap, ◌∙◌}
use mathlib.Core.Bool.{Bool, true, false, cond, not, ◌&&◌}
use mathlib.Core.List.{List, ◌++◌}
use Prim.Native.Nat.{ℕ, ◌+◌, ◌*◌, ◌/◌, ◌%◌, ◌<◌, ◌≤◌, ◌^◌}
use native.Mathlib.Omega.{arith}
use borrow.Author.Tests.{leb-true, le-leb, lt-ltb, ltb-true}
use lib.Dec.{leb, ltb, eqb, lit<}
use lib.ListN.{length, get_or, take, drop, replicate, take-append-drop, length-replicate}
use Rattle.seq.specs.Below.{all_below}
use Rattle.seq.proofs.Tests.{and_true, both_true}
use Rattle.seq.proofs.BelowLaws.{all_each, each_all}
use Rattle.seq.proofs.BuildLaws.{build_at}
use Rattle.seq.proofs.EachLaws.{each_length}
use Rattle.words.specs.Bytes.{word_at}
use Rattle.words.proofs.SameLaws.{same_true, true_same}
use Rattle.model.specs.declared.Cause.TheVariants.{Late, Taken}
use Rattle.model.specs.declared.Condition.{Condition}
use Rattle.model.specs.declared.Condition.TheVariants.{Free, Idle, Fetching, Waiting, Killed}
use Rattle.model.specs.declared.Content.{Content}
use Rattle.model.specs.declared.Content.TheVariants.{Empty, Filled}
use Rattle.model.specs.declared.Row.{Row}
use Rattle.model.specs.declared.State.{State}
use Rattle.model.specs.Parties.{mode_of}
use Rattle.model.specs.State.{free_row, empty_slot, empty_holding, empty_holdings, row_at, slot_at}
use Rattle.model.specs.Ranges.{StateOk}
use Rattle.rules.specs.Sound.{sound}
use Rattle.rules.specs.SoundFacts.{Sound, RowSound}
use Rattle.rules.proofs.Facts.SoundFacts.{facts}
use Rattle.rules.proofs.Promises.Widths.{due_below, touch_below, arrival_below, held_below, sound_ok}
use Rattle.area.specs.Layout.{header_words, row_words, slot_words, holding_words, encoded_as, low, condition_of, content_of, pin_numbered, row_from, slot_from, holding_from, borders_from, places_from, free_rows, empty_slots, no_places, decoded, exact_as}
use Rattle.area.proofs.Elements.{low_small, low_same, at_each_place, decoded_row, decoded_slot, decoded_holding, decoded_sized}
use Rattle.area.proofs.RoundTrip.{built, decode_encode, encode_exact, exact_long}
use Rattle.layout32.specs.Layout as Old
use Rattle.layout32.specs.Sound32.{last_clock32, sound32, sound_area32}
use Rattle.layout32.specs.Known.{OldArea, fits}

-- ---- the bytes of a state are those of the layout that is written, but for the version

pub old_bytes : (s : State) → Old.encoded s ≡ encoded_as Old.version s
unfolding Old.encoded Old.header_words Old.row_words Old.slot_words Old.holding_words encoded_as header_words row_words slot_words holding_words
old_bytes s = refl

-- ---- ticks below 2 ^ 32 are read alike

abbrev ConditionBelow : Condition → Type 0
ConditionBelow Free = Unit {0}
ConditionBelow Idle = Unit {0}
ConditionBelow (Fetching due) = due < 2 ^ 32
ConditionBelow (Waiting page mode) = Unit {0}
ConditionBelow (Killed cause) = Unit {0}

abbrev ContentBelow : Content → Type 0
ContentBelow Empty = Unit {0}
ContentBelow (Filled page arrival dirty lowest) = arrival < 2 ^ 32

condition_same : (n w m : ℕ) → ConditionBelow (condition_of n w m) → Old.condition_of n w m ≡ condition_of n w m
unfolding condition_of Old.condition_of
condition_same n w m = go (eqb n 0) (eqb n 1) (eqb n 2) (eqb n 3) (eqb n 4)
  where
    rest : Bool → Bool → Condition
    rest b3 b4 = cond b3 (Waiting (low w) (mode_of m)) (cond b4 (Killed Late) (Killed Taken))

    go : (b0 b1 b2 b3 b4 : Bool) → ConditionBelow (cond b0 Free (cond b1 Idle (cond b2 (Fetching w) (rest b3 b4))))
        → cond b0 Free (cond b1 Idle (cond b2 (Fetching (low w)) (rest b3 b4))) ≡ cond b0 Free (cond b1 Idle (cond b2 (Fetching w) (rest b3 b4)))
    go true b1 b2 b3 b4 h = refl
    go false true b2 b3 b4 h = refl
    go false false true b3 b4 h = ap Fetching (low_same w h)
    go false false false b3 b4 h = refl

content_same : (f p r d l : ℕ) → ContentBelow (content_of f p r d l) → Old.content_of f p r d l ≡ content_of f p r d l
unfolding content_of Old.content_of
content_same f p r d l = go (eqb f 0)
  where
    go : (b : Bool) → ContentBelow (cond b Empty (Filled (low p) r (not (eqb d 0)) l)) → cond b Empty (Filled (low p) (low r) (not (eqb d 0)) l) ≡ cond b Empty (Filled (low p) r (not (eqb d 0)) l)
    go true h = refl
    go false h = λ i. Filled (low p) (low_same r h i) (not (eqb d 0)) l

module _ (a : List ℕ) (at : ℕ) where
  row_same : ConditionBelow (row_from a at).condition → (row_from a at).deadline < 2 ^ 32 → Old.row_from a at ≡ row_from a at
  unfolding row_from Old.row_from
  row_same h k = λ i. record { condition = condition_same (word_at a at) (word_at a (at + 8)) (word_at a (at + 16)) h i; deadline = low_same (word_at a (at + 24)) k i }

  slot_same : ContentBelow (slot_from a at).content → (slot_from a at).touch < 2 ^ 32 → Old.slot_from a at ≡ slot_from a at
  unfolding slot_from Old.slot_from
  slot_same h k = λ i. record { content = content_same (word_at a at) (word_at a (at + 8)) (word_at a (at + 16)) (word_at a (at + 24)) (word_at a (at + 32)) h i; touch = low_same (word_at a (at + 40)) k i }

  holding_same : (holding_from a at).arrival < 2 ^ 32 → (holding_from a at).touch < 2 ^ 32 → Old.holding_from a at ≡ holding_from a at
  unfolding holding_from Old.holding_from pin_numbered Old.pin_numbered
  holding_same h k = λ i. record { pin = pin_numbered (word_at a at); arrival = low_same (word_at a (at + 8)) h i; touch = low_same (word_at a (at + 16)) k i }

-- every tick of a state is below 2 ^ 32
record Below (s : State) : Type 0 where
  delay : s.delay < 2 ^ 32
  clock : s.clock < 2 ^ 32
  condition : (row : ℕ) → row < 32 → ConditionBelow (row_at s row).condition
  deadline : (row : ℕ) → row < 32 → (row_at s row).deadline < 2 ^ 32
  content : (slot : ℕ) → slot < 64 → ContentBelow (slot_at s slot).content
  touch : (slot : ℕ) → slot < 64 → (slot_at s slot).touch < 2 ^ 32
  held : (k : ℕ) → k < 2048 → ((get_or s.holdings k empty_holding).arrival < 2 ^ 32) × ((get_or s.holdings k empty_holding).touch < 2 ^ 32)

named_same : (a : List ℕ) → Below (decoded a) → Old.decoded a ≡ decoded a
unfolding decoded Old.decoded free_rows Old.free_rows empty_slots Old.empty_slots empty_holdings borders_from Old.borders_from places_from Old.places_from no_places Old.no_places
named_same a w = λ i. record {
  size = word_at a 16;
  delay = low_same (word_at a 24) w.delay i;
  clock = low_same (word_at a 32) w.clock i;
  rows = built (λ row. Old.row_from a (512 + row * 64)) free_row 32 (decoded a).rows (decoded_sized a).rows
      (λ row b. let e = decoded_row a row b in row_same a (512 + row * 64) (rw e at (w.condition row b)) (rw e at (w.deadline row b)) ∙ sym e) i;
  slots = built (λ slot. Old.slot_from a (2560 + slot * 64)) empty_slot 64 (decoded a).slots (decoded_sized a).slots
      (λ slot b. let e = decoded_slot a slot b in slot_same a (2560 + slot * 64) (rw e at (w.content slot b)) (rw e at (w.touch slot b)) ∙ sym e) i;
  holdings = built (λ k. Old.holding_from a (6656 + k * 24)) empty_holding 2048 (decoded a).holdings (decoded_sized a).holdings
      (λ k b. let e = decoded_holding a k b in holding_same a (6656 + k * 24) (rw e at (w.held k b).0) (rw e at (w.held k b).1) ∙ sym e) i;
  borders = borders_from a;
  begun = (decoded a).begun;
  places = places_from a;
}

-- a sound state whose clock and deadlines fit
module _ (s : State) (z : Sound s) (early : s.clock ≤ last_clock32) (narrow : (row : ℕ) → row < 32 → (row_at s row).deadline < 2 ^ 32) where
  room : s.clock + s.delay < 2 ^ 32
  room = let b : last_clock32 + 255 < 2 ^ 32 = lit< tt in omega (arith, early, z.delay_most)

  condition_below : (row : ℕ) → row < 32 → (c : Condition) (deadline : ℕ) → RowSound s row c deadline → ConditionBelow c
  condition_below row b Free deadline h = tt
  condition_below row b Idle deadline h = tt
  condition_below row b (Fetching due) deadline h = due_below s z (2 ^ 32) room row due deadline b h
  condition_below row b (Waiting page mode) deadline h = tt
  condition_below row b (Killed cause) deadline h = tt

  content_below : (slot : ℕ) → slot < 64 → (c : Content) → (slot_at s slot).content ≡ c → ContentBelow c
  content_below slot b Empty e = tt
  content_below slot b (Filled page arrival dirty lowest) e = rw e at (arrival_below s z (2 ^ 32) room slot b (rw e))

  below : Below s
  below = record {
    delay = omega (arith, room);
    clock = omega (arith, room);
    condition = λ row b. condition_below row b (row_at s row).condition (row_at s row).deadline (z.row row b);
    deadline = narrow;
    content = λ slot b. content_below slot b (slot_at s slot).content refl;
    touch = touch_below s z (2 ^ 32) room;
    held = λ k b. let n : k / 32 * 32 + k % 32 ≡ k = omega arith in rw n at (held_below s z (2 ^ 32) room (k / 32) (k % 32) (omega arith) (omega arith));
  }

-- ---- a sound area of the last 32-bit layout

-- every deadline that it reads
old_deadline : (a : List ℕ) (row : ℕ) → (row_at (Old.decoded a) row).deadline < 2 ^ 32
unfolding Old.decoded Old.free_rows Old.row_from
old_deadline a = at_each_place (λ (x : Row). x.deadline < 2 ^ 32) free_row (lit< tt) (Old.decoded a).rows
    (λ i b. let h : i < 32 = rw (each_length (λ row _. Old.row_from a (512 + row * 64)) (replicate 32 free_row), length-replicate 32 free_row) at b in
    rw (build_at (λ i. Old.row_from a (512 + i * 64)) 32 free_row i free_row h) (low_small (word_at a (512 + i * 64 + 24))))

module _ (a : List ℕ) (e : Old.exact a ≡ true) (z : sound (Old.decoded a) ≡ true) where
  abbrev old : State
  old = Old.decoded a

  front : take 65536 a ≡ encoded_as Old.version old
  unfolding Old.exact
  front = same_true (take 65536 a) (Old.encoded old) e ∙ old_bytes old

  old_named : old ≡ decoded a
  old_named =
      let k : StateOk old = sound_ok old z (λ row. omega (arith, old_deadline a row)) in
      let r = drop 65536 a in
      sym (ap decoded (sym (take-append-drop 65536 a) ∙ ap (λ (b : List ℕ). b ++ r) front) ∙ decode_encode Old.version (lit< tt) old k r)

  old_exact : exact_as Old.version a ≡ true
  unfolding exact_as
  old_exact = true_same (take 65536 a) (encoded_as Old.version (decoded a)) (front ∙ ap (encoded_as Old.version) old_named)

pub old_area : (a : List ℕ) → sound_area32 a ≡ true → OldArea a
unfolding sound_area32 sound32 fits
old_area a e =
    let p = and_true (leb 65536 (length a)) (Old.exact a && sound32 (Old.decoded a)) e in
    let q = and_true (Old.exact a) (sound32 (Old.decoded a)) p.1 in
    let r = and_true (sound (Old.decoded a)) (leb (Old.decoded a).clock last_clock32) q.1 in
    let n = old_named a q.0 r.0 in
    let b = each_all (λ row. ltb (row_at (Old.decoded a) row).deadline 4294967296) 32 (λ row _. lt-ltb (row_at (Old.decoded a) row).deadline 4294967296 (old_deadline a row)) in
    record {
      long = leb-true 65536 (length a) p.0;
      exactly = old_exact a q.0 r.0;
      narrow = rw n at (both_true r.1 b);
      sound_state = rw n at r.0;
      named = n;
    }

pub area_old : (a : List ℕ) → 65536 ≤ length a → exact_as Old.version a ≡ true → fits (decoded a).clock (decoded a).rows ≡ true → sound (decoded a) ≡ true → sound_area32 a ≡ true
unfolding sound_area32 sound32 Old.exact exact_as fits
area_old a l e h z =
    let s = decoded a in
    let f = and_true (leb s.clock last_clock32) (all_below 32 (λ row. ltb (row_at s row).deadline 4294967296)) h in
    let n = named_same a (below s (facts s z) (leb-true s.clock last_clock32 f.0) (λ row b. ltb-true (row_at s row).deadline 4294967296 (all_each (λ row. ltb (row_at s row).deadline 4294967296) 32 row f.1 b))) in
    let x = true_same (take 65536 a) (Old.encoded (Old.decoded a)) (same_true (take 65536 a) (encoded_as Old.version s) e ∙ sym (old_bytes s) ∙ ap Old.encoded (sym n)) in
    both_true (le-leb 65536 (length a) l) (both_true x (rw n (both_true z f.0)))

-- every sound state whose clock and deadlines fit has such an area: the bytes that the old layout gives for it
pub old_made : (s : State) → sound s ≡ true → s.clock ≤ last_clock32 → ((row : ℕ) → (row_at s row).deadline < 2 ^ 32) → (r : List ℕ)
    → (sound_area32 (Old.encoded s ++ r) ≡ true) × (Old.decoded (Old.encoded s ++ r) ≡ s)
unfolding fits
old_made s z early narrow r =
    let ok : StateOk s = sound_ok s z (λ row. omega (arith, narrow row)) in
    let a = encoded_as Old.version s ++ r in
    let n : decoded a ≡ s = decode_encode Old.version (lit< tt) s ok r in
    let e : exact_as Old.version a ≡ true = encode_exact Old.version (lit< tt) s ok r in
    let f : fits s.clock s.rows ≡ true = both_true (le-leb s.clock last_clock32 early) (each_all (λ row. ltb (row_at s row).deadline 4294967296) 32 (λ row _. lt-ltb (row_at s row).deadline 4294967296 (narrow row))) in
    let o = area_old a (exact_long Old.version a e) e (rw n f) (rw n z) in
    rw (old_bytes s) (o, (old_area a o).named ∙ n)
