-- The words of the header, of a place, of a row, of a slot and of a holding: their number, their ranges, and that they read back.
use mathlib.Core.Path.{◌≡◌, refl, ap, ◌∙◌}
use mathlib.Core.Bool.{Bool, true, false, cond, not, ◌&&◌}
use mathlib.Core.List.{List, [], ◌∷◌, ◌++◌}
use Prim.Native.Nat.{ℕ, ◌+◌, ◌*◌, ◌^◌, ◌<◌, ◌≤◌}
use native.Mathlib.Nat.{add-zero}
use native.Mathlib.Omega.{arith}
use native.Mathlib.Decide.{dec_lt, ℕ_discrete}
use borrow.Author.Tests.{lt-leb, eq-eqb, ne_eqb}
use lib.Dec.{leb, eqb, lit<, lit≤}
use lib.ListN.{length, get_or, length-replicate, get_or-eq_default}
use Rattle.seq.proofs.BuildLaws.{build_at}
use Rattle.seq.proofs.EachLaws.{each_length}
use Rattle.seq.specs.Below.{all_below}
use Rattle.words.specs.Bytes.{word_at, word_bytes, has_words, AllUnder}
use Rattle.words.proofs.ByteLaws.{under_each, length_words, word_under, word_back, word_in}
use Rattle.model.specs.declared.Cause.{Cause}
use Rattle.model.specs.declared.Cause.TheVariants.{Late, Taken}
use Rattle.model.specs.declared.Mode.{Mode}
use Rattle.model.specs.declared.Condition.{Condition}
use Rattle.model.specs.declared.Condition.TheVariants.{Free, Idle, Fetching, Waiting, Killed}
use Rattle.model.specs.declared.Content.{Content}
use Rattle.model.specs.declared.Content.TheVariants.{Empty, Filled}
use Rattle.model.specs.declared.Pin.{Pin}
use Rattle.model.specs.declared.Pin.TheVariants.{Absent, Unpinned, Read, Write}
use Rattle.model.specs.declared.Row.{Row}
use Rattle.model.specs.declared.Slot.{Slot}
use Rattle.model.specs.declared.Holding.{Holding}
use Rattle.model.specs.declared.State.{State}
use Rattle.model.specs.Parties.{mode_of, mode_number}
use Rattle.model.specs.State.{free_row, empty_slot, empty_holding, empty_holdings, row_at, slot_at, place_at}
use Rattle.model.specs.Words.{is_filled, page_in, arrival_in, dirty_in, lowest_in, strength}
use Rattle.model.specs.Ranges.{Sized, ConditionOk, ContentOk, RowOk, SlotOk, HoldingOk, BordersOk, StateOk}
use Rattle.area.specs.Layout.{header_words, condition_number, awaited, waiting_mode, row_words, bit, slot_words, holding_words, low, condition_of, pin_numbered, content_of, row_from, slot_from, holding_from, borders_from, free_rows, empty_slots, no_places, places_from, decoded}

-- ---- how long they are

pub header_wide : (v : ℕ) (s : State) → length (word_bytes (header_words v s)) ≡ 72
unfolding header_words
header_wide v s = length_words (header_words v s)

pub place_wide : (place : ℕ) → length (place ∷ []) * 8 ≡ 8
place_wide place = refl

pub row_wide : (x : Row) → length (row_words x) * 8 ≡ 64
unfolding row_words
row_wide x = refl

pub slot_wide : (x : Slot) → length (slot_words x) * 8 ≡ 64
unfolding slot_words
slot_wide x = refl

pub holding_wide : (h : Holding) → length (holding_words h) * 8 ≡ 24
unfolding holding_words
holding_wide h = refl

-- ---- their words are words

mode_small : (m : Mode) → mode_number m < 2 ^ 64
mode_small Mode.Read = lit< tt
mode_small Mode.Write = lit< tt

cause_small : (c : Cause) → condition_number (Killed c) < 2 ^ 64
cause_small Late = lit< tt
cause_small Taken = lit< tt

bit_small : (b : Bool) → bit b < 2 ^ 64
bit_small true = lit< tt
bit_small false = lit< tt

strength_small : (p : Pin) → strength p < 2 ^ 64
strength_small Absent = lit< tt
strength_small Unpinned = lit< tt
strength_small Read = lit< tt
strength_small Write = lit< tt

condition_small : (c : Condition) → ConditionOk c → (condition_number c < 2 ^ 64) × (awaited c < 2 ^ 64) × (waiting_mode c < 2 ^ 64)
condition_small Free k = (lit< tt, lit< tt, lit< tt)
condition_small Idle k = (lit< tt, lit< tt, lit< tt)
condition_small (Fetching due) k = (lit< tt, k, lit< tt)
condition_small (Waiting page mode) k = (lit< tt, omega arith, mode_small mode)
condition_small (Killed cause) k = (cause_small cause, lit< tt, lit< tt)

content_small : (c : Content) → ContentOk c → (page_in c < 2 ^ 64) × (arrival_in c < 2 ^ 64) × (lowest_in c < 2 ^ 64)
content_small Empty k = (lit< tt, lit< tt, lit< tt)
content_small (Filled page arrival dirty lowest) k = (omega (arith, k.0), k.1, k.2)

pub header_small : (v : ℕ) → v < 2 ^ 64 → (s : State) → StateOk s → AllUnder (2 ^ 64) (header_words v s)
unfolding header_words
header_small v h s k =
    let b = k.borders in
    under_each (2 ^ 64) (lit< tt) (header_words v s)
    (lit< tt, (h, (k.size, (k.delay, (k.clock, (omega (arith, b.first), (omega (arith, b.second), (omega (arith, b.third), (bit_small s.begun, tt)))))))))

pub place_small : (place : ℕ) → place < 2 ^ 64 → AllUnder (2 ^ 64) (place ∷ [])
place_small place h = under_each (2 ^ 64) (lit< tt) (place ∷ []) (h, tt)

pub row_small : (x : Row) → RowOk x → AllUnder (2 ^ 64) (row_words x)
unfolding row_words
row_small x k =
    let c = condition_small x.condition k.condition in
    under_each (2 ^ 64) (lit< tt) (row_words x) (c.0, (c.1, (c.2, (k.deadline, (lit< tt, (lit< tt, (lit< tt, (lit< tt, tt))))))))

pub slot_small : (x : Slot) → SlotOk x → AllUnder (2 ^ 64) (slot_words x)
unfolding slot_words
slot_small x k =
    let c = content_small x.content k.content in
    under_each (2 ^ 64) (lit< tt) (slot_words x)
    (bit_small (is_filled x.content), (c.0, (c.1, (bit_small (dirty_in x.content), (c.2, (k.touch, (lit< tt, (lit< tt, tt))))))))

pub holding_small : (h : Holding) → HoldingOk h → AllUnder (2 ^ 64) (holding_words h)
unfolding holding_words
holding_small h k = under_each (2 ^ 64) (lit< tt) (holding_words h) (strength_small h.pin, (k.arrival, (k.touch, tt)))

-- ---- what is read from bytes has its ranges

pub low_small : (w : ℕ) → low w < 2 ^ 32
low_small w = omega arith

pub low_same : (w : ℕ) → w < 2 ^ 32 → low w ≡ w
low_same w h = omega arith

condition_of_ok : (n w m : ℕ) → w < 2 ^ 64 → ConditionOk (condition_of n w m)
unfolding condition_of
condition_of_ok n w m h = go (eqb n 0) (eqb n 1) (eqb n 2) (eqb n 3) (eqb n 4)
  where
    go : (b0 b1 b2 b3 b4 : Bool)
        → ConditionOk (cond b0 Free (cond b1 Idle (cond b2 (Fetching w) (cond b3 (Waiting (low w) (cond (eqb m 0) Mode.Read Mode.Write)) (cond b4 (Killed Late) (Killed Taken))))))
    go true b1 b2 b3 b4 = tt
    go false true b2 b3 b4 = tt
    go false false true b3 b4 = h
    go false false false true b4 = low_small w
    go false false false false true = tt
    go false false false false false = tt

content_of_ok : (f p r d l : ℕ) → r < 2 ^ 64 → l < 2 ^ 64 → ContentOk (content_of f p r d l)
unfolding content_of
content_of_ok f p r d l g h = go (eqb f 0)
  where
    go : (b : Bool) → ContentOk (cond b Empty (Filled (low p) r (not (eqb d 0)) l))
    go true = tt
    go false = (low_small p, g, h)

-- each word of the first 65,536 bytes is one
abbrev pub AllWords : List ℕ → Type 0
AllWords a = (at : ℕ) → at + 8 ≤ 65536 → word_at a at < 2 ^ 64

pub all_words : (a : List ℕ) → AllUnder 256 a → AllWords a
all_words a u at h = word_under a at u

pub row_from_ok : (a : List ℕ) (at : ℕ) → AllWords a → at + 64 ≤ 65536 → RowOk (row_from a at)
unfolding row_from
row_from_ok a at u h = record {
  condition = condition_of_ok (word_at a at) (word_at a (at + 8)) (word_at a (at + 16)) (u (at + 8) (omega arith));
  deadline = u (at + 24) (omega arith);
}

pub slot_from_ok : (a : List ℕ) (at : ℕ) → AllWords a → at + 64 ≤ 65536 → SlotOk (slot_from a at)
unfolding slot_from
slot_from_ok a at u h = record {
  content = content_of_ok (word_at a at) (word_at a (at + 8)) (word_at a (at + 16)) (word_at a (at + 24)) (word_at a (at + 32)) (u (at + 16) (omega arith)) (u (at + 32) (omega arith));
  touch = u (at + 40) (omega arith);
}

pub holding_from_ok : (a : List ℕ) (at : ℕ) → AllWords a → at + 24 ≤ 65536 → HoldingOk (holding_from a at)
unfolding holding_from
holding_from_ok a at u h = record { arrival = u (at + 8) (omega arith); touch = u (at + 16) (omega arith) }

pub borders_from_ok : (a : List ℕ) → BordersOk (borders_from a)
unfolding borders_from
borders_from_ok a = record { first = low_small (word_at a 40); second = low_small (word_at a 48); third = low_small (word_at a 56) }

-- ---- what stands in the state that an area names

-- what holds of each element of an array, and of the default, holds at every place
module _ {A : Type 0} (P : A → Type 0) (d : A) (pd : P d) where
  pub at_each_place : (l : List A) → ((i : ℕ) → i < length l → P (get_or l i d)) → (i : ℕ) → P (get_or l i d)
  at_each_place l f i = elim (dec_lt i (length l)) [
    | yes b ↦ f i b
    | no b ↦ rw (get_or-eq_default l d {n = i} (omega arith)) pd
  ]

pub decoded_row : (a : List ℕ) (row : ℕ) → row < 32 → row_at (decoded a) row ≡ row_from a (512 + row * 64)
unfolding decoded free_rows empty_slots
decoded_row a row h = build_at (λ i. row_from a (512 + i * 64)) 32 free_row row free_row h

pub decoded_slot : (a : List ℕ) (slot : ℕ) → slot < 64 → slot_at (decoded a) slot ≡ slot_from a (2560 + slot * 64)
unfolding decoded free_rows empty_slots
decoded_slot a slot h = build_at (λ i. slot_from a (2560 + i * 64)) 64 empty_slot slot empty_slot h

pub decoded_holding : (a : List ℕ) (k : ℕ) → k < 2048 → get_or (decoded a).holdings k empty_holding ≡ holding_from a (6656 + k * 24)
unfolding decoded free_rows empty_slots empty_holdings
decoded_holding a k h = build_at (λ i. holding_from a (6656 + i * 24)) 2048 empty_holding k empty_holding h

pub decoded_place : (a : List ℕ) (row : ℕ) → row < 32 → place_at (decoded a) row ≡ word_at a (72 + row * 8)
unfolding decoded places_from no_places
decoded_place a row h = build_at (λ i. word_at a (72 + i * 8)) 32 0 row 0 h

pub decoded_sized : (a : List ℕ) → Sized (decoded a)
unfolding decoded free_rows empty_slots empty_holdings places_from no_places
decoded_sized a = record {
  rows = each_length (λ row _. row_from a (512 + row * 64)) _ ∙ length-replicate 32 free_row;
  slots = each_length (λ slot _. slot_from a (2560 + slot * 64)) _ ∙ length-replicate 64 empty_slot;
  holdings = each_length (λ k _. holding_from a (6656 + k * 24)) _ ∙ length-replicate 2048 empty_holding;
  places = each_length (λ row _. word_at a (72 + row * 8)) _ ∙ length-replicate {A = ℕ} 32 0;
}

pub decoded_row_ok : (a : List ℕ) → AllWords a → (row : ℕ) → RowOk (row_at (decoded a) row)
decoded_row_ok a u = at_each_place RowOk free_row (record { condition = tt; deadline = lit< tt }) (decoded a).rows
    (λ i b. let h = rw (decoded_sized a).rows at b in rw (decoded_row a i h) (row_from_ok a (512 + i * 64) u (omega arith)))

pub decoded_slot_ok : (a : List ℕ) → AllWords a → (slot : ℕ) → SlotOk (slot_at (decoded a) slot)
decoded_slot_ok a u = at_each_place SlotOk empty_slot (record { content = tt; touch = lit< tt }) (decoded a).slots
    (λ i b. let h = rw (decoded_sized a).slots at b in rw (decoded_slot a i h) (slot_from_ok a (2560 + i * 64) u (omega arith)))

pub decoded_holding_ok : (a : List ℕ) → AllWords a → (k : ℕ) → HoldingOk (get_or (decoded a).holdings k empty_holding)
decoded_holding_ok a u = at_each_place HoldingOk empty_holding (record { arrival = lit< tt; touch = lit< tt }) (decoded a).holdings
    (λ i b. let h = rw (decoded_sized a).holdings at b in rw (decoded_holding a i h) (holding_from_ok a (6656 + i * 24) u (omega arith)))

pub decoded_place_ok : (a : List ℕ) → AllWords a → (row : ℕ) → place_at (decoded a) row < 2 ^ 64
decoded_place_ok a u = at_each_place (λ (place : ℕ). place < 2 ^ 64) 0 (lit< tt) (decoded a).places
    (λ i b. let h = rw (decoded_sized a).places at b in rw (decoded_place a i h) (u (72 + i * 8) (omega arith)))

-- words name a state whose numbers have their ranges
pub decoded_ok : (a : List ℕ) → AllWords a → StateOk (decoded a)
unfolding decoded free_rows empty_slots
decoded_ok a u = record {
  size = u 16 (lit≤ tt);
  delay = u 24 (lit≤ tt);
  clock = u 32 (lit≤ tt);
  sized = decoded_sized a;
  row = decoded_row_ok a u;
  slot = decoded_slot_ok a u;
  holding = decoded_holding_ok a u;
  borders = borders_from_ok a;
  place = decoded_place_ok a u;
}

-- ---- what is written reads back

mode_back : (m : Mode) → mode_of (mode_number m) ≡ m
mode_back Mode.Read = refl
mode_back Mode.Write = refl

pub condition_back : (c : Condition) → ConditionOk c → condition_of (condition_number c) (awaited c) (waiting_mode c) ≡ c
unfolding condition_of
condition_back Free k = refl
condition_back Idle k = refl
condition_back (Fetching due) k = refl
condition_back (Waiting page mode) k = λ i. Waiting (low_same page k i) (mode_back mode i)
condition_back (Killed Late) k = refl
condition_back (Killed Taken) k = refl

pub bit_back : (b : Bool) → not (eqb (bit b) 0) ≡ b
bit_back true = refl
bit_back false = refl

pub content_back : (c : Content) → ContentOk c → content_of (bit (is_filled c)) (page_in c) (arrival_in c) (bit (dirty_in c)) (lowest_in c) ≡ c
unfolding content_of
content_back Empty k = refl
content_back (Filled page arrival dirty lowest) k = λ i. Filled (low_same page k.0 i) arrival (bit_back dirty i) lowest

pub pin_back : (p : Pin) → pin_numbered (strength p) ≡ p
unfolding pin_numbered
pin_back Absent = refl
pin_back Unpinned = refl
pin_back Read = refl
pin_back Write = refl

-- with p before them and r after them
module _ (p r : List ℕ) (at : ℕ) (e : length p ≡ at) where
  pub place_back : (place : ℕ) → place < 2 ^ 64 → word_at (p ++ (word_bytes (place ∷ []) ++ r)) at ≡ place
  place_back place h = rw add-zero at (word_in p (place ∷ []) r at 0 e (lit< tt) (place_small place h))

  pub row_back : (x : Row) → RowOk x → row_from (p ++ (word_bytes (row_words x) ++ r)) at ≡ x
  unfolding row_from row_words
  row_back x k =
      let a = p ++ (word_bytes (row_words x) ++ r) in
      let w : (j : ℕ) → j < 8 → word_at a (at + j * 8) ≡ get_or (row_words x) j 0 = λ j b. word_in p (row_words x) r at j e b (row_small x k) in
      let w0 : word_at a at ≡ condition_number x.condition = rw add-zero at (w 0 (lit< tt)) in
      let w1 : word_at a (at + 8) ≡ awaited x.condition = w 1 (lit< tt) in
      let w2 : word_at a (at + 16) ≡ waiting_mode x.condition = w 2 (lit< tt) in
      let w3 : word_at a (at + 24) ≡ x.deadline = w 3 (lit< tt) in
      λ i. record {
        condition = ((λ j. condition_of (w0 j) (w1 j) (w2 j)) ∙ condition_back x.condition k.condition) i;
        deadline = w3 i;
      }

  pub slot_back : (x : Slot) → SlotOk x → slot_from (p ++ (word_bytes (slot_words x) ++ r)) at ≡ x
  unfolding slot_from slot_words
  slot_back x k =
      let a = p ++ (word_bytes (slot_words x) ++ r) in
      let w : (j : ℕ) → j < 8 → word_at a (at + j * 8) ≡ get_or (slot_words x) j 0 = λ j b. word_in p (slot_words x) r at j e b (slot_small x k) in
      let w0 : word_at a at ≡ bit (is_filled x.content) = rw add-zero at (w 0 (lit< tt)) in
      let w1 : word_at a (at + 8) ≡ page_in x.content = w 1 (lit< tt) in
      let w2 : word_at a (at + 16) ≡ arrival_in x.content = w 2 (lit< tt) in
      let w3 : word_at a (at + 24) ≡ bit (dirty_in x.content) = w 3 (lit< tt) in
      let w4 : word_at a (at + 32) ≡ lowest_in x.content = w 4 (lit< tt) in
      let w5 : word_at a (at + 40) ≡ x.touch = w 5 (lit< tt) in
      λ i. record {
        content = ((λ j. content_of (w0 j) (w1 j) (w2 j) (w3 j) (w4 j)) ∙ content_back x.content k.content) i;
        touch = w5 i;
      }

  pub holding_back : (h : Holding) → HoldingOk h → holding_from (p ++ (word_bytes (holding_words h) ++ r)) at ≡ h
  unfolding holding_from holding_words
  holding_back h k =
      let a = p ++ (word_bytes (holding_words h) ++ r) in
      let w : (j : ℕ) → j < 3 → word_at a (at + j * 8) ≡ get_or (holding_words h) j 0 = λ j b. word_in p (holding_words h) r at j e b (holding_small h k) in
      let w0 : word_at a at ≡ strength h.pin = rw add-zero at (w 0 (lit< tt)) in
      let w1 : word_at a (at + 8) ≡ h.arrival = w 1 (lit< tt) in
      let w2 : word_at a (at + 16) ≡ h.touch = w 2 (lit< tt) in
      λ i. record {
        pin = (ap pin_numbered w0 ∙ pin_back h.pin) i;
        arrival = w1 i;
        touch = w2 i;
      }

-- the nine words of the header
pub header_back : (v : ℕ) → v < 2 ^ 64 → (s : State) → StateOk s → (r : List ℕ) (j : ℕ) → j < 9 → word_at (word_bytes (header_words v s) ++ r) (j * 8) ≡ get_or (header_words v s) j 0
unfolding header_words
header_back v h s k r j b = word_back (header_words v s) r j b (header_small v h s k)

-- the words of a holding are those that it is read from where the first is a pin's number
pin_word : (w : ℕ) → leb w 3 ≡ eqb w (strength (pin_numbered w))
unfolding pin_numbered
pin_word w = elim (ℕ_discrete w 0) [
  | yes e ↦ rw e
  | no e0 ↦ elim (ℕ_discrete w 1) [
    | yes e ↦ rw e
    | no e1 ↦ elim (ℕ_discrete w 2) [
      | yes e ↦ rw e
      | no e2 ↦ elim (ℕ_discrete w 3) [
        | yes e ↦ rw e
        | no e3 ↦ rw (ne_eqb w 0 e0, ne_eqb w 1 e1, ne_eqb w 2 e2, ne_eqb w 3 e3) (lt-leb w 3 (omega arith))
      ]
    ]
  ]
]

pub pin_exact : (a : List ℕ) (at : ℕ) → leb (word_at a at) 3 ≡ has_words a at (holding_words (holding_from a at))
unfolding has_words all_below holding_words holding_from
pin_exact a at = rw (add-zero at, eq-eqb (word_at a (at + 8)) (word_at a (at + 8)) refl, eq-eqb (word_at a (at + 16)) (word_at a (at + 16)) refl, pin_word (word_at a at)) (ands (eqb (word_at a at) (strength (pin_numbered (word_at a at)))))
  where
    ands : (b : Bool) → b ≡ b && true && true
    ands true = refl
    ands false = refl

-- a place is exact: it is the whole of its word
pub place_exact : (a : List ℕ) (at : ℕ) → has_words a at (word_at a at ∷ []) ≡ true
unfolding has_words all_below
place_exact a at = let e : at + 0 * 8 ≡ at = omega arith in eq-eqb (word_at a (at + 0 * 8)) (word_at a at) (ap (word_at a) e)
