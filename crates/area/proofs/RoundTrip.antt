-- A state's bytes name that state again, and an area that is exact is the bytes of the state that it names.
use mathlib.Core.Path.{◌≡◌, sym, ap, ◌∙◌}
use mathlib.Core.Bool.{true, not}
use mathlib.Core.List.{List, [], ◌∷◌, ◌++◌, append_assoc}
use Prim.Native.Nat.{ℕ, ◌+◌, ◌*◌, ◌^◌, ◌<◌, ◌≤◌}
use native.Mathlib.Omega.{arith}
use lib.Dec.{eqb, lit<}
use lib.ListN.{length, get_or, take, drop, replicate, length-append, length-replicate, take-append-drop}
use lib.Seq.{ext_get_or, take_at}
use Rattle.seq.specs.Each.{each}
use Rattle.seq.proofs.EachLaws.{each_length}
use Rattle.seq.proofs.BuildLaws.{build_at}
use Rattle.words.specs.Bytes.{word_at, word_bytes, zero_words, AllUnder}
use Rattle.words.proofs.ByteLaws.{under_append, words_under, word_under, word_within, length_words}
use Rattle.words.proofs.JoinLaws.{under_joined, piece_back}
use Rattle.words.proofs.SameLaws.{same_true, true_same}
use Rattle.model.specs.declared.Holding.{Holding}
use Rattle.model.specs.declared.State.{State}
use Rattle.model.specs.State.{free_row, empty_slot, empty_holding, empty_holdings, row_at, slot_at, place_at}
use Rattle.model.specs.Ranges.{StateOk}
use Rattle.area.specs.Layout.{header_words, places_bytes, row_words, slot_words, holding_words, encoded_as, bit, low, row_from, slot_from, holding_from, borders_from, free_rows, empty_slots, no_places, places_from, decoded, version_in, exact_as}
use Rattle.area.proofs.Elements.{header_wide, place_wide, row_wide, slot_wide, holding_wide, low_same, bit_back, place_back, row_back, slot_back, holding_back, header_back, AllWords, decoded_ok}
use Rattle.area.proofs.Pieces.{rows_bytes, slots_bytes, holdings_bytes, places_long, rows_long, slots_long, holdings_long, zeros_long}

-- ---- the bytes of a state

seven_long : (x₀ x₁ x₂ x₃ x₄ x₅ x₆ : List ℕ)
    → length x₀ ≡ 72 → length x₁ ≡ 256 → length x₂ ≡ 184 → length x₃ ≡ 2048 → length x₄ ≡ 4096 → length x₅ ≡ 49152 → length x₆ ≡ 9728
    → length (x₀ ++ (x₁ ++ (x₂ ++ (x₃ ++ (x₄ ++ (x₅ ++ x₆)))))) ≡ 65536
seven_long x₀ x₁ x₂ x₃ x₄ x₅ x₆ e₀ e₁ e₂ e₃ e₄ e₅ e₆ = simp length-append (omega arith)

pub encoded_long : (v : ℕ) (s : State) → length (encoded_as v s) ≡ 65536
unfolding encoded_as
encoded_long v s =
    seven_long (word_bytes (header_words v s)) (places_bytes s.places) (zero_words 23) (rows_bytes s) (slots_bytes s) (holdings_bytes s) (zero_words 1216)
    (header_wide v s) (places_long s.places) (zeros_long 23) (rows_long s) (slots_long s) (holdings_long s) (zeros_long 1216)

pub encoded_under : (v : ℕ) (s : State) → AllUnder 256 (encoded_as v s)
unfolding encoded_as
encoded_under v s =
    let places = under_joined 256 (lit< tt) 32 (λ row. word_bytes (place_at s row ∷ [])) (λ row. words_under (place_at s row ∷ [])) in
    let rows = under_joined 256 (lit< tt) 32 (λ row. word_bytes (row_words (row_at s row))) (λ row. words_under (row_words (row_at s row))) in
    let slots = under_joined 256 (lit< tt) 64 (λ slot. word_bytes (slot_words (slot_at s slot))) (λ slot. words_under (slot_words (slot_at s slot))) in
    let holdings = under_joined 256 (lit< tt) 2048 (λ k. word_bytes (holding_words (get_or s.holdings k empty_holding))) (λ k. words_under (holding_words (get_or s.holdings k empty_holding))) in
    under_append 256 (word_bytes (header_words v s)) (places_bytes s.places ++ (zero_words 23 ++ (rows_bytes s ++ (slots_bytes s ++ (holdings_bytes s ++ zero_words 1216))))) (words_under (header_words v s))
    (under_append 256 (places_bytes s.places) (zero_words 23 ++ (rows_bytes s ++ (slots_bytes s ++ (holdings_bytes s ++ zero_words 1216)))) places
    (under_append 256 (zero_words 23) (rows_bytes s ++ (slots_bytes s ++ (holdings_bytes s ++ zero_words 1216))) (words_under (replicate 23 0))
    (under_append 256 (rows_bytes s) (slots_bytes s ++ (holdings_bytes s ++ zero_words 1216)) rows
    (under_append 256 (slots_bytes s) (holdings_bytes s ++ zero_words 1216) slots
    (under_append 256 (holdings_bytes s) (zero_words 1216) holdings (words_under (replicate 1216 0)))))))

-- ---- and back

-- seven regions and a rest, seen from the first, the fourth, the fifth and the sixth of them
module _ (x₀ x₁ x₂ x₃ x₄ x₅ x₆ r : List ℕ) where
  before_first : (x₀ ++ (x₁ ++ (x₂ ++ (x₃ ++ (x₄ ++ (x₅ ++ x₆)))))) ++ r ≡ x₀ ++ (x₁ ++ (x₂ ++ (x₃ ++ (x₄ ++ (x₅ ++ (x₆ ++ r))))))
  before_first = simp append_assoc

  pub before_fourth : (x₀ ++ (x₁ ++ (x₂ ++ (x₃ ++ (x₄ ++ (x₅ ++ x₆)))))) ++ r ≡ (x₀ ++ (x₁ ++ x₂)) ++ (x₃ ++ (x₄ ++ (x₅ ++ (x₆ ++ r))))
  before_fourth = simp append_assoc

  before_fifth : (x₀ ++ (x₁ ++ (x₂ ++ (x₃ ++ (x₄ ++ (x₅ ++ x₆)))))) ++ r ≡ (x₀ ++ (x₁ ++ (x₂ ++ x₃))) ++ (x₄ ++ (x₅ ++ (x₆ ++ r)))
  before_fifth = simp append_assoc

  before_sixth : (x₀ ++ (x₁ ++ (x₂ ++ (x₃ ++ (x₄ ++ (x₅ ++ x₆)))))) ++ r ≡ (x₀ ++ (x₁ ++ (x₂ ++ (x₃ ++ x₄)))) ++ (x₅ ++ (x₆ ++ r))
  before_sixth = simp append_assoc

-- how long the regions before the fourth, the fifth and the sixth are
module _ (x₀ x₁ x₂ : List ℕ) (e₀ : length x₀ ≡ 72) (e₁ : length x₁ ≡ 256) (e₂ : length x₂ ≡ 184) where
  pub three_long : length (x₀ ++ (x₁ ++ x₂)) ≡ 512
  three_long = simp length-append (omega arith)

  four_long : (x₃ : List ℕ) → length x₃ ≡ 2048 → length (x₀ ++ (x₁ ++ (x₂ ++ x₃))) ≡ 2560
  four_long x₃ e₃ = simp length-append (omega arith)

  five_long : (x₃ x₄ : List ℕ) → length x₃ ≡ 2048 → length x₄ ≡ 4096 → length (x₀ ++ (x₁ ++ (x₂ ++ (x₃ ++ x₄)))) ≡ 6656
  five_long x₃ x₄ e₃ e₄ = simp length-append (omega arith)

-- an array of n elements made of what is read at each place
module _ {A : Type 0} (f : ℕ → A) (d : A) where
  pub built : (n : ℕ) (l : List A) → length l ≡ n → ((i : ℕ) → i < n → f i ≡ get_or l i d) → each (λ k _. f k) (replicate n d) ≡ l
  built n l e g =
      let m : length (each (λ k _. f k) (replicate n d)) ≡ n = each_length (λ k _. f k) (replicate n d) ∙ length-replicate n d in
      ext_get_or d (each (λ k _. f k) (replicate n d)) l (m ∙ sym e)
      (λ i b. let b' = rw m at b in build_at f n d i d b' ∙ g i b')

module _ (v : ℕ) (word : v < 2 ^ 64) (s : State) (k : StateOk s) (r : List ℕ) where
  place_there : (i : ℕ) → i < 32 → word_at (encoded_as v s ++ r) (72 + i * 8) ≡ place_at s i
  unfolding encoded_as
  place_there i b =
      let h = word_bytes (header_words v s) in
      ap (λ (a : List ℕ). word_at a (72 + i * 8)) (before_first h (places_bytes s.places) (zero_words 23) (rows_bytes s) (slots_bytes s) (holdings_bytes s) (zero_words 1216) r)
      ∙ piece_back 8 (λ row. word_bytes (place_at s row ∷ [])) (λ row. length_words (place_at s row ∷ []) ∙ place_wide (place_at s row)) word_at (place_at s)
      (λ row p q at l. place_back p q at l (place_at s row) (k.place row))
      h (zero_words 23 ++ (rows_bytes s ++ (slots_bytes s ++ (holdings_bytes s ++ (zero_words 1216 ++ r))))) 72 32 i (header_wide v s) b

  row_there : (i : ℕ) → i < 32 → row_from (encoded_as v s ++ r) (512 + i * 64) ≡ row_at s i
  unfolding encoded_as
  row_there i b =
      let h = word_bytes (header_words v s) in
      let o = places_bytes s.places in
      let z = zero_words 23 in
      ap (λ (a : List ℕ). row_from a (512 + i * 64)) (before_fourth h o z (rows_bytes s) (slots_bytes s) (holdings_bytes s) (zero_words 1216) r)
      ∙ piece_back 64 (λ row. word_bytes (row_words (row_at s row))) (λ row. length_words (row_words (row_at s row)) ∙ row_wide (row_at s row)) row_from (row_at s)
      (λ row p q at l. row_back p q at l (row_at s row) (k.row row))
      (h ++ (o ++ z)) (slots_bytes s ++ (holdings_bytes s ++ (zero_words 1216 ++ r))) 512 32 i
      (three_long h o z (header_wide v s) (places_long s.places) (zeros_long 23)) b

  slot_there : (i : ℕ) → i < 64 → slot_from (encoded_as v s ++ r) (2560 + i * 64) ≡ slot_at s i
  unfolding encoded_as
  slot_there i b =
      let h = word_bytes (header_words v s) in
      let o = places_bytes s.places in
      let z = zero_words 23 in
      ap (λ (a : List ℕ). slot_from a (2560 + i * 64)) (before_fifth h o z (rows_bytes s) (slots_bytes s) (holdings_bytes s) (zero_words 1216) r)
      ∙ piece_back 64 (λ slot. word_bytes (slot_words (slot_at s slot))) (λ slot. length_words (slot_words (slot_at s slot)) ∙ slot_wide (slot_at s slot)) slot_from (slot_at s)
      (λ slot p q at l. slot_back p q at l (slot_at s slot) (k.slot slot))
      (h ++ (o ++ (z ++ rows_bytes s))) (holdings_bytes s ++ (zero_words 1216 ++ r)) 2560 64 i
      (four_long h o z (header_wide v s) (places_long s.places) (zeros_long 23) (rows_bytes s) (rows_long s)) b

  holding_there : (i : ℕ) → i < 2048 → holding_from (encoded_as v s ++ r) (6656 + i * 24) ≡ get_or s.holdings i empty_holding
  unfolding encoded_as
  holding_there i b =
      let h = word_bytes (header_words v s) in
      let o = places_bytes s.places in
      let z = zero_words 23 in
      let x : ℕ → Holding = λ i. get_or s.holdings i empty_holding in
      ap (λ (a : List ℕ). holding_from a (6656 + i * 24)) (before_sixth h o z (rows_bytes s) (slots_bytes s) (holdings_bytes s) (zero_words 1216) r)
      ∙ piece_back 24 (λ i. word_bytes (holding_words (x i))) (λ i. length_words (holding_words (x i)) ∙ holding_wide (x i)) holding_from x
      (λ i p q at l. holding_back p q at l (x i) (k.holding i))
      (h ++ (o ++ (z ++ (rows_bytes s ++ slots_bytes s)))) (zero_words 1216 ++ r) 6656 2048 i
      (five_long h o z (header_wide v s) (places_long s.places) (zeros_long 23) (rows_bytes s) (slots_bytes s) (rows_long s) (slots_long s)) b

  header_there : (j : ℕ) → j < 9 → word_at (encoded_as v s ++ r) (j * 8) ≡ get_or (header_words v s) j 0
  unfolding encoded_as
  header_there j b =
      let h = word_bytes (header_words v s) in
      ap (λ (a : List ℕ). word_at a (j * 8)) (before_first h (places_bytes s.places) (zero_words 23) (rows_bytes s) (slots_bytes s) (holdings_bytes s) (zero_words 1216) r)
      ∙ header_back v word s k (places_bytes s.places ++ (zero_words 23 ++ (rows_bytes s ++ (slots_bytes s ++ (holdings_bytes s ++ (zero_words 1216 ++ r)))))) j b

  pub decode_encode : decoded (encoded_as v s ++ r) ≡ s
  unfolding decoded header_words borders_from free_rows empty_slots empty_holdings no_places places_from
  decode_encode =
      let a = encoded_as v s ++ r in
      let w2 : word_at a 16 ≡ s.size = header_there 2 (lit< tt) in
      let w3 : word_at a 24 ≡ s.delay = header_there 3 (lit< tt) in
      let w4 : word_at a 32 ≡ s.clock = header_there 4 (lit< tt) in
      let w5 : word_at a 40 ≡ s.borders.first = header_there 5 (lit< tt) in
      let w6 : word_at a 48 ≡ s.borders.second = header_there 6 (lit< tt) in
      let w7 : word_at a 56 ≡ s.borders.third = header_there 7 (lit< tt) in
      let w8 : word_at a 64 ≡ bit s.begun = header_there 8 (lit< tt) in
      λ i. record {
        size = w2 i;
        delay = w3 i;
        clock = w4 i;
        rows = built (λ row. row_from a (512 + row * 64)) free_row 32 s.rows k.sized.rows row_there i;
        slots = built (λ slot. slot_from a (2560 + slot * 64)) empty_slot 64 s.slots k.sized.slots slot_there i;
        holdings = built (λ h. holding_from a (6656 + h * 24)) empty_holding 2048 s.holdings k.sized.holdings holding_there i;
        borders = record {
          first = (ap low w5 ∙ low_same s.borders.first k.borders.first) i;
          second = (ap low w6 ∙ low_same s.borders.second k.borders.second) i;
          third = (ap low w7 ∙ low_same s.borders.third k.borders.third) i;
        };
        begun = (ap (λ (w : ℕ). not (eqb w 0)) w8 ∙ bit_back s.begun) i;
        places = built (λ row. word_at a (72 + row * 8)) 0 32 s.places k.sized.places place_there i;
      }

  pub encode_exact : exact_as v (encoded_as v s ++ r) ≡ true
  unfolding exact_as
  encode_exact =
      let a = encoded_as v s ++ r in
      true_same (take 65536 a) (encoded_as v (decoded a)) (take_at (encoded_as v s) r 65536 (encoded_long v s) ∙ sym (ap (encoded_as v) decode_encode))

  -- the version is named too
  pub version_there : version_in (encoded_as v s ++ r) ≡ v
  unfolding header_words
  version_there = header_there 1 (lit< tt)

-- ---- exact areas

module _ (v : ℕ) (a : List ℕ) (e : exact_as v a ≡ true) where
  pub exact_area : encoded_as v (decoded a) ++ drop 65536 a ≡ a
  unfolding exact_as
  exact_area = rw (← same_true (take 65536 a) (encoded_as v (decoded a)) e) (take-append-drop 65536 a)

  pub exact_long : 65536 ≤ length a
  exact_long =
      let n = ap length exact_area in
      omega (arith, length-append (encoded_as v (decoded a)) (drop 65536 a), encoded_long v (decoded a))

  -- its words are words, though nothing is known of what follows them
  pub exact_words : AllWords a
  exact_words at h =
      let b = encoded_as v (decoded a) in
      rw (← exact_area, word_within b (drop 65536 a) at (omega (arith, encoded_long v (decoded a)))) (word_under b at (encoded_under v (decoded a)))

  pub exact_ok : StateOk (decoded a)
  exact_ok = decoded_ok a exact_words

  -- the version of an exact area
  pub exact_version : v < 2 ^ 64 → version_in a ≡ v
  exact_version h = ap version_in (sym exact_area) ∙ version_there v h (decoded a) exact_ok (drop 65536 a)

pub named_long : (a : List ℕ) → exact_as (version_in a) a ≡ true → 65536 ≤ length a
named_long a e = exact_long (version_in a) a e
