-- What the writes of amend make of a state's bytes.
use mathlib.Core.Path.{◌≡◌, refl, ◌∙◌, sym, ap}
use mathlib.Core.Bool.{Bool, true, false, cond, ◌&&◌}
use mathlib.Core.List.{List, [], ◌∷◌, ◌++◌, append_assoc}
use Prim.Native.Nat.{ℕ, zero, suc, ◌+◌, ◌-◌, ◌*◌, ◌/◌, ◌%◌, ◌<◌, ◌≤◌}
use native.Mathlib.Nat.{add-zero}
use native.Mathlib.Omega.{arith}
use native.Mathlib.Decide.{ℕ_discrete, dec_lt}
use borrow.Author.Tests.{lt-ltb, le-ltb, eq-eqb, ne_eqb}
use lib.Dec.{eqb, ltb}
use lib.ListN.{length, get_or, length-append}
use Rattle.seq.specs.Each.{each}
use Rattle.seq.proofs.EachLaws.{each_at}
use Rattle.words.specs.Bytes.{word_bytes, zero_words, spliced, joined}
use Rattle.words.proofs.ByteLaws.{length_words}
use Rattle.words.proofs.JoinLaws.{joined_same, joined_add, length_joined}
use Rattle.words.proofs.SpliceLaws.{spliced_middle, words_append}
use Rattle.model.specs.declared.Row.{Row}
use Rattle.model.specs.declared.Slot.{Slot}
use Rattle.model.specs.declared.Holding.{Holding}
use Rattle.model.specs.declared.Borders.{Borders}
use Rattle.model.specs.declared.Setting.{Setting}
use Rattle.model.specs.declared.Setting.TheVariants.{Left, Begun, Ended, Set}
use Rattle.model.specs.declared.State.{State}
use Rattle.model.specs.declared.Change.{Change}
use Rattle.model.specs.State.{free_row, empty_slot, empty_holding, with_clock, with_rows, with_slots, with_places}
use Rattle.model.specs.Inner.Changed.{marked, holding_after, borders_after, places_after, changed, with_setting}
use Rattle.area.specs.Layout.{mark, version, bit, header_words, places_bytes, row_words, slot_words, holding_words, places_from, encoded, encoded_as}
use Rattle.area.specs.Inner.Writes.{places_put, order_put, header_put, setting_put, row_dropped, rows_dropped}
use Rattle.area.proofs.Elements.{header_wide, holding_wide}
use Rattle.area.proofs.Pieces.{rows_bytes, slots_bytes, places_long, rows_long, slots_long, zeros_long}

-- ---- one of seven regions written over

module _ (x₀ x₁ x₂ x₃ x₄ x₅ x₆ r : List ℕ) where
  -- the middle of the first
  first_over : (p x q y : List ℕ) (n : ℕ) → x₀ ≡ p ++ (x ++ q) → length p ≡ n → length x ≡ length y
      → spliced ((x₀ ++ (x₁ ++ (x₂ ++ (x₃ ++ (x₄ ++ (x₅ ++ x₆)))))) ++ r) n y ≡ ((p ++ (y ++ q)) ++ (x₁ ++ (x₂ ++ (x₃ ++ (x₄ ++ (x₅ ++ x₆)))))) ++ r
  first_over p x q y n e l m =
      let t = q ++ (x₁ ++ (x₂ ++ (x₃ ++ (x₄ ++ (x₅ ++ x₆)))) ++ r) in
      let a : (x₀ ++ (x₁ ++ (x₂ ++ (x₃ ++ (x₄ ++ (x₅ ++ x₆)))))) ++ r ≡ p ++ (x ++ t) = rw e (simp append_assoc) in
      let b : ((p ++ (y ++ q)) ++ (x₁ ++ (x₂ ++ (x₃ ++ (x₄ ++ (x₅ ++ x₆)))))) ++ r ≡ p ++ (y ++ t) = simp append_assoc in
      ap (λ (w : List ℕ). spliced w n y) a ∙ spliced_middle p x t y n l m ∙ sym b

  module _ (e₀ : length x₀ ≡ 72) where
    second_over : (y : List ℕ) → length x₁ ≡ length y
        → spliced ((x₀ ++ (x₁ ++ (x₂ ++ (x₃ ++ (x₄ ++ (x₅ ++ x₆)))))) ++ r) 72 y ≡ (x₀ ++ (y ++ (x₂ ++ (x₃ ++ (x₄ ++ (x₅ ++ x₆)))))) ++ r
    second_over y m =
        let t = x₂ ++ (x₃ ++ (x₄ ++ (x₅ ++ x₆))) ++ r in
        let a : (x₀ ++ (x₁ ++ (x₂ ++ (x₃ ++ (x₄ ++ (x₅ ++ x₆)))))) ++ r ≡ x₀ ++ (x₁ ++ t) = simp append_assoc in
        let b : (x₀ ++ (y ++ (x₂ ++ (x₃ ++ (x₄ ++ (x₅ ++ x₆)))))) ++ r ≡ x₀ ++ (y ++ t) = simp append_assoc in
        ap (λ (w : List ℕ). spliced w 72 y) a ∙ spliced_middle x₀ x₁ t y 72 e₀ m ∙ sym b

    module _ (e₁ : length x₁ ≡ 256) (e₂ : length x₂ ≡ 184) where
      fourth_over : (y : List ℕ) → length x₃ ≡ length y
          → spliced ((x₀ ++ (x₁ ++ (x₂ ++ (x₃ ++ (x₄ ++ (x₅ ++ x₆)))))) ++ r) 512 y ≡ (x₀ ++ (x₁ ++ (x₂ ++ (y ++ (x₄ ++ (x₅ ++ x₆)))))) ++ r
      fourth_over y m =
          let p = x₀ ++ (x₁ ++ x₂) in
          let t = x₄ ++ (x₅ ++ x₆) ++ r in
          let a : (x₀ ++ (x₁ ++ (x₂ ++ (x₃ ++ (x₄ ++ (x₅ ++ x₆)))))) ++ r ≡ p ++ (x₃ ++ t) = simp append_assoc in
          let b : (x₀ ++ (x₁ ++ (x₂ ++ (y ++ (x₄ ++ (x₅ ++ x₆)))))) ++ r ≡ p ++ (y ++ t) = simp append_assoc in
          ap (λ (w : List ℕ). spliced w 512 y) a ∙ spliced_middle p x₃ t y 512 (simp length-append (omega arith)) m ∙ sym b

      module _ (e₃ : length x₃ ≡ 2048) where
        fifth_over : (y : List ℕ) → length x₄ ≡ length y
            → spliced ((x₀ ++ (x₁ ++ (x₂ ++ (x₃ ++ (x₄ ++ (x₅ ++ x₆)))))) ++ r) 2560 y ≡ (x₀ ++ (x₁ ++ (x₂ ++ (x₃ ++ (y ++ (x₅ ++ x₆)))))) ++ r
        fifth_over y m =
            let p = x₀ ++ (x₁ ++ (x₂ ++ x₃)) in
            let t = x₅ ++ x₆ ++ r in
            let a : (x₀ ++ (x₁ ++ (x₂ ++ (x₃ ++ (x₄ ++ (x₅ ++ x₆)))))) ++ r ≡ p ++ (x₄ ++ t) = simp append_assoc in
            let b : (x₀ ++ (x₁ ++ (x₂ ++ (x₃ ++ (y ++ (x₅ ++ x₆)))))) ++ r ≡ p ++ (y ++ t) = simp append_assoc in
            ap (λ (w : List ℕ). spliced w 2560 y) a ∙ spliced_middle p x₄ t y 2560 (simp length-append (omega arith)) m ∙ sym b

        -- the middle of the sixth
        sixth_over : length x₄ ≡ 4096 → (p x q y : List ℕ) (n : ℕ) → x₅ ≡ p ++ (x ++ q) → length p ≡ n → length x ≡ length y
            → spliced ((x₀ ++ (x₁ ++ (x₂ ++ (x₃ ++ (x₄ ++ (x₅ ++ x₆)))))) ++ r) (6656 + n) y ≡ (x₀ ++ (x₁ ++ (x₂ ++ (x₃ ++ (x₄ ++ ((p ++ (y ++ q)) ++ x₆)))))) ++ r
        sixth_over e₄ p x q y n e l m =
            let f = x₀ ++ (x₁ ++ (x₂ ++ (x₃ ++ (x₄ ++ p)))) in
            let t = q ++ (x₆ ++ r) in
            let a : (x₀ ++ (x₁ ++ (x₂ ++ (x₃ ++ (x₄ ++ (x₅ ++ x₆)))))) ++ r ≡ f ++ (x ++ t) = rw e (simp append_assoc) in
            let b : (x₀ ++ (x₁ ++ (x₂ ++ (x₃ ++ (x₄ ++ ((p ++ (y ++ q)) ++ x₆)))))) ++ r ≡ f ++ (y ++ t) = simp append_assoc in
            ap (λ (w : List ℕ). spliced w (6656 + n) y) a ∙ spliced_middle f x t y (6656 + n) (simp length-append (omega arith)) m ∙ sym b

-- ---- the bytes of a state, its holdings given place by place

abbrev pub laid : ℕ → State → (ℕ → Holding) → List ℕ
laid v s x =
    word_bytes (header_words v s) ++ (places_bytes s.places ++ (zero_words 23 ++ (rows_bytes s ++ (slots_bytes s ++ (joined 2048 (λ k. word_bytes (holding_words (x k))) ++ zero_words 1216)))))

pub laid_same : (v : ℕ) (s : State) (x y : ℕ → Holding) → ((k : ℕ) → k < 2048 → x k ≡ y k) → laid v s x ≡ laid v s y
laid_same v s x y h =
    ap (λ (b : List ℕ). word_bytes (header_words v s) ++ (places_bytes s.places ++ (zero_words 23 ++ (rows_bytes s ++ (slots_bytes s ++ (b ++ zero_words 1216))))))
    (joined_same 2048 (λ k. word_bytes (holding_words (x k))) (λ k. word_bytes (holding_words (y k))) (λ k b. ap (λ (z : Holding). word_bytes (holding_words z)) (h k b)))

held_wide : (x : ℕ → Holding) (k : ℕ) → length (word_bytes (holding_words (x k))) ≡ 24
held_wide x k = length_words (holding_words (x k)) ∙ holding_wide (x k)

-- a state with another clock, other borders and another mark that a row has begun
abbrev with_header : State → ℕ → Borders → Bool → State
with_header s clock b begun =
    record { size = s.size; delay = s.delay; clock = clock; rows = s.rows; slots = s.slots; holdings = s.holdings; borders = b; begun = begun; places = s.places }

module _ (v : ℕ) (s : State) (x : ℕ → Holding) (r : List ℕ) where
  -- words z written over as many words u in the middle of the header
  header_put_lem : (w clock : ℕ) (b : Borders) (begun : Bool) (p u z q : List ℕ) (n : ℕ)
      → header_words v s ≡ p ++ (u ++ q) → header_words w (with_header s clock b begun) ≡ p ++ (z ++ q) → length p * 8 ≡ n → length u ≡ length z
      → spliced (laid v s x ++ r) n (word_bytes z) ≡ laid w (with_header s clock b begun) x ++ r
  header_put_lem w clock b begun p u z q n e f l m =
      let h : (y : List ℕ) → word_bytes (p ++ (y ++ q)) ≡ word_bytes p ++ (word_bytes y ++ word_bytes q) =
      λ y. words_append p (y ++ q) ∙ ap (λ (y : List ℕ). word_bytes p ++ y) (words_append y q) in
      let holdings = joined 2048 (λ k. word_bytes (holding_words (x k))) in
      first_over (word_bytes (header_words v s)) (places_bytes s.places) (zero_words 23) (rows_bytes s) (slots_bytes s) holdings (zero_words 1216) r
      (word_bytes p) (word_bytes u) (word_bytes q) (word_bytes z) n (ap word_bytes e ∙ h u) (length_words p ∙ l)
      (length_words u ∙ ap (λ (k : ℕ). k * 8) m ∙ sym (length_words z))
      ∙ ap (λ (y : List ℕ). (y ++ (places_bytes s.places ++ (zero_words 23 ++ (rows_bytes s ++ (slots_bytes s ++ (holdings ++ zero_words 1216)))))) ++ r) (sym (ap word_bytes f ∙ h z))

  version_put : (w : ℕ) → spliced (laid v s x ++ r) 8 (word_bytes (w ∷ [])) ≡ laid w s x ++ r
  unfolding header_words
  version_put w =
      let b = s.borders in
      header_put_lem w s.clock b s.begun (mark ∷ []) (v ∷ []) (w ∷ []) (s.size ∷ s.delay ∷ s.clock ∷ b.first ∷ b.second ∷ b.third ∷ bit s.begun ∷ []) 8
      refl refl refl refl

  pub clock_put : (clock : ℕ) → spliced (laid v s x ++ r) 32 (word_bytes (clock ∷ [])) ≡ laid v (with_clock s clock) x ++ r
  unfolding header_words
  clock_put clock =
      let b = s.borders in
      header_put_lem v clock b s.begun (mark ∷ v ∷ s.size ∷ s.delay ∷ []) (s.clock ∷ []) (clock ∷ []) (b.first ∷ b.second ∷ b.third ∷ bit s.begun ∷ []) 32
      refl refl refl refl

  places_put_lem : places_from (laid v s x ++ r) ≡ s.places → (t : Setting) → places_put t (laid v s x ++ r) ≡ laid v (with_places s (places_after t s.places)) x ++ r
  unfolding places_put header_words
  places_put_lem e t =
      let new = places_bytes (places_after t s.places) in
      ap (λ (l : List ℕ). spliced (laid v s x ++ r) 72 (places_bytes (places_after t l))) e
      ∙ second_over (word_bytes (header_words v s)) (places_bytes s.places) (zero_words 23) (rows_bytes s) (slots_bytes s) (joined 2048 (λ k. word_bytes (holding_words (x k)))) (zero_words 1216) r
      (header_wide v s) new (places_long s.places ∙ sym (places_long (places_after t s.places)))

  -- the places where the bytes name those of the state
  pub order_put_lem : places_from (laid v s x ++ r) ≡ s.places → (t : Setting) → order_put t (laid v s x ++ r) ≡ laid v (with_places s (places_after t s.places)) x ++ r
  unfolding order_put places_put header_words
  order_put_lem e Left = refl
  order_put_lem e (Begun row place) = places_put_lem e (Begun row place)
  order_put_lem e (Ended row) = places_put_lem e (Ended row)
  order_put_lem e (Set first second third) = refl

  -- the borders and the mark that a row has begun
  pub setting_put_lem : (t : Setting) → setting_put t (laid v s x ++ r) ≡ laid v (with_places (with_setting s t) s.places) x ++ r
  unfolding setting_put header_words
  setting_put_lem Left = refl
  setting_put_lem (Ended row) = refl
  setting_put_lem (Begun row place) =
      let b = s.borders in
      header_put_lem v s.clock b true (mark ∷ v ∷ s.size ∷ s.delay ∷ s.clock ∷ b.first ∷ b.second ∷ b.third ∷ []) (bit s.begun ∷ []) (1 ∷ []) [] 64
      refl refl refl refl
  setting_put_lem (Set first second third) =
      let b = s.borders in
      header_put_lem v s.clock (borders_after (Set first second third) b) s.begun
      (mark ∷ v ∷ s.size ∷ s.delay ∷ s.clock ∷ []) (b.first ∷ b.second ∷ b.third ∷ []) (first ∷ second ∷ third ∷ []) (bit s.begun ∷ []) 40
      refl refl refl refl

  pub rows_put : (rows : List Row) → spliced (laid v s x ++ r) 512 (rows_bytes (with_rows s rows)) ≡ laid v (with_rows s rows) x ++ r
  unfolding header_words
  rows_put rows =
      fourth_over (word_bytes (header_words v s)) (places_bytes s.places) (zero_words 23) (rows_bytes s) (slots_bytes s) (joined 2048 (λ k. word_bytes (holding_words (x k)))) (zero_words 1216) r
      (header_wide v s) (places_long s.places) (zeros_long 23) (rows_bytes (with_rows s rows)) (rows_long s ∙ sym (rows_long (with_rows s rows)))

  pub slots_put : (slots : List Slot) → spliced (laid v s x ++ r) 2560 (slots_bytes (with_slots s slots)) ≡ laid v (with_slots s slots) x ++ r
  unfolding header_words
  slots_put slots =
      fifth_over (word_bytes (header_words v s)) (places_bytes s.places) (zero_words 23) (rows_bytes s) (slots_bytes s) (joined 2048 (λ k. word_bytes (holding_words (x k)))) (zero_words 1216) r
      (header_wide v s) (places_long s.places) (zeros_long 23) (rows_long s) (slots_bytes (with_slots s slots)) (slots_long s ∙ sym (slots_long (with_slots s slots)))

  -- m holdings from place i on
  pub held_put : (y : ℕ → Holding) (i m l : ℕ) → i + m + l ≡ 2048 → ((k : ℕ) → k < i → x k ≡ y k) → ((k : ℕ) → i + m ≤ k → x k ≡ y k)
      → spliced (laid v s x ++ r) (6656 + i * 24) (joined m (λ j. word_bytes (holding_words (y (i + j))))) ≡ laid v s y ++ r
  held_put y i m l e low high =
      let f : (ℕ → Holding) → ℕ → List ℕ = λ z k. word_bytes (holding_words (z k)) in
      let split : (z : ℕ → Holding) → joined 2048 (f z) ≡ joined i (f z) ++ (joined m (λ j. f z (i + j)) ++ joined l (λ j. f z (i + m + j))) =
      λ z. ap (λ (n : ℕ). joined n (f z)) (sym e) ∙ joined_add (i + m) l (f z) ∙ rw (joined_add i m (f z)) (append_assoc (joined i (f z)) (joined m (λ j. f z (i + j))) (joined l (λ j. f z (i + m + j)))) in
      let front : joined i (f x) ≡ joined i (f y) = joined_same i (f x) (f y) (λ k b. ap (λ (z : Holding). word_bytes (holding_words z)) (low k b)) in
      let back : joined l (λ j. f x (i + m + j)) ≡ joined l (λ j. f y (i + m + j)) =
      joined_same l (λ j. f x (i + m + j)) (λ j. f y (i + m + j)) (λ j b. ap (λ (z : Holding). word_bytes (holding_words z)) (high (i + m + j) (omega arith))) in
      let whole : joined i (f x) ++ (joined m (λ j. f y (i + j)) ++ joined l (λ j. f x (i + m + j))) ≡ joined 2048 (f y) = rw (front, back) (sym (split y)) in
      sixth_over (word_bytes (header_words v s)) (places_bytes s.places) (zero_words 23) (rows_bytes s) (slots_bytes s) (joined 2048 (f x)) (zero_words 1216) r
      (header_wide v s) (places_long s.places) (zeros_long 23) (rows_long s) (slots_long s)
      (joined i (f x)) (joined m (λ j. f x (i + j))) (joined l (λ j. f x (i + m + j))) (joined m (λ j. f y (i + j))) (i * 24) (split x)
      (length_joined 24 (f x) (held_wide x) i)
      (length_joined 24 (λ j. f x (i + j)) (λ j. held_wide x (i + j)) m ∙ sym (length_joined 24 (λ j. f y (i + j)) (λ j. held_wide y (i + j)) m))
      ∙ ap (λ (b : List ℕ). (word_bytes (header_words v s) ++ (places_bytes s.places ++ (zero_words 23 ++ (rows_bytes s ++ (slots_bytes s ++ (b ++ zero_words 1216)))))) ++ r) whole

-- ---- the holdings of rows dropped

empty_words : word_bytes (holding_words empty_holding) ≡ zero_words 3
unfolding holding_words
empty_words = refl

-- the holding at place k, of a row on one of the first n slots
abbrev drops_at : ℕ → ℕ → ℕ → Bool
drops_at row n k = eqb (k % 32) row && ltb (k / 32) n

-- the next slot adds one place
drops_more : (row n k : ℕ) → (k ≡ n * 32 + row → ⊥) → drops_at row n k ≡ drops_at row (suc n) k
drops_more row n k h = elim (ℕ_discrete (k % 32) row) [
  | yes e ↦ elim (dec_lt (k / 32) n) [
    | yes b ↦ rw (lt-ltb (k / 32) n b, lt-ltb (k / 32) (suc n) (omega arith))
    | no b ↦
        let q : k / 32 ≡ n → ⊥ = λ g. h (omega arith) in
        rw (le-ltb (k / 32) n (omega arith), le-ltb (k / 32) (suc n) (omega arith))
  ]
  | no e ↦ rw (ne_eqb (k % 32) row e)
]

drops_here : (row n : ℕ) → row < 32 → drops_at row (suc n) (n * 32 + row) ≡ true
drops_here row n h = rw (eq-eqb ((n * 32 + row) % 32) row (omega arith)) (lt-ltb ((n * 32 + row) / 32) (suc n) (omega arith))

-- the holdings without those of some of the first n rows
abbrev rows_left : (ℕ → Bool) → (ℕ → Holding) → ℕ → ℕ → Holding
rows_left some x n k = cond (ltb (k % 32) n && some (k % 32)) empty_holding (x k)

module _ (some : ℕ → Bool) (x : ℕ → Holding) (n : ℕ) where
  -- at a place of row n, and at a place of another row
  left_here : (k : ℕ) (t : Bool) → some n ≡ t → k % 32 ≡ n → rows_left some x (suc n) k ≡ cond t empty_holding (x k)
  left_here k t e q = rw (q, lt-ltb n (suc n) (omega arith), e)

  left_other : (k : ℕ) → (k % 32 ≡ n → ⊥) → rows_left some x n k ≡ rows_left some x (suc n) k
  left_other k q = elim (dec_lt (k % 32) n) [
    | yes l ↦ rw (lt-ltb (k % 32) n l, lt-ltb (k % 32) (suc n) (omega arith))
    | no l ↦ rw (le-ltb (k % 32) n (omega arith), le-ltb (k % 32) (suc n) (omega arith))
  ]

  left_dropped : some n ≡ true → (k : ℕ) → k < 2048 → cond (drops_at n 64 k) empty_holding (rows_left some x n k) ≡ rows_left some x (suc n) k
  left_dropped e k b = elim (ℕ_discrete (k % 32) n) [
    | yes q ↦ rw (eq-eqb (k % 32) n q, lt-ltb (k / 32) 64 (omega arith)) (sym (left_here k true e q))
    | no q ↦ rw (ne_eqb (k % 32) n q) (left_other k q)
  ]

  left_next : some n ≡ false → (k : ℕ) → rows_left some x n k ≡ rows_left some x (suc n) k
  left_next e k = elim (ℕ_discrete (k % 32) n) [
    | yes q ↦
        let was : rows_left some x n k ≡ x k = rw (q, le-ltb n n (omega arith)) in
        was ∙ sym (left_here k false e q)
    | no q ↦ left_other k q
  ]

module _ (v : ℕ) (s : State) (r : List ℕ) where
  -- one holding goes
  hole_put : (x y : ℕ → Holding) (i : ℕ) → i < 2048 → ((k : ℕ) → (k ≡ i → ⊥) → x k ≡ y k) → y i ≡ empty_holding
      → spliced (laid v s x ++ r) (6656 + i * 24) (zero_words 3) ≡ laid v s y ++ r
  unfolding joined
  hole_put x y i b same e =
      let z : joined 1 (λ j. word_bytes (holding_words (y (i + j)))) ≡ zero_words 3 = rw (add-zero i, e) empty_words in
      ap (λ (w : List ℕ). spliced (laid v s x ++ r) (6656 + i * 24) w) (sym z)
      ∙ held_put v s x r y i 1 (2047 - i) (omega arith) (λ k h. same k (omega arith)) (λ k h. same k (omega arith))

  row_drop : (x : ℕ → Holding) (row : ℕ) → row < 32 → (n : ℕ) → n ≤ 64
      → row_dropped row n (laid v s x ++ r) ≡ laid v s (λ k. cond (drops_at row n k) empty_holding (x k)) ++ r
  unfolding row_dropped
  row_drop x row h zero b =
      ap (λ (w : List ℕ). w ++ r) (laid_same v s x (λ k. cond (drops_at row zero k) empty_holding (x k)) (λ k _. rw (none k)))
    where
      none : (k : ℕ) → drops_at row zero k ≡ false
      none k = go (eqb (k % 32) row)
        where
          go : (t : Bool) → t && ltb (k / 32) zero ≡ false
          go true = le-ltb (k / 32) zero (omega arith)
          go false = refl
  row_drop x row h (suc n) b =
      let old : ℕ → Holding = λ k. cond (drops_at row n k) empty_holding (x k) in
      let new : ℕ → Holding = λ k. cond (drops_at row (suc n) k) empty_holding (x k) in
      ap (λ (w : List ℕ). spliced w (6656 + (n * 32 + row) * 24) (zero_words 3)) (row_drop x row h n (omega arith))
      ∙ hole_put old new (n * 32 + row) (omega arith) (λ k q. rw (drops_more row n k q)) (rw (drops_here row n h))

  rows_drop : (some : ℕ → Bool) (x : ℕ → Holding) (n : ℕ) → n ≤ 32 → rows_dropped some n (laid v s x ++ r) ≡ laid v s (rows_left some x n) ++ r
  unfolding rows_dropped
  rows_drop some x zero b = ap (λ (w : List ℕ). w ++ r) (laid_same v s x (rows_left some x zero) (λ k _. rw (le-ltb (k % 32) zero (omega arith))))
  rows_drop some x (suc n) b = go (some n) refl (rows_drop some x n (omega arith))
    where
      go : (t : Bool) → some n ≡ t → rows_dropped some n (laid v s x ++ r) ≡ laid v s (rows_left some x n) ++ r
          → cond t (row_dropped n 64 (rows_dropped some n (laid v s x ++ r))) (rows_dropped some n (laid v s x ++ r)) ≡ laid v s (rows_left some x (suc n)) ++ r
      go true e h =
          ap (row_dropped n 64) h
          ∙ row_drop (rows_left some x n) n (omega arith) 64 (omega arith)
          ∙ ap (λ (w : List ℕ). w ++ r) (laid_same v s (λ k. cond (drops_at n 64 k) empty_holding (rows_left some x n k)) (rows_left some x (suc n)) (left_dropped some x n e))
      go false e h = h ∙ ap (λ (w : List ℕ). w ++ r) (laid_same v s (rows_left some x n) (rows_left some x (suc n)) (λ k _. left_next some x n e k))

  -- the 32 holdings of a slot
  slot_put : (x : ℕ → Holding) (slot : ℕ) (held : List Holding) → slot < 64
      → spliced (laid v s x ++ r) (6656 + slot * 768) (joined 32 (λ row. word_bytes (holding_words (get_or held row empty_holding))))
      ≡ laid v s (λ k. cond (eqb (k / 32) slot) (get_or held (k % 32) empty_holding) (x k)) ++ r
  slot_put x slot held b =
      let y : ℕ → Holding = λ k. cond (eqb (k / 32) slot) (get_or held (k % 32) empty_holding) (x k) in
      let at : 6656 + slot * 768 ≡ 6656 + slot * 32 * 24 = omega arith in
      let there : (j : ℕ) → j < 32 → get_or held j empty_holding ≡ y (slot * 32 + j) =
      λ j h. let row : (slot * 32 + j) % 32 ≡ j = omega arith in rw (eq-eqb ((slot * 32 + j) / 32) slot (omega arith), row) in
      let z : joined 32 (λ row. word_bytes (holding_words (get_or held row empty_holding))) ≡ joined 32 (λ j. word_bytes (holding_words (y (slot * 32 + j)))) =
      joined_same 32 (λ row. word_bytes (holding_words (get_or held row empty_holding))) (λ j. word_bytes (holding_words (y (slot * 32 + j))))
      (λ j h. ap (λ (g : Holding). word_bytes (holding_words g)) (there j h)) in
      (λ i. spliced (laid v s x ++ r) (at i) (z i))
      ∙ held_put v s x r y (slot * 32) 32 (2016 - slot * 32) (omega arith)
      (λ k h. rw (ne_eqb (k / 32) slot (λ e. omega arith))) (λ k h. rw (ne_eqb (k / 32) slot (λ e. omega arith)))

-- ---- all writes of a change

module _ (v : ℕ) (s : State) (long : length s.holdings ≡ 2048) (c : Change) (r a a0 a1 a2 a3 a4 a5 : List ℕ) (e : encoded_as v s ++ r ≡ a) (named : places_from a ≡ s.places)
    (e0 : a0 ≡ order_put c.setting a)
    (e1 : a1 ≡ header_put c.clock a0)
    (e2 : a2 ≡ setting_put c.setting a1)
    (e3 : a3 ≡ spliced a2 512 (joined 32 (λ i. word_bytes (row_words (get_or c.rows i free_row)))))
    (e4 : a4 ≡ spliced a3 2560 (joined 64 (λ i. word_bytes (slot_words (get_or c.slots i empty_slot)))))
    (e5 : a5 ≡ rows_dropped (marked c.gone) 32 a4) where
  abbrev was : ℕ → Holding
  was k = get_or s.holdings k empty_holding

  abbrev old : ℕ → Holding
  old = rows_left (marked c.gone) was 32

  -- before the slot's holdings are written
  dropped : a5 ≡ laid version (changed s c) old ++ r
  unfolding encoded_as changed header_words header_put
  dropped =
      let s0 = with_places s (places_after c.setting s.places) in
      let s1 = with_clock s0 c.clock in
      let s2 = with_places (with_setting s1 c.setting) s0.places in
      let s3 = with_rows s2 c.rows in
      let s4 = with_slots s3 c.slots in
      let d0 : a0 ≡ laid v s0 was ++ r = e0 ∙ ap (order_put c.setting) (sym e) ∙ order_put_lem v s was r (ap places_from e ∙ named) c.setting in
      let d1 : a1 ≡ laid version s1 was ++ r = e1 ∙ ap (header_put c.clock) d0 ∙ ap (λ (w : List ℕ). spliced w 32 (word_bytes (c.clock ∷ []))) (version_put v s0 was r version) ∙ clock_put version s0 was r c.clock in
      let d2 : a2 ≡ laid version s2 was ++ r = e2 ∙ ap (setting_put c.setting) d1 ∙ setting_put_lem version s1 was r c.setting in
      let d3 : a3 ≡ laid version s3 was ++ r = e3 ∙ ap (λ (w : List ℕ). spliced w 512 (rows_bytes s3)) d2 ∙ rows_put version s2 was r c.rows in
      let d4 : a4 ≡ laid version s4 was ++ r = e4 ∙ ap (λ (w : List ℕ). spliced w 2560 (slots_bytes s4)) d3 ∙ slots_put version s3 was r c.slots in
      e5 ∙ ap (rows_dropped (marked c.gone) 32) d4 ∙ rows_drop version s4 r (marked c.gone) was 32 (omega arith)

  holding_after_lem : (k : ℕ) → k < 2048 → get_or (each (holding_after c) s.holdings) k empty_holding ≡ cond (eqb (k / 32) c.slot) (get_or c.held (k % 32) empty_holding) (old k)
  unfolding holding_after
  holding_after_lem k b = each_at (holding_after c) s.holdings k empty_holding (rw long b) ∙ rw (lt-ltb (k % 32) 32 (omega arith))

  encoded_after : (y : ℕ → Holding) → ((k : ℕ) → k < 2048 → y k ≡ cond (eqb (k / 32) c.slot) (get_or c.held (k % 32) empty_holding) (old k))
      → laid version (changed s c) y ++ r ≡ encoded (changed s c) ++ r
  unfolding encoded_as changed
  encoded_after y h = ap (λ (w : List ℕ). w ++ r)
      (laid_same version (changed s c) y (λ k. get_or (each (holding_after c) s.holdings) k empty_holding) (λ k b. h k b ∙ sym (holding_after_lem k b)))

  pub amended : (a6 : List ℕ) → c.slot < 64 → a6 ≡ spliced a5 (6656 + c.slot * 768) (joined 32 (λ row. word_bytes (holding_words (get_or c.held row empty_holding))))
      → a6 ≡ encoded (changed s c) ++ r
  amended a6 b e6 =
      e6
      ∙ ap (λ (w : List ℕ). spliced w (6656 + c.slot * 768) (joined 32 (λ row. word_bytes (holding_words (get_or c.held row empty_holding))))) dropped
      ∙ slot_put version (changed s c) r old c.slot c.held b
      ∙ encoded_after (λ k. cond (eqb (k / 32) c.slot) (get_or c.held (k % 32) empty_holding) (old k)) (λ k _. refl)

  pub amended_rows : 64 ≤ c.slot → a5 ≡ encoded (changed s c) ++ r
  amended_rows b = dropped ∙ encoded_after old (λ k h. rw (ne_eqb (k / 32) c.slot (λ q. omega arith)))
