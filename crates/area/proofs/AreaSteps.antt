-- What the parts of decode and of encode come to together.
use mathlib.Core.Path.{◌≡◌, refl, ◌∙◌, sym, ap}
use mathlib.Core.Bool.{Bool, true, false, not, ◌&&◌}
use mathlib.Core.List.{List, [], ◌∷◌, ◌++◌, append_assoc}
use Prim.Native.Nat.{ℕ, ◌+◌, ◌*◌, ◌≤◌}
use native.Mathlib.Omega.{arith}
use lib.Dec.{eqb}
use lib.ListN.{length, drop, replicate, length-append, length-replicate}
use Rattle.seq.specs.Below.{all_below}
use Rattle.seq.proofs.BelowLaws.{each_all}
use Rattle.seq.specs.Each.{each}
use Rattle.words.specs.Bytes.{word_at, has_words, word_bytes, zero_words, spliced, AllUnder}
use Rattle.words.proofs.ByteLaws.{word_under}
use Rattle.words.proofs.SpliceLaws.{spliced_more}
use Rattle.model.specs.declared.State.{State}
use Rattle.model.specs.State.{free_row, empty_slot, fresh}
use Rattle.area.specs.Layout.{version, version_in, row_from, slot_from, holding_from, row_words, slot_words, holding_words, borders_from, free_rows, empty_slots, no_places, places_from, header_words, places_bytes, decoded, encoded, encoded_as, exact_as}
use Rattle.area.proofs.Elements.{header_wide, place_exact}
use Rattle.area.proofs.LoopLaws.{empty_holdings_long}
use Rattle.area.proofs.Pieces.{rows_bytes, slots_bytes, holdings_bytes, places_long, rows_long, slots_long, holdings_long, zeros_long, exact_pieces}

and_true_last : (z : Bool) → z && true ≡ z
and_true_last true = refl
and_true_last false = refl

and_assoc : (x y z : Bool) → (x && y) && z ≡ x && (y && z)
and_assoc true y z = refl
and_assoc false y z = refl

and_false_last : (z : Bool) → z && false ≡ false
and_false_last true = refl
and_false_last false = refl

-- the tests in the order in which they are made, and in the order of the layout
reordered : (h u v x y z : Bool) → (((h && (u && v)) && x) && y) && z ≡ h && (u && (x && (y && (z && v))))
reordered false u v x y z = refl
reordered true false v x y z = refl
reordered true true true x y z = rw (and_true_last z) (and_assoc x y z)
reordered true true false x y z = rw (and_false_last z, and_false_last y, and_false_last x)

-- over a fresh state f: the state that decode builds, and its tests
module _ (a : List ℕ) (f : State) (size delay : ℕ) (e : f ≡ fresh size delay) where
  pub fresh_long : (length f.places ≡ 32) × (length f.rows ≡ 32) × (length f.slots ≡ 64) × (length f.holdings ≡ 2048)
  unfolding fresh
  fresh_long = rw e (length-replicate {A = ℕ} 32 0, length-replicate 32 free_row, length-replicate 64 empty_slot, empty_holdings_long)

  pub decode_state : (s : State) → size ≡ word_at a 16 → delay ≡ word_at a 24 → s.size ≡ f.size → s.delay ≡ f.delay → s.clock ≡ word_at a 32 → s.borders ≡ borders_from a → s.begun ≡ not (eqb (word_at a 64) 0)
      → s.places ≡ each (λ i _. word_at a (72 + i * 8)) f.places → s.rows ≡ each (λ i _. row_from a (512 + i * 64)) f.rows
      → s.slots ≡ each (λ i _. slot_from a (2560 + i * 64)) f.slots → s.holdings ≡ each (λ i _. holding_from a (6656 + i * 24)) f.holdings → s ≡ decoded a
  unfolding decoded fresh free_rows empty_slots places_from no_places
  decode_state s e1 e2 f1 f2 e3 e4 e5 e6 e7 e8 e9 =
      let size-is : f.size ≡ size = λ i. (e i).size in
      let delay-is : f.delay ≡ delay = λ i. (e i).delay in
      let g6 = e6 ∙ (λ i. each (λ j _. word_at a (72 + j * 8)) (e i).places) in
      let g7 = e7 ∙ (λ i. each (λ j _. row_from a (512 + j * 64)) (e i).rows) in
      let g8 = e8 ∙ (λ i. each (λ j _. slot_from a (2560 + j * 64)) (e i).slots) in
      let g9 = e9 ∙ (λ i. each (λ j _. holding_from a (6656 + j * 24)) (e i).holdings) in
      let g1 = f1 ∙ size-is ∙ e1 in
      let g2 = f2 ∙ delay-is ∙ e2 in
      λ i. record { size = g1 i; delay = g2 i; clock = e3 i; rows = g7 i; slots = g8 i; holdings = g9 i; borders = e4 i; begun = e5 i; places = g6 i }

  pub exact_tests : AllUnder 256 a → 65536 ≤ length a → (s : State) (t o x y z : Bool) → s ≡ decoded a
      → t ≡ has_words a 0 (header_words (version_in a) s) && (has_words a 328 (replicate 23 0) && has_words a 55808 (replicate 1216 0))
      → o ≡ all_below (length f.places) (λ i. has_words a (72 + i * 8) (word_at a (72 + i * 8) ∷ []))
      → x ≡ all_below (length f.rows) (λ i. has_words a (512 + i * 64) (row_words (row_from a (512 + i * 64))))
      → y ≡ all_below (length f.slots) (λ i. has_words a (2560 + i * 64) (slot_words (slot_from a (2560 + i * 64))))
      → z ≡ all_below (length f.holdings) (λ i. has_words a (6656 + i * 24) (holding_words (holding_from a (6656 + i * 24))))
      → (((t && o) && x) && y) && z ≡ exact_as (version_in a) a
  exact_tests u l s t o x y z es et eo ex ey ez =
      let h = has_words a 0 (header_words (version_in a) (decoded a)) in
      let w = has_words a 328 (replicate 23 0) in
      let zeros = has_words a 55808 (replicate 1216 0) in
      let n = fresh_long in
      let placed : o ≡ true = eo ∙ each_all (λ i. has_words a (72 + i * 8) (word_at a (72 + i * 8) ∷ [])) (length f.places) (λ i b. place_exact a (72 + i * 8)) in
      rw (placed, and_true_last t, et, es, ex, ey, ez, n.1, n.2, n.3) (reordered h w zeros _ _ _ ∙ sym (exact_pieces (version_in a) (word_under a 8 u) a u l))

-- seven lists written one after another from the front
pub seven : (a a1 a2 a3 a4 a5 a6 a7 p1 p2 p3 p4 p5 p6 p7 : List ℕ) (n1 n2 n3 n4 n5 n6 n7 : ℕ)
    → length p1 ≡ n1 → n1 + length p2 ≡ n2 → n2 + length p3 ≡ n3 → n3 + length p4 ≡ n4 → n4 + length p5 ≡ n5 → n5 + length p6 ≡ n6 → n6 + length p7 ≡ n7 → n7 ≤ length a
    → a1 ≡ spliced a 0 p1 → a2 ≡ spliced a1 n1 p2 → a3 ≡ spliced a2 n2 p3 → a4 ≡ spliced a3 n3 p4 → a5 ≡ spliced a4 n4 p5 → a6 ≡ spliced a5 n5 p6 → a7 ≡ spliced a6 n6 p7
    → a7 ≡ (p1 ++ (p2 ++ (p3 ++ (p4 ++ (p5 ++ (p6 ++ p7)))))) ++ drop n7 a
seven a a1 a2 a3 a4 a5 a6 a7 p1 p2 p3 p4 p5 p6 p7 n1 n2 n3 n4 n5 n6 n7 l1 l2 l3 l4 l5 l6 l7 h e1 e2 e3 e4 e5 e6 e7 =
    let more : (x xs ys y : List ℕ) (n : ℕ) → length xs ≡ n → n ≤ length a → x ≡ spliced a 0 xs → y ≡ spliced x n ys → y ≡ spliced a 0 (xs ++ ys) =
    λ x xs ys y n l b e f. f ∙ ap (λ (z : List ℕ). spliced z n ys) e ∙ spliced_more a 0 xs ys n (omega arith) b in
    let m2 : length (p1 ++ p2) ≡ n2 = length-append p1 p2 ∙ omega arith in
    let m3 : length (p1 ++ p2 ++ p3) ≡ n3 = length-append (p1 ++ p2) p3 ∙ omega arith in
    let m4 : length (p1 ++ p2 ++ p3 ++ p4) ≡ n4 = length-append (p1 ++ p2 ++ p3) p4 ∙ omega arith in
    let m5 : length (p1 ++ p2 ++ p3 ++ p4 ++ p5) ≡ n5 = length-append (p1 ++ p2 ++ p3 ++ p4) p5 ∙ omega arith in
    let m6 : length (p1 ++ p2 ++ p3 ++ p4 ++ p5 ++ p6) ≡ n6 = length-append (p1 ++ p2 ++ p3 ++ p4 ++ p5) p6 ∙ omega arith in
    let m7 : length (p1 ++ p2 ++ p3 ++ p4 ++ p5 ++ p6 ++ p7) ≡ n7 = length-append (p1 ++ p2 ++ p3 ++ p4 ++ p5 ++ p6) p7 ∙ omega arith in
    let f2 = more a1 p1 p2 a2 n1 l1 (omega arith) e1 e2 in
    let f3 = more a2 (p1 ++ p2) p3 a3 n2 m2 (omega arith) f2 e3 in
    let f4 = more a3 (p1 ++ p2 ++ p3) p4 a4 n3 m3 (omega arith) f3 e4 in
    let f5 = more a4 (p1 ++ p2 ++ p3 ++ p4) p5 a5 n4 m4 (omega arith) f4 e5 in
    let f6 = more a5 (p1 ++ p2 ++ p3 ++ p4 ++ p5) p6 a6 n5 m5 (omega arith) f5 e6 in
    let f7 = more a6 (p1 ++ p2 ++ p3 ++ p4 ++ p5 ++ p6) p7 a7 n6 m6 (omega arith) f6 e7 in
    let joined : p1 ++ p2 ++ p3 ++ p4 ++ p5 ++ p6 ++ p7 ≡ p1 ++ (p2 ++ (p3 ++ (p4 ++ (p5 ++ (p6 ++ p7))))) = simp append_assoc in
    let d : 0 + length (p1 ++ p2 ++ p3 ++ p4 ++ p5 ++ p6 ++ p7) ≡ n7 = omega (arith, m7) in
    f7 ∙ ap (λ (m : ℕ). p1 ++ p2 ++ p3 ++ p4 ++ p5 ++ p6 ++ p7 ++ drop m a) d ∙ ap (λ (z : List ℕ). z ++ drop n7 a) joined

pub encode_steps : (s : State) (a a1 a2 a3 a4 a5 a6 a7 hw : List ℕ) → 65536 ≤ length a → hw ≡ header_words version s
    → a1 ≡ spliced a 0 (word_bytes hw) → a2 ≡ spliced a1 72 (places_bytes s.places) → a3 ≡ spliced a2 328 (zero_words 23) → a4 ≡ spliced a3 512 (rows_bytes s)
    → a5 ≡ spliced a4 2560 (slots_bytes s) → a6 ≡ spliced a5 6656 (holdings_bytes s) → a7 ≡ spliced a6 55808 (zero_words 1216)
    → a7 ≡ encoded s ++ drop 65536 a
unfolding encoded_as header_words
encode_steps s a a1 a2 a3 a4 a5 a6 a7 hw h e e1 e2 e3 e4 e5 e6 e7 =
    seven a a1 a2 a3 a4 a5 a6 a7 (word_bytes (header_words version s)) (places_bytes s.places) (zero_words 23) (rows_bytes s) (slots_bytes s) (holdings_bytes s) (zero_words 1216)
    72 328 512 2560 6656 55808 65536
    (header_wide version s) (omega (arith, places_long s.places)) (omega (arith, zeros_long 23)) (omega (arith, rows_long s)) (omega (arith, slots_long s)) (omega (arith, holdings_long s)) (omega (arith, zeros_long 1216)) h
    (e1 ∙ ap (λ (w : List ℕ). spliced a 0 (word_bytes w)) e) e2 e3 e4 e5 e6 e7
