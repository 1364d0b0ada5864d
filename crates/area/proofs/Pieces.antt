-- The exact bytes of an area, tested region by region.
use mathlib.Core.Path.{◌≡◌, refl, sym, ap, ◌∙◌}
use mathlib.Core.Bool.{Bool, true, ◌&&◌}
use mathlib.Core.List.{List, [], ◌∷◌, ◌++◌}
use Prim.Native.Nat.{ℕ, ◌+◌, ◌*◌, ◌<◌, ◌≤◌, ◌^◌}
use native.Mathlib.Nat.{add-zero}
use native.Mathlib.Omega.{arith}
use borrow.Author.Tests.{eq-eqb}
use lib.ListN.{length, get_or, take, replicate, length-replicate}
use Rattle.seq.specs.Below.{all_below}
use Rattle.seq.proofs.BelowLaws.{each_all, all_same}
use Rattle.words.specs.Bytes.{part, joined, word_at, word_bytes, zero_words, has_words, same, AllUnder}
use Rattle.words.proofs.ByteLaws.{length_words}
use Rattle.words.proofs.JoinLaws.{length_joined}
use Rattle.words.proofs.SameLaws.{same_cut, has_words_lem, has_zeros, has_pieces}
use Rattle.model.specs.declared.Holding.{Holding}
use Rattle.model.specs.declared.State.{State}
use Rattle.model.specs.State.{empty_holding, row_at, slot_at, place_at}
use Rattle.area.specs.Layout.{header_words, places_bytes, row_words, slot_words, holding_words, encoded_as, row_from, slot_from, holding_from, decoded, exact_as}
use Rattle.area.proofs.Elements.{header_wide, place_wide, row_wide, slot_wide, holding_wide, header_small, place_small, row_small, slot_small, holding_small, decoded_place, decoded_row, decoded_slot, decoded_holding, decoded_place_ok, decoded_row_ok, decoded_slot_ok, decoded_holding_ok, decoded_ok, all_words}

-- the regions of a state's bytes
abbrev pub rows_bytes : State → List ℕ
rows_bytes s = joined 32 (λ row. word_bytes (row_words (row_at s row)))

abbrev pub slots_bytes : State → List ℕ
slots_bytes s = joined 64 (λ slot. word_bytes (slot_words (slot_at s slot)))

abbrev pub holdings_bytes : State → List ℕ
holdings_bytes s = joined 2048 (λ k. word_bytes (holding_words (get_or s.holdings k empty_holding)))

pub places_long : (places : List ℕ) → length (places_bytes places) ≡ 256
places_long places = length_joined 8 (λ row. word_bytes (get_or places row 0 ∷ [])) (λ row. length_words (get_or places row 0 ∷ [])) 32

pub rows_long : (s : State) → length (rows_bytes s) ≡ 2048
rows_long s = length_joined 64 (λ row. word_bytes (row_words (row_at s row))) (λ row. length_words (row_words (row_at s row)) ∙ row_wide (row_at s row)) 32

pub slots_long : (s : State) → length (slots_bytes s) ≡ 4096
slots_long s = length_joined 64 (λ slot. word_bytes (slot_words (slot_at s slot))) (λ slot. length_words (slot_words (slot_at s slot)) ∙ slot_wide (slot_at s slot)) 64

pub holdings_long : (s : State) → length (holdings_bytes s) ≡ 49152
holdings_long s =
    length_joined 24 (λ k. word_bytes (holding_words (get_or s.holdings k empty_holding)))
    (λ k. length_words (holding_words (get_or s.holdings k empty_holding)) ∙ holding_wide (get_or s.holdings k empty_holding)) 2048

pub zeros_long : (n : ℕ) → length (zero_words n) ≡ n * 8
zeros_long n = length_words (replicate n 0) ∙ ap (λ (m : ℕ). m * 8) (length-replicate n 0)

and_same : {a b x y : Bool} → a ≡ x → b ≡ y → a && b ≡ x && y
and_same e f = rw (e, f)

-- a region, and what is known of the regions behind it
cut : (a x y : List ℕ) (at m n : ℕ) {b : Bool} → at + m ≤ length a → length x ≡ m → same (part a (at + m) n) y ≡ b
    → same (part a at (m + n)) (x ++ y) ≡ same (part a at m) x && b
cut a x y at m n h e f = same_cut a x y at m n h e ∙ rw f

cut_seven : (a x₀ x₁ x₂ x₃ x₄ x₅ x₆ : List ℕ) → 65536 ≤ length a
    → length x₀ ≡ 72 → length x₁ ≡ 256 → length x₂ ≡ 184 → length x₃ ≡ 2048 → length x₄ ≡ 4096 → length x₅ ≡ 49152
    → same (take 65536 a) (x₀ ++ (x₁ ++ (x₂ ++ (x₃ ++ (x₄ ++ (x₅ ++ x₆))))))
    ≡ same (part a 0 72) x₀ && (same (part a 72 256) x₁ && (same (part a 328 184) x₂ && (same (part a 512 2048) x₃ && (same (part a 2560 4096) x₄ && (same (part a 6656 49152) x₅ && same (part a 55808 9728) x₆)))))
cut_seven a x₀ x₁ x₂ x₃ x₄ x₅ x₆ h e₀ e₁ e₂ e₃ e₄ e₅ =
    cut a x₀ (x₁ ++ (x₂ ++ (x₃ ++ (x₄ ++ (x₅ ++ x₆))))) 0 72 65464 (omega arith) e₀
    (cut a x₁ (x₂ ++ (x₃ ++ (x₄ ++ (x₅ ++ x₆)))) 72 256 65208 (omega arith) e₁
    (cut a x₂ (x₃ ++ (x₄ ++ (x₅ ++ x₆))) 328 184 65024 (omega arith) e₂
    (cut a x₃ (x₄ ++ (x₅ ++ x₆)) 512 2048 62976 (omega arith) e₃
    (cut a x₄ (x₅ ++ x₆) 2560 4096 58880 (omega arith) e₄
    (cut a x₅ x₆ 6656 49152 9728 (omega arith) e₅ refl)))))

module _ (v : ℕ) (word : v < 2 ^ 64) (a : List ℕ) (bytes : AllUnder 256 a) (long : 65536 ≤ length a) where
  header_piece : has_words a 0 (header_words v (decoded a)) ≡ same (part a 0 72) (word_bytes (header_words v (decoded a)))
  unfolding header_words
  header_piece = has_words_lem a (header_words v (decoded a)) 0 bytes (header_small v word (decoded a) (decoded_ok a (all_words a bytes))) (omega arith)

  -- any word may stand for a place
  places_piece : same (part a 72 256) (places_bytes (decoded a).places) ≡ true
  unfolding has_words all_below
  places_piece =
      has_pieces a bytes 8 (λ row. place_at (decoded a) row ∷ []) (λ row. place_wide (place_at (decoded a) row)) 72 32
      (λ row _. place_small (place_at (decoded a) row) (decoded_place_ok a (all_words a bytes) row)) (omega arith)
      ∙ each_all (λ row. has_words a (72 + row * 8) (place_at (decoded a) row ∷ [])) 32
      (λ row b. rw (add-zero (72 + row * 8)) (eq-eqb (word_at a (72 + row * 8)) (place_at (decoded a) row) (sym (decoded_place a row b))))

  rows_piece : same (part a 512 2048) (rows_bytes (decoded a)) ≡ all_below 32 (λ row. has_words a (512 + row * 64) (row_words (row_from a (512 + row * 64))))
  rows_piece =
      has_pieces a bytes 64 (λ row. row_words (row_at (decoded a) row)) (λ row. row_wide (row_at (decoded a) row)) 512 32
      (λ row _. row_small (row_at (decoded a) row) (decoded_row_ok a (all_words a bytes) row)) (omega arith)
      ∙ all_same (λ row. has_words a (512 + row * 64) (row_words (row_at (decoded a) row))) (λ row. has_words a (512 + row * 64) (row_words (row_from a (512 + row * 64)))) 32
      (λ row b. rw (decoded_row a row b))

  slots_piece : same (part a 2560 4096) (slots_bytes (decoded a)) ≡ all_below 64 (λ slot. has_words a (2560 + slot * 64) (slot_words (slot_from a (2560 + slot * 64))))
  slots_piece =
      has_pieces a bytes 64 (λ slot. slot_words (slot_at (decoded a) slot)) (λ slot. slot_wide (slot_at (decoded a) slot)) 2560 64
      (λ slot _. slot_small (slot_at (decoded a) slot) (decoded_slot_ok a (all_words a bytes) slot)) (omega arith)
      ∙ all_same (λ slot. has_words a (2560 + slot * 64) (slot_words (slot_at (decoded a) slot))) (λ slot. has_words a (2560 + slot * 64) (slot_words (slot_from a (2560 + slot * 64)))) 64
      (λ slot b. rw (decoded_slot a slot b))

  holdings_piece : same (part a 6656 49152) (holdings_bytes (decoded a)) ≡ all_below 2048 (λ k. has_words a (6656 + k * 24) (holding_words (holding_from a (6656 + k * 24))))
  holdings_piece =
      let x : ℕ → Holding = λ k. get_or (decoded a).holdings k empty_holding in
      has_pieces a bytes 24 (λ k. holding_words (x k)) (λ k. holding_wide (x k)) 6656 2048
      (λ k _. holding_small (x k) (decoded_holding_ok a (all_words a bytes) k)) (omega arith)
      ∙ all_same (λ k. has_words a (6656 + k * 24) (holding_words (x k))) (λ k. has_words a (6656 + k * 24) (holding_words (holding_from a (6656 + k * 24)))) 2048
      (λ k b. rw (decoded_holding a k b))

  pub exact_pieces : exact_as v a
      ≡ has_words a 0 (header_words v (decoded a)) && (has_words a 328 (replicate 23 0)
      && (all_below 32 (λ row. has_words a (512 + row * 64) (row_words (row_from a (512 + row * 64))))
      && (all_below 64 (λ slot. has_words a (2560 + slot * 64) (slot_words (slot_from a (2560 + slot * 64))))
      && (all_below 2048 (λ k. has_words a (6656 + k * 24) (holding_words (holding_from a (6656 + k * 24))))
      && has_words a 55808 (replicate 1216 0)))))
  unfolding exact_as encoded_as
  exact_pieces =
      let s = decoded a in
      cut_seven a (word_bytes (header_words v s)) (places_bytes s.places) (zero_words 23) (rows_bytes s) (slots_bytes s) (holdings_bytes s) (zero_words 1216) long
      (header_wide v s) (places_long s.places) (zeros_long 23) (rows_long s) (slots_long s) (holdings_long s)
      ∙ and_same (sym header_piece) (and_same places_piece (and_same (sym (has_zeros a 328 23 bytes (omega arith)))
      (and_same rows_piece (and_same slots_piece (and_same holdings_piece (sym (has_zeros a 55808 1216 bytes (omega arith))))))))
