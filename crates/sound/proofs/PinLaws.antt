-- No two pins of a slot conflict just where its pins weigh at most 64.
use mathlib.Core.Path.{◌≡◌, refl, sym, ◌∙◌}
use mathlib.Core.Bool.{Bool, true, false, cond, ◌&&◌, not}
use Prim.Native.Nat.{ℕ, zero, suc, ◌+◌, ◌*◌, ◌<◌, ◌≤◌}
use native.Mathlib.Numerals.{add-one}
use native.Mathlib.Omega.{arith}
use native.Mathlib.Decide.{ℕ_discrete, dec_lt}
use lib.Dec.{leb}
use borrow.Author.Tests.{leb-true, le-leb, not-true}
use Rattle.seq.specs.Below.{any_below, all_below, count_below, One}
use Rattle.seq.proofs.Tests.{true_false, same_truth, and_false_right}
use Rattle.seq.proofs.BelowLaws.{any_none, any_hit, count_at_most, count_none, none_count, count_one, one_count, pairs_each, each_pairs}
use Rattle.model.specs.declared.Pin.{Pin}
use Rattle.model.specs.declared.Pin.TheVariants.{Absent, Unpinned, Read, Write}
use Rattle.model.specs.declared.State.{State}
use Rattle.model.specs.State.{holding_at}
use Rattle.model.specs.Words.{is_pin, is_write, conflict}
use Rattle.model.proofs.PinLaws.{write_pin, conflict_comm, no_two_pins}
use Rattle.rules.specs.Sound.{sound_pins}
use Rattle.sound.specs.Inner.Tests.{pin_weight, weight_below}

-- a pin beside a write pin
write_first : (p q : Pin) → is_write p ≡ true → is_pin q ≡ true → conflict p q ≡ true
unfolding conflict
write_first p q w e = rw (write_pin p w, e, w)

write_second : (p q : Pin) → is_pin p ≡ true → is_write q ≡ true → conflict p q ≡ true
write_second p q e w = conflict_comm p q ∙ write_first q p w e

no_write : (p q : Pin) → is_write p ≡ false → is_write q ≡ false → conflict p q ≡ false
unfolding conflict
no_write p q e f = rw (e, f) (and_false_right (is_pin p && is_pin q) false refl)

-- the weight with row n
pub weight_turn : (f : ℕ → Pin) (n a w : ℕ) → a ≡ weight_below n f → w ≡ pin_weight (f n) → a + w ≡ weight_below (n + 1) f
unfolding weight_below
weight_turn f n a w e q = rw (add-one, e, q)

module _ (f : ℕ → Pin) where
  abbrev writes : ℕ → ℕ
  writes n = count_below n (λ row. is_write (f row))

  abbrev number : ℕ → ℕ
  number n = count_below n (λ row. is_pin (f row))

  -- each pin weighs 1, and a write pin 63 more
  weight_is : (n : ℕ) → (weight_below n f ≡ number n + 63 * writes n) × (writes n ≤ number n)
  unfolding weight_below count_below
  weight_is zero = (refl, omega arith)
  weight_is (suc n) = go (f n) (weight_is n)
    where
      go : (p : Pin) → (weight_below n f ≡ number n + 63 * writes n) × (writes n ≤ number n)
          → (weight_below n f + pin_weight p ≡ number n + cond (is_pin p) 1 0 + 63 * (writes n + cond (is_write p) 1 0)) × (writes n + cond (is_write p) 1 0 ≤ number n + cond (is_pin p) 1 0)
      go Absent h = (omega (arith, h.0), omega (arith, h.1))
      go Unpinned h = (omega (arith, h.0), omega (arith, h.1))
      go Read h = (omega (arith, h.0), omega (arith, h.1))
      go Write h = (omega (arith, h.0), omega (arith, h.1))

  pub weight_at_most : (n : ℕ) → weight_below n f ≤ 64 * n
  weight_at_most n = omega (arith, (weight_is n).0, (weight_is n).1, count_at_most (λ row. is_pin (f row)) n)

module _ (f : ℕ → Pin) (n : ℕ) where
  abbrev apart : Bool
  apart = all_below n (λ row. all_below row (λ other. not (conflict (f row) (f other))))

  apart_each : apart ≡ true → (i j : ℕ) → i < n → j < i → conflict (f i) (f j) ≡ false
  apart_each e i j a b =
      not-true (conflict (f i) (f j))
      (pairs_each (λ row other. not (conflict (f row) (f other))) n i j e a b)

  each_apart : ((i j : ℕ) → i < n → j < i → conflict (f i) (f j) ≡ false) → apart ≡ true
  each_apart h = each_pairs (λ row other. not (conflict (f row) (f other))) n (λ i j a b. rw (h i j a b))

  -- a write pin is the only pin
  only_write : apart ≡ true → (w : ℕ) → w < n → is_write (f w) ≡ true → One (λ row. is_pin (f row)) n
  only_write e w a p = record {
    at = w;
    below = a;
    passes = write_pin (f w) p;
    only = λ i b q. elim (dec_lt i w) [
      | yes h ↦ true_false (sym (write_first (f w) (f i) p q) ∙ apart_each e w i a h)
      | no h ↦ elim (dec_lt w i) [
        | yes k ↦ true_false (sym (write_second (f i) (f w) q p) ∙ apart_each e i w b k)
        | no k ↦ omega arith
      ]
    ];
  }

  to_test : n ≤ 64 → apart ≡ true → leb (weight_below n f) 64 ≡ true
  to_test m e = le-leb (weight_below n f) 64 (go (any_below n (λ row. is_write (f row))) refl)
    where
      go : (b : Bool) → any_below n (λ row. is_write (f row)) ≡ b → weight_below n f ≤ 64
      go true q =
          let x = any_hit (λ row. is_write (f row)) n q in
          omega (arith, (weight_is f n).0, (weight_is f n).1, one_count (λ row. is_pin (f row)) n (only_write e x.0 x.1 x.2))
      go false q =
          omega (arith, (weight_is f n).0, count_at_most (λ row. is_pin (f row)) n, count_none (λ row. is_write (f row)) n (λ i h. any_none (λ row. is_write (f row)) n i q h))

  from_test : leb (weight_below n f) 64 ≡ true → apart ≡ true
  from_test e =
      let h = leb-true (weight_below n f) 64 e in
      elim (ℕ_discrete (writes f n) 0) [
        | yes z ↦ each_apart (λ i j a b. no_write (f i) (f j) (none_count (λ row. is_write (f row)) n z i a) (none_count (λ row. is_write (f row)) n z j (omega arith)))
        | no z ↦
            let o = count_one (λ row. is_pin (f row)) n (omega (arith, (weight_is f n).0, (weight_is f n).1)) in
            each_apart (λ i j a b. no_two_pins (f i) (f j) (λ c d.
            let x = o.only i a c in
            let y = o.only j (omega arith) d in
            omega arith))
      ]

-- the pins of a slot, as the loop over its holdings leaves them
pub pins_end : (s : State) (slot n weight : ℕ) → n ≡ 32 → weight ≡ weight_below n (λ row. (holding_at s slot row).pin) → leb weight 64 ≡ sound_pins s slot
unfolding sound_pins
pins_end s slot n weight e q =
    rw (q, e)
    (same_truth (leb (weight_below 32 (λ row. (holding_at s slot row).pin)) 64) (apart (λ row. (holding_at s slot row).pin) 32)
    (from_test (λ row. (holding_at s slot row).pin) 32) (to_test (λ row. (holding_at s slot row).pin) 32 (omega arith)))
