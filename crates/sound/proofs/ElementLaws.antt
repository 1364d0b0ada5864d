-- The parts of the test of a state, as the code joins them.
use mathlib.Core.Path.{◌≡◌, refl}
use mathlib.Core.Bool.{Bool, true, false, cond, ◌&&◌, ◌||◌, not}
use Prim.Native.Nat.{ℕ, zero, suc, ◌+◌, ◌≤◌}
use native.Mathlib.Omega.{arith}
use mir.Val.{bool_byte}
use Rattle.seq.specs.Below.{all_below}
use Rattle.seq.proofs.BelowLaws.{all_more}
use Rattle.model.specs.declared.State.{State}
use Rattle.rules.specs.Sound.{sound_numbers, sound_slot, sound_pages, sound_row, sound_holding, sound_pins, sound_borders, sound_order, sound}
use Rattle.sound.specs.Inner.Tests.{lengths_test, in_range, place_taken}
use Rattle.sound.proofs.PageLaws.{pages_apart}

pub and_true : (a : Bool) → a && true ≡ a
and_true true = refl
and_true false = refl

pub and_false : (a : Bool) → a && false ≡ false
and_false true = refl
and_false false = refl

pub or_true : (a : Bool) → a || true ≡ true
or_true true = refl
or_true false = refl

pub or_false : (a : Bool) → a || false ≡ a
or_false true = refl
or_false false = refl

pub and_assoc : (a b c : Bool) → a && (b && c) ≡ a && b && c
and_assoc true b c = refl
and_assoc false b c = refl

pub ruleset joins = (and_true, and_false, or_true, or_false, and_assoc)

-- two tests of each number below n
pub all_both : (p q : ℕ → Bool) (n : ℕ) → all_below n (λ i. p i && q i) ≡ all_below n p && all_below n q
unfolding all_below
all_both p q zero = refl
all_both p q (suc n) = rw (all_both p q n) (go (all_below n p) (all_below n q) (p n) (q n))
  where
    go : (a b c d : Bool) → a && b && (c && d) ≡ a && c && (b && d)
    go true b true d = refl
    go true true false d = refl
    go true false false d = refl
    go false b c d = refl

-- one turn of a loop that returns where a test fails
pub all_next : (p : ℕ → Bool) (n : ℕ) → all_below n p ≡ true → p n ≡ true → all_below (n + 1) p ≡ true
all_next p n e f = rw (all_more p n, e, f)

-- a test as a number
pub byte_is : (b : Bool) → bool_byte b ≡ cond b 1 0
byte_is true = refl
byte_is false = refl

pub byte_at_most : (b : Bool) (n : ℕ) → n ≡ bool_byte b → n ≤ 1
byte_at_most true n e = omega arith
byte_at_most false n e = omega arith

pages_joined : (s : State) → sound_numbers s && all_below 64 (sound_slot s) && all_below 64 (λ slot. not (place_taken s.slots slot)) ≡ sound_numbers s && all_below 64 (sound_slot s) && sound_pages s
pages_joined s = go (sound_numbers s)
  where
    go : (a : Bool) → a && all_below 64 (sound_slot s) && all_below 64 (λ slot. not (place_taken s.slots slot)) ≡ a && all_below 64 (sound_slot s) && sound_pages s
    go true = pages_apart s
    go false = refl

-- the lengths and the ranges
pub numbers_test : (s : State) → lengths_test s.rows s.slots s.holdings s.places && in_range s.size s.delay s.clock ≡ sound_numbers s
unfolding lengths_test in_range sound_numbers
numbers_test s = simp and_assoc

-- a state whose numbers are out of range
pub out_of_range : (s : State) → in_range s.size s.delay s.clock ≡ false → false ≡ sound s
unfolding sound
out_of_range s e = rw (← numbers_test s, e) (simp joins)

-- the whole test
pub sound_test : (s : State) → lengths_test s.rows s.slots s.holdings s.places && in_range s.size s.delay s.clock && all_below 64 (sound_slot s) && all_below 64 (λ slot. not (place_taken s.slots slot)) && all_below 32 (sound_row s)
    && all_below 64 (λ slot. all_below 32 (sound_holding s slot) && sound_pins s slot) && sound_borders s && all_below 4 (sound_order s) ≡ sound s
unfolding sound
sound_test s = rw (numbers_test s, pages_joined s, all_both (λ slot. all_below 32 (sound_holding s slot)) (sound_pins s) 64) (simp and_assoc)
