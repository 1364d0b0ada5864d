-- What it says of a call and its numbers that no refusal applies; what holds of a call, refused or not.
use mathlib.Core.Path.{◌≡◌, refl}
use mathlib.Core.Bool.{Bool, true, false, ◌&&◌, not}
use mathlib.Core.List.{List, [], ◌∷◌}
use Prim.Native.Nat.{ℕ, zero, suc, ◌<◌, ◌≤◌}
use native.Mathlib.Omega.{arith}
use borrow.Author.Tests.{ltb-false, leb-false, leb-true, not-false}
use lib.Dec.{leb, ltb}
use Rattle.seq.proofs.Tests.{true_false, and_true}
use Rattle.model.specs.declared.Condition.{Condition}
use Rattle.model.specs.declared.Condition.TheVariants.{Free, Idle, Fetching, Waiting, Killed}
use Rattle.model.specs.declared.Answer.TheVariants.{Refused}
use Rattle.model.specs.declared.Outcome.{Outcome}
use Rattle.model.specs.declared.Borders.{Borders}
use Rattle.model.specs.declared.State.{State}
use Rattle.model.specs.Parties.{row_of, level_of, mode_of, are_borders, may_access, last_clock, is_past}
use Rattle.model.specs.Words.{is_free}
use Rattle.rules.specs.Calls.{unless}
use Rattle.rules.specs.Refusals.{first_to_apply, is_killed, is_busy, is_read, condition_at, pins_page, start_refusal, begin_refusal, request_refusal, unpin_refusal, end_refusal, tick_refusal, look_refusal, borders_refusal, StartTaken}
use Rattle.rules.proofs.Facts.SoundFacts.{is_free_lem}

-- what holds of a refused call and of an accepted one
pub unless_is : (P : Outcome → Type 0) (n : ℕ) (s : State) (o : Outcome) → ((k : ℕ) → P (record { state = s; answer = Refused (suc k) })) → (n ≡ 0 → P o) → P (unless n s o)
unless_is P zero s o f g = g refl
unless_is P (suc k) s o f g = f k

abbrev NoneApply : List (ℕ × Bool) → Type 0
NoneApply [] = Unit
NoneApply (r ∷ rs) = (r.1 ≡ false) × NoneApply rs

abbrev Numbered : List (ℕ × Bool) → Type 0
Numbered [] = Unit
Numbered (r ∷ rs) = (1 ≤ r.0) × Numbered rs

none_apply : (rs : List (ℕ × Bool)) → Numbered rs → first_to_apply rs ≡ 0 → NoneApply rs
none_apply [] n e = tt
none_apply (r ∷ rs) n e = go r.1 refl (none_apply rs n.1)
  where
    go : (b : Bool) → r.1 ≡ b → (first_to_apply rs ≡ 0 → NoneApply rs) → (r.1 ≡ false) × NoneApply rs
    go true q f = absurd (let z = rw q at e in omega (arith, n.0))
    go false q f = (q, f (rw q at e))

is_idle_lem : (x : Condition) → is_free x ≡ false → is_killed x ≡ false → is_busy x ≡ false → x ≡ Idle
is_idle_lem Free e f g = true_false e
is_idle_lem Idle e f g = refl
is_idle_lem (Fetching due) e f g = true_false g
is_idle_lem (Waiting page mode) e f g = true_false g
is_idle_lem (Killed cause) e f g = true_false f

-- allowed, where neither refusal 13 nor 14 applies
no_breach : (reading may : Bool) → reading && not may ≡ false → not reading && not may ≡ false → may ≡ true
no_breach true may e f = not-false may e
no_breach false may e f = not-false may f

-- the row that an accepted call names
pub record Named (level number : ℕ) : Type 0 where
  pub level_is : level ≤ 3
  pub number_is : number ≤ 7
  pub row_is : row_of level number < 32
  pub own_level : level_of (row_of level number) ≡ level

named : (level number : ℕ) → ltb 3 level ≡ false → ltb 7 number ≡ false → Named level number
named level number e f =
    let a = ltb-false 3 level e in
    let b = ltb-false 7 number f in
    record { level_is = a; number_is = b; row_is = omega arith; own_level = omega arith }

pub start_taken : (slots delay : ℕ) → start_refusal slots delay ≡ 0 → StartTaken slots delay
unfolding start_refusal
start_taken slots delay e =
    let n = none_apply ((2, not (leb 1 slots && leb slots 64)) ∷ (3, not (leb 1 delay && leb delay 255)) ∷ []) (omega arith) e in
    let a = and_true (leb 1 slots) (leb slots 64) (not-false (leb 1 slots && leb slots 64) n.0) in
    let b = and_true (leb 1 delay) (leb delay 255) (not-false (leb 1 delay && leb delay 255) n.1.0) in
    record {
      slots_least = leb-true 1 slots a.0;
      slots_most = leb-true slots 64 a.1;
      delay_least = leb-true 1 delay b.0;
      delay_most = leb-true delay 255 b.1;
    }

pub record BeginTaken (s : State) (level number deadline : ℕ) : Type 0 where
  pub names : Named level number
  pub free : condition_at s level number ≡ Free
  pub in_time_lem : is_past s.clock deadline ≡ false

pub begin_taken : (s : State) (level number deadline : ℕ) → begin_refusal s level number deadline ≡ 0 → BeginTaken s level number deadline
unfolding begin_refusal
begin_taken s level number deadline e =
    let n = none_apply (
    (4, ltb 3 level) ∷ (5, ltb 7 number) ∷ (8, not (is_free (condition_at s level number))) ∷ (12, is_past s.clock deadline) ∷ []) (omega arith) e in
    record {
      names = named level number n.0 n.1.0;
      free = is_free_lem (condition_at s level number) (not-false (is_free (condition_at s level number)) n.1.1.0);
      in_time_lem = n.1.1.1.0;
    }

pub record RequestTaken (s : State) (level number page mode : ℕ) : Type 0 where
  pub names : Named level number
  pub page_is : page ≤ 4095
  pub idle : condition_at s level number ≡ Idle
  pub allowed : may_access s.borders (level_of (row_of level number)) page (mode_of mode) ≡ true

pub request_taken : (s : State) (level number page mode : ℕ) → request_refusal s level number page mode ≡ 0 → RequestTaken s level number page mode
unfolding request_refusal
request_taken s level number page mode e =
    let x = condition_at s level number in
    let reading = is_read (mode_of mode) in
    let may = may_access s.borders level page (mode_of mode) in
    let n = none_apply (
    (4, ltb 3 level) ∷ (5, ltb 7 number) ∷ (6, ltb 4095 page) ∷ (7, ltb 1 mode) ∷ (9, is_free x) ∷ (10, is_killed x) ∷ (11, is_busy x)
    ∷ (13, reading && not may) ∷ (14, not reading && not may) ∷ []) (omega arith) e in
    let r = named level number n.0 n.1.0 in
    let busy = n.1.1.1.1 in
    record {
      names = r;
      page_is = ltb-false 4095 page n.1.1.0;
      idle = is_idle_lem x busy.0 busy.1.0 busy.1.1.0;
      allowed = rw r.own_level (no_breach reading may busy.1.1.1.0 busy.1.1.1.1.0);
    }

pub record UnpinTaken (s : State) (level number page : ℕ) : Type 0 where
  pub names : Named level number
  pub idle : condition_at s level number ≡ Idle
  pub pinned : pins_page s (row_of level number) page ≡ true

pub unpin_taken : (s : State) (level number page : ℕ) → unpin_refusal s level number page ≡ 0 → UnpinTaken s level number page
unfolding unpin_refusal
unpin_taken s level number page e =
    let x = condition_at s level number in
    let n = none_apply (
    (4, ltb 3 level) ∷ (5, ltb 7 number) ∷ (6, ltb 4095 page) ∷ (9, is_free x) ∷ (10, is_killed x) ∷ (11, is_busy x)
    ∷ (15, not (pins_page s (row_of level number) page)) ∷ []) (omega arith) e in
    let busy = n.1.1.1 in
    record {
      names = named level number n.0 n.1.0;
      idle = is_idle_lem x busy.0 busy.1.0 busy.1.1.0;
      pinned = not-false (pins_page s (row_of level number) page) busy.1.1.1.0;
    }

pub record EndTaken (s : State) (level number : ℕ) : Type 0 where
  pub names : Named level number
  pub taken : is_free (condition_at s level number) ≡ false

pub end_taken : (s : State) (level number : ℕ) → end_refusal s level number ≡ 0 → EndTaken s level number
unfolding end_refusal
end_taken s level number e =
    let n = none_apply ((4, ltb 3 level) ∷ (5, ltb 7 number) ∷ (9, is_free (condition_at s level number)) ∷ []) (omega arith) e in
    record { names = named level number n.0 n.1.0; taken = n.1.1.0 }

pub look_taken : (level number : ℕ) → look_refusal level number ≡ 0 → Named level number
unfolding look_refusal
look_taken level number e =
    let n = none_apply ((4, ltb 3 level) ∷ (5, ltb 7 number) ∷ []) (omega arith) e in
    named level number n.0 n.1.0

pub record TickTaken (s : State) (room : ℕ) : Type 0 where
  pub roomy : 256 ≤ room
  pub early : s.clock < last_clock

pub tick_taken : (s : State) (room : ℕ) → tick_refusal s room ≡ 0 → TickTaken s room
unfolding tick_refusal
tick_taken s room e =
    let n = none_apply ((21, ltb room 256) ∷ (17, leb last_clock s.clock) ∷ []) (omega arith) e in
    record { roomy = ltb-false room 256 n.0; early = leb-false last_clock s.clock n.1.0 }

pub record BordersTaken (s : State) (b : Borders) : Type 0 where
  pub valid : are_borders b ≡ true
  pub unbegun : s.begun ≡ false

pub borders_taken : (s : State) (b : Borders) → borders_refusal s b ≡ 0 → BordersTaken s b
unfolding borders_refusal
borders_taken s b e =
    let n = none_apply ((19, not (are_borders b)) ∷ (20, s.begun) ∷ []) (omega arith) e in
    record { valid = not-false (are_borders b) n.0; unbegun = n.1.0 }
