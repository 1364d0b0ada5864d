-- Two states alike for L refuse the same calls of a level up to L.
use mathlib.Core.Path.{◌≡◌, refl, sym, ◌∙◌, ap}
use mathlib.Core.Bool.{Bool, true, false}
use Prim.Native.Nat.{ℕ, ◌≤◌}
use native.Mathlib.Omega.{arith}
use borrow.Author.Tests.{ltb-false}
use lib.Dec.{ltb}
use Rattle.seq.specs.Below.{at_found}
use Rattle.seq.specs.declared.Found.{Found}
use Rattle.seq.specs.declared.Found.TheVariants.{At, Nowhere}
use Rattle.model.specs.declared.Condition.TheVariants.{Free}
use Rattle.model.specs.declared.Row.{Row}
use Rattle.model.specs.declared.State.{State}
use Rattle.model.specs.Parties.{row_of}
use Rattle.model.specs.State.{empty_holding, row_at, holding_at}
use Rattle.model.specs.Words.{is_pin, pins, slot_of}
use Rattle.rules.specs.Refusals.{condition_at, pins_page, begin_refusal, request_refusal, unpin_refusal, end_refusal, tick_refusal}
use Rattle.rules.specs.SoundFacts.{BordersSound}
use Rattle.rules.specs.Alike.{holding_on, Alike}

pub pins_on : (s : State) (row page : ℕ) → pins_page s row page ≡ is_pin (holding_on s page row).pin
unfolding pins_page holding_on
pins_on s row page = go (slot_of s page)
  where
    go : (f : Found) → at_found f (λ slot. pins s slot row) false ≡ is_pin (at_found f (λ slot. holding_at s slot row) empty_holding).pin
    go Nowhere = refl
    go (At i) = refl

module _ (L : ℕ) (s t : State) (alike : Alike L s t) where
  pub same_tick_refusal : (room : ℕ) → tick_refusal s room ≡ tick_refusal t room
  unfolding tick_refusal
  same_tick_refusal room = rw alike.clock

  module _ (two : L ≤ 2) (level number : ℕ) (low : level ≤ L) where
    pub own_row : number ≤ 7 → row_at s (row_of level number) ≡ row_at t (row_of level number)
    own_row h = alike.row (row_of level number) (omega arith) (omega arith)

    pub own_condition : number ≤ 7 → condition_at s level number ≡ condition_at t level number
    own_condition h = ap (λ (x : Row). x.condition) (own_row h)

    -- past the tests of level and number a call speaks of a row up to L
    by_row : (f : State → ℕ) → (ltb 7 number ≡ true → f s ≡ f t) → (number ≤ 7 → f s ≡ f t) → f s ≡ f t
    by_row f g h = go (ltb 7 number) refl
      where
        go : (b : Bool) → ltb 7 number ≡ b → f s ≡ f t
        go true e = g e
        go false e = h (ltb-false 7 number e)

    pub same_begin_refusal : (deadline : ℕ) → begin_refusal s level number deadline ≡ begin_refusal t level number deadline
    unfolding begin_refusal
    same_begin_refusal deadline = by_row (λ x. begin_refusal x level number deadline) (λ e. rw e) (λ h. rw (own_condition h, alike.clock))

    -- before a row has begun every row is free, and the borders are not asked
    pub same_request_refusal : BordersSound s → (s.begun ≡ true → s.borders ≡ t.borders) → (page mode : ℕ)
        → request_refusal s level number page mode ≡ request_refusal t level number page mode
    unfolding request_refusal
    same_request_refusal o agree page mode = by_row (λ x. request_refusal x level number page mode) (λ e. rw e) (λ h. go h s.begun refl)
      where
        go : number ≤ 7 → (b : Bool) → s.begun ≡ b → request_refusal s level number page mode ≡ request_refusal t level number page mode
        go h true e = rw (own_condition h, agree e)
        go h false e =
            let f : condition_at s level number ≡ Free = o.free e (row_of level number) (omega arith) in
            rw (f, sym (own_condition h) ∙ f)

    pub same_end_refusal : end_refusal s level number ≡ end_refusal t level number
    unfolding end_refusal
    same_end_refusal = by_row (λ x. end_refusal x level number) (λ e. rw e) (λ h. rw (own_condition h))

    pub same_unpin_refusal : (page : ℕ) → unpin_refusal s level number page ≡ unpin_refusal t level number page
    unfolding unpin_refusal
    same_unpin_refusal page = by_row (λ x. unpin_refusal x level number page) (λ e. rw e)
        (λ h. rw (pins_on s (row_of level number) page, pins_on t (row_of level number) page, alike.holding page (row_of level number) (omega arith) (omega arith), own_condition h))
