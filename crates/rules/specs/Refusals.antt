-- Document 01, "Refusals", and document 02, T-01, T-02 and T-04: of those that apply to a call the first in the documents' order is given, and 0 stands for none. Refusals 1 and 18 are found before a state is there.
use Rattle.std.specs.Prelude.{Bool, true, false, cond, ◌&&◌, not, List, [], ◌∷◌, ℕ, ◌≤◌, leb, ltb}
use Rattle.seq.specs.Below.{at_found}
use Rattle.model.specs.declared.Condition.{Condition}
use Rattle.model.specs.declared.Condition.TheVariants.{Free, Idle, Fetching, Waiting, Killed}
use Rattle.model.specs.declared.Mode.{Mode}
use Rattle.model.specs.declared.Mode.TheVariants.{Read, Write}
use Rattle.model.specs.declared.Borders.{Borders}
use Rattle.model.specs.declared.State.{State}
use Rattle.model.specs.Parties.{row_of, mode_of, are_borders, may_access, last_clock, is_past}
use Rattle.model.specs.State.{row_at}
use Rattle.model.specs.Words.{is_free, pins, slot_of}

-- the refusals of a call in the documents' order, each with whether it applies: the first that does
abbrev pub first_to_apply : List (ℕ × Bool) → ℕ
first_to_apply [] = 0
first_to_apply (r ∷ rs) = cond r.1 r.0 (first_to_apply rs)

abbrev pub is_killed : Condition → Bool
is_killed Free = false
is_killed Idle = false
is_killed (Fetching due) = false
is_killed (Waiting page mode) = false
is_killed (Killed cause) = true

-- fetching or waiting
abbrev pub is_busy : Condition → Bool
is_busy Free = false
is_busy Idle = false
is_busy (Fetching due) = true
is_busy (Waiting page mode) = true
is_busy (Killed cause) = false

abbrev pub is_waiting : Condition → Bool
is_waiting Free = false
is_waiting Idle = false
is_waiting (Fetching due) = false
is_waiting (Waiting page mode) = true
is_waiting (Killed cause) = false

abbrev pub is_read : Mode → Bool
is_read Read = true
is_read Write = false

abbrev pub condition_at : State → ℕ → ℕ → Condition
condition_at s level number = (row_at s (row_of level number)).condition

-- the row pins the page
unfoldable pub pins_page : State → ℕ → ℕ → Bool
pins_page s row page = at_found (slot_of s page) (λ slot. pins s slot row) false

unfoldable pub start_refusal : ℕ → ℕ → ℕ
start_refusal slots delay =
    first_to_apply (
    (2, not (leb 1 slots && leb slots 64))
    ∷ (3, not (leb 1 delay && leb delay 255))
    ∷ [])

-- the numbers of a start that is accepted
pub record StartTaken (slots delay : ℕ) : Type 0 where
  pub slots_least : 1 ≤ slots
  pub slots_most : slots ≤ 64
  pub delay_least : 1 ≤ delay
  pub delay_most : delay ≤ 255

unfoldable pub begin_refusal : State → ℕ → ℕ → ℕ → ℕ
begin_refusal s level number deadline =
    first_to_apply (
    (4, ltb 3 level)
    ∷ (5, ltb 7 number)
    ∷ (8, not (is_free (condition_at s level number)))
    ∷ (12, is_past s.clock deadline)
    ∷ [])

unfoldable pub request_refusal : State → ℕ → ℕ → ℕ → ℕ → ℕ
request_refusal s level number page mode =
    first_to_apply (
    (4, ltb 3 level)
    ∷ (5, ltb 7 number)
    ∷ (6, ltb 4095 page)
    ∷ (7, ltb 1 mode)
    ∷ (9, is_free (condition_at s level number))
    ∷ (10, is_killed (condition_at s level number))
    ∷ (11, is_busy (condition_at s level number))
    ∷ (13, is_read (mode_of mode) && not (may_access s.borders level page (mode_of mode)))
    ∷ (14, not (is_read (mode_of mode)) && not (may_access s.borders level page (mode_of mode)))
    ∷ [])

unfoldable pub unpin_refusal : State → ℕ → ℕ → ℕ → ℕ
unpin_refusal s level number page =
    first_to_apply (
    (4, ltb 3 level)
    ∷ (5, ltb 7 number)
    ∷ (6, ltb 4095 page)
    ∷ (9, is_free (condition_at s level number))
    ∷ (10, is_killed (condition_at s level number))
    ∷ (11, is_busy (condition_at s level number))
    ∷ (15, not (pins_page s (row_of level number) page))
    ∷ [])

unfoldable pub end_refusal : State → ℕ → ℕ → ℕ
end_refusal s level number =
    first_to_apply (
    (4, ltb 3 level)
    ∷ (5, ltb 7 number)
    ∷ (9, is_free (condition_at s level number))
    ∷ [])

-- 21, list under 256 bytes, comes between 1 and 17
unfoldable pub tick_refusal : State → ℕ → ℕ
tick_refusal s room = first_to_apply ((21, ltb room 256) ∷ (17, leb last_clock s.clock) ∷ [])

unfoldable pub look_refusal : ℕ → ℕ → ℕ
look_refusal level number = first_to_apply ((4, ltb 3 level) ∷ (5, ltb 7 number) ∷ [])

unfoldable pub view_refusal : ℕ → ℕ → ℕ
view_refusal level page = first_to_apply ((4, ltb 3 level) ∷ (6, ltb 4095 page) ∷ [])

unfoldable pub count_refusal : ℕ → ℕ
count_refusal level = first_to_apply ((4, ltb 3 level) ∷ [])

-- borders that fall or exceed 4,096; a row has begun since start
unfoldable pub borders_refusal : State → Borders → ℕ
borders_refusal s b = first_to_apply ((19, not (are_borders b)) ∷ (20, s.begun) ∷ [])
