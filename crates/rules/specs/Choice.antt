-- Document 01, "Choosing a slot": steps a to g for a requesting row, in its order and words.
use Rattle.std.specs.Prelude.{Bool, true, false, cond, ◌&&◌, ◌||◌, not, ℕ, leb, ltb, eqb}
use Rattle.seq.specs.Below.{any_below, all_below, pick_below, first_below, at_found}
use Rattle.seq.specs.Order.{lex_less}
use Rattle.seq.specs.declared.Found.{Found}
use Rattle.seq.specs.declared.Found.TheVariants.{At, Nowhere}
use Rattle.model.specs.declared.State.{State}
use Rattle.model.specs.Parties.{level_of}
use Rattle.model.specs.State.{slot_at}
use Rattle.model.specs.Words.{is_filled, page_in, dirty_in, lowest_in, holds, pins, seen_holder, seen, dormant, outranks, best_holder, latest_touch}

-- what the first search found, or else what the second did
abbrev pub or_else : Found → Found → Found
or_else Nowhere other = other
or_else (At slot) other = At slot

-- a. empty, lowest slot number
unfoldable pub step_a : State → Found
step_a s = first_below s.size (λ slot. not (is_filled (slot_at s slot).content))

-- b. dormant: lowest level first, clean before dirty, least touch, slot number
abbrev pub dirty_number : Bool → ℕ
dirty_number false = 0
dirty_number true = 1

unfoldable pub before_dormant : State → ℕ → ℕ → Bool
before_dormant s slot other =
    lex_less (lowest_in (slot_at s slot).content) (lowest_in (slot_at s other).content)
    (lex_less (dirty_number (dirty_in (slot_at s slot).content)) (dirty_number (dirty_in (slot_at s other).content))
    (ltb (slot_at s slot).touch (slot_at s other).touch))

unfoldable pub step_b : State → Found
step_b s = pick_below s.size (dormant s) (before_dormant s)

-- the level of a slot's best holder
unfoldable pub holder_level : State → ℕ → ℕ
holder_level s slot = at_found (best_holder s slot) level_of 0

-- held only above the requester's level
unfoldable pub held_above : State → ℕ → ℕ → Bool
held_above s row slot = any_below 32 (holds s slot) && not (seen s (level_of row) slot)

-- M: the highest level of a best holder among such slots
unfoldable pub highest_level : State → ℕ → ℕ
highest_level s row = at_found (pick_below s.size (held_above s row) (λ slot other. ltb (holder_level s other) (holder_level s slot))) (holder_level s) 0

-- a row of the level pins the slot
unfoldable pub pinned_at : State → ℕ → ℕ → Bool
pinned_at s level slot = any_below 32 (λ row. eqb (level_of row) level && pins s slot row)

-- c. held only above the requester's level, the level M of its best holder being the highest number found among such slots,
-- no pin by a row of level M; d. the same M, pinned by level M
unfoldable pub in_c : State → ℕ → ℕ → Bool
in_c s row slot = held_above s row slot && eqb (holder_level s slot) (highest_level s row) && not (pinned_at s (highest_level s row) slot)

unfoldable pub in_d : State → ℕ → ℕ → Bool
in_d s row slot = held_above s row slot && eqb (holder_level s slot) (highest_level s row) && pinned_at s (highest_level s row) slot

-- seen holders all of the requester's level, none better than the requester
unfoldable pub held_at_own_level : State → ℕ → ℕ → Bool
held_at_own_level s row slot =
    seen s (level_of row) slot
    && all_below 32 (λ other. not (seen_holder s (level_of row) slot other) || (eqb (level_of other) (level_of row) && not (outranks s other row)))

-- a row of the level or a lower one pins the slot
unfoldable pub seen_pin : State → ℕ → ℕ → Bool
seen_pin s level slot = any_below 32 (λ row. leb (level_of row) level && pins s slot row)

-- e. held so, with no seen pin; f. held so, with seen pins, none the requester's
unfoldable pub in_e : State → ℕ → ℕ → Bool
in_e s row slot = held_at_own_level s row slot && not (seen_pin s (level_of row) slot)

unfoldable pub in_f : State → ℕ → ℕ → Bool
in_f s row slot = held_at_own_level s row slot && seen_pin s (level_of row) slot && not (pins s slot row)

-- several in c, d, e or f: the one whose best holder has the worst priority,
-- then the earliest latest touch by holders of that best holder's level, then smaller page
abbrev pub worse : State → Found → Found → Bool → Bool
worse s Nowhere other next = next
worse s (At row) Nowhere next = next
worse s (At row) (At other) next = cond (eqb row other) next (outranks s other row)

abbrev pub touch_of : State → ℕ → ℕ
touch_of s slot = latest_touch s (holder_level s slot) slot

abbrev pub tie_of : State → ℕ → ℕ
tie_of s slot = page_in (slot_at s slot).content

unfoldable pub before_held : State → ℕ → ℕ → Bool
before_held s slot other =
    worse s (best_holder s slot) (best_holder s other)
    (lex_less (touch_of s slot) (touch_of s other)
    (ltb (tie_of s slot) (tie_of s other)))

unfoldable pub step_held : State → (ℕ → Bool) → Found
step_held s some = pick_below s.size some (before_held s)

-- the first step that applies; g. none
unfoldable pub chosen : State → ℕ → Found
chosen s row =
    or_else (step_a s)
    (or_else (step_b s)
    (or_else (step_held s (in_c s row))
    (or_else (step_held s (in_d s row))
    (or_else (step_held s (in_e s row))
    (step_held s (in_f s row))))))
