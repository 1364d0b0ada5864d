-- For the code; seen_in, least_in, sees_dormant_in and must_wait_in are proved equal to seen, least_arrival, sees_dormant and must_wait, proofs/SlotLaws.antt: the 32 holdings of one slot, by row, and what is read of them.
use Rattle.std.specs.Prelude.{◌≡◌, Bool, false, cond, ◌&&◌, not, List, ℕ, ◌<◌, leb, ltb, eqb, get_or, replicate}
use Rattle.std.specs.Fn.{Shared}
use Rattle.seq.specs.Below.{any_below, pick_below, at_found}
use Rattle.seq.specs.Each.{each}
use Rattle.model.specs.declared.Mode.{Mode}
use Rattle.model.specs.declared.Rank.{Rank}
use Rattle.model.specs.declared.Slot.{Slot}
use Rattle.model.specs.declared.Holding.{Holding}
use Rattle.model.specs.declared.State.{State}
use Rattle.model.specs.Parties.{level_of, better}
use Rattle.model.specs.State.{empty_holding, holding_at}
use Rattle.model.specs.Words.{is_filled, is_held, is_pin, pin_of, conflict}
use Rattle.model.specs.Changes.{written, dirtied}
use Rattle.model.specs.Inner.Changed.{marked}
unfoldable pub use Rattle.model.specs.Inner.Holdings.{holdings_on}
use Rattle.choice.specs.Inner.Summary.{no_rank}

abbrev pub held_by : List Holding → ℕ → Holding
held_by held row = get_or held row empty_holding

-- the row is of the level or a lower one, and has a holding
unfoldable pub seen_test : ℕ → ℕ → Holding → Bool
seen_test level row h = leb (level_of row) level && is_held h.pin

-- the level sees the slot
unfoldable pub seen_in : List Holding → ℕ → Bool
seen_in held level = any_below 32 (λ row. seen_test level row (held_by held row))

-- the least arrival among the holdings that the level sees
unfoldable pub least_in : List Holding → ℕ → ℕ
least_in held level =
    let arrival : ℕ → ℕ = λ row. (held_by held row).arrival in
    at_found (pick_below 32 (λ row. seen_test level row (held_by held row)) (λ row other. ltb (arrival row) (arrival other))) arrival 0

-- level 3 sees the slot's dormant page
unfoldable pub sees_dormant_in : List Holding → Slot → ℕ → Bool
sees_dormant_in held x level = eqb level 3 && (is_filled x.content && not (any_below 32 (λ row. is_held (held_by held row).pin)))

-- the rows that are killed: those with a pin; the other rows with a conflicting pin
abbrev pub pinning : ℕ → Holding → Bool
pinning other h = is_pin h.pin

abbrev pub conflicting : ℕ → Mode → ℕ → Holding → Bool
conflicting row mode other h = not (eqb other row) && conflict (pin_of mode) h.pin

-- each call of a test, at a row and its holding, answers p of them
abbrev pub Tests : {F : Type 0} → Shared F (ℕ × (Holding × Unit {0})) Bool → F → List Holding → (ℕ → Holding → Bool) → Type 0
Tests calls test held p = (row : ℕ) (r : Bool) → row < 32 → calls.post test (row, (held_by held row, tt)) r → r ≡ p row (held_by held row)

unfoldable pub marks_of : List Holding → (ℕ → Holding → Bool) → List Bool
marks_of held test = each (λ row _. test row (held_by held row)) (replicate 32 false)

-- a marked row is of better priority than the requester
unfoldable pub must_wait_in : List Bool → List Rank → ℕ → Bool
must_wait_in marks ranks row = any_below 32 (λ other. marked marks other && better (get_or ranks other no_rank) (get_or ranks row no_rank))

-- the slot, dirty where the row's holding had written the page
abbrev pub row_dirtied : State → ℕ → ℕ → Slot → Slot
row_dirtied s row slot x = cond (written s.clock (holding_at s slot row)) (dirtied x) x
