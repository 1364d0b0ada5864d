-- For the code; above and beside are proved equal to held_above and held_at_own_level, proofs/BestLaws.antt: the ranks of all rows, the holders of a slot, and its summary for a requester.
use Rattle.std.specs.Prelude.{◌≡◌, Bool, false, cond, ◌&&◌, ◌||◌, not, List, ℕ, ◌<◌, max, ltb, eqb, get_or, length, replicate, Option, Some, None}
use Rattle.seq.specs.Below.{any_below, pick_below, at_found}
use Rattle.seq.specs.Each.{each, each_below}
use Rattle.seq.specs.declared.Found.{Found}
use Rattle.seq.specs.declared.Found.TheVariants.{At, Nowhere}
use Rattle.model.specs.declared.Holding.{Holding}
use Rattle.model.specs.declared.Rank.{Rank}
use Rattle.model.specs.declared.Row.{Row}
use Rattle.model.specs.declared.State.{State}
use Rattle.model.specs.Parties.{level_of, rank_of, better}
use Rattle.model.specs.State.{free_row, empty_slot, slot_at, holding_at}
use Rattle.model.specs.Words.{is_held, is_pin, holds, pins, outranks}
use Rattle.choice.specs.declared.Holders.{Holders}
use Rattle.choice.specs.declared.Summary.{Summary}

-- ---- the ranks of all rows
abbrev pub no_rank : Rank
no_rank = record { level = 0; deadline = 0; place = 0 }

abbrev pub rank_in : List Row → List ℕ → ℕ → Rank
rank_in rows places row = rank_of row (get_or rows row free_row).deadline (get_or places row 0)

unfoldable pub ranks_of : List Row → List ℕ → List Rank
ranks_of rows places = each (λ row _. rank_in rows places row) (replicate 32 no_rank)

-- ---- the holders of a slot among the rows below n
-- the latest touch by those of a level
unfoldable pub latest_below : State → ℕ → ℕ → ℕ → ℕ
latest_below s level slot n =
    at_found
    (pick_below n (λ row. eqb (level_of row) level && holds s slot row) (λ row other. ltb (holding_at s slot other).touch (holding_at s slot row).touch))
    (λ row. (holding_at s slot row).touch)
    0

-- a row of a level pins the slot
unfoldable pub pinned_below : State → ℕ → ℕ → ℕ → Bool
pinned_below s level slot n = any_below n (λ row. eqb (level_of row) level && pins s slot row)

-- what they are, by the search for the best of them
abbrev pub held_by : State → ℕ → ℕ → ℕ → Holders
held_by s slot n best = record {
  best = best;
  rank = rank_in s.rows s.places best;
  latest = latest_below s (level_of best) slot n;
  pinned = pinned_below s (level_of best) slot n;
}

abbrev pub holders_at : State → ℕ → ℕ → Found → Option Holders
holders_at s slot n Nowhere = None
holders_at s slot n (At best) = Some (held_by s slot n best)

unfoldable pub holders_below : State → ℕ → ℕ → Option Holders
holders_below s slot n = holders_at s slot n (pick_below n (holds s slot) (outranks s))

-- one row more, of the best holder's level
abbrev pub joined_level : Holders → ℕ → Rank → Holding → Holders
joined_level w row rank h = record {
  best = cond (better rank w.rank) row w.best;
  rank = cond (better rank w.rank) rank w.rank;
  latest = max w.latest h.touch;
  pinned = w.pinned || is_pin h.pin;
}

-- one row more, of the rank and with the holding given; it is above all rows before
abbrev pub holder_more : Option Holders → ℕ → Rank → Holding → Holders
holder_more None row rank h = record { best = row; rank = rank; latest = h.touch; pinned = is_pin h.pin }
holder_more (Some w) row rank h = cond (eqb rank.level w.rank.level) (joined_level w row rank h) w

abbrev pub holders_with : Option Holders → ℕ → Rank → Holding → Option Holders
holders_with holders row rank h = cond (is_held h.pin) (Some (holder_more holders row rank h)) holders

-- ---- of a slot's holders for a requester of a rank
-- held only above the requester's level
abbrev pub above : Rank → Holders → Bool
above requester w = ltb requester.level w.rank.level

-- seen holders all of the requester's level, none better than the requester
abbrev pub beside : Rank → Holders → Bool
beside requester w = eqb w.rank.level requester.level && not (better w.rank requester)

-- ---- a slot's summary for a requester
abbrev pub summary_of : State → ℕ → ℕ → Summary
summary_of s requester slot = record { slot = slot_at s slot; holders = holders_below s slot 32; own = pins s slot requester }

abbrev pub no_summary : Summary
no_summary = record { slot = empty_slot; holders = None; own = false }

-- those of the slots started with
unfoldable pub summaries_in : State → ℕ → List Summary
summaries_in s requester = each_below s.size (λ slot _. summary_of s requester slot) (replicate 64 no_summary)

-- a list of 64 that begins with those of the slots below n
abbrev pub SummariesOf : State → ℕ → ℕ → List Summary → Type 0
SummariesOf s requester n m = (length m ≡ 64) × ((slot : ℕ) → slot < n → get_or m slot no_summary ≡ summary_of s requester slot)
