-- For the code; the replies are proved equal to served, proofs/ServeLaws.antt: what steps 1 to 4 come to as a change of the state and an answer.
use Rattle.std.specs.Prelude.{Option, Some, None, false, cond, Bool, List, ℕ, get_or, set, replicate}
use Rattle.seq.specs.Each.{each}
use Rattle.model.specs.declared.Mode.{Mode}
use Rattle.model.specs.declared.Cause.TheVariants.{Taken}
use Rattle.model.specs.declared.Condition.TheVariants.{Waiting}
use Rattle.model.specs.declared.Row.{Row}
use Rattle.model.specs.declared.Slot.{Slot}
use Rattle.model.specs.declared.Holding.{Holding}
use Rattle.model.specs.declared.Answer.TheVariants.{Wait}
use Rattle.model.specs.declared.Setting.TheVariants.{Left}
use Rattle.model.specs.declared.Change.{Change}
use Rattle.model.specs.declared.Reply.{Reply}
use Rattle.model.specs.declared.State.{State}
use Rattle.model.specs.Parties.{level_of}
use Rattle.model.specs.State.{free_row, empty_slot, empty_holding}
use Rattle.model.specs.Words.{arrival_in}
use Rattle.model.specs.Changes.{released, killed_row}
use Rattle.model.specs.Inner.Changed.{marked, holdings_dropped}
use Rattle.rules.specs.Calls.{write_back}
use Rattle.choice.specs.Inner.Summary.{ranks_of}
use Rattle.serve.specs.declared.Plan.{Plan}
use Rattle.serve.specs.Inner.Granted.{held_now, filled_slot, touched_slot, granted_row, granted_answer}
use Rattle.serve.specs.Inner.SlotHoldings.{holdings_on, seen_in, least_in, sees_dormant_in, pinning, conflicting, marks_of, must_wait_in}

-- a wait alters only the row's own condition
unfoldable pub wait_reply : State → ℕ → ℕ → Mode → Reply
wait_reply s row page mode = record {
  change =
      holdings_dropped s.clock (set s.rows row (record (get_or s.rows row free_row) { condition = Waiting page mode })) s.slots
      (replicate 32 false) Left;
  answer = Wait;
}

-- steps 1 to 3 in the slot that has the page, from the slot, its 32 holdings, the rows and their places; none where the row waits
unfoldable pub planned : List Holding → List Row → List ℕ → Slot → ℕ → Mode → ℕ → Option Plan
planned held rows places x row mode due =
    let marks = marks_of held (conflicting row mode) in
    cond (seen_in held (level_of row))
    (cond (must_wait_in marks (ranks_of rows places) row) None (Some (record { marks = marks; arrival = least_in held (level_of row) })))
    (cond (sees_dormant_in held x (level_of row)) (Some (record { marks = replicate 32 false; arrival = arrival_in x.content }))
    (Some (record { marks = marks; arrival = due })))

-- the marked rows are killed as taken and lose all their holdings, those of the slot among them
unfoldable pub taken : State → List Bool → ℕ → List Holding → Change
taken s gone slot held = record {
  clock = s.clock;
  rows = each (λ row x. cond (marked gone row) (killed_row Taken) x) s.rows;
  slots = (released (marked gone) s).slots;
  gone = gone;
  slot = slot;
  held = each (λ row h. cond (marked gone row) empty_holding h) held;
  setting = Left;
}

-- the holders of the slot lose it, and it is given to the page
unfoldable pub slot_filled : Change → ℕ → ℕ → ℕ → Change
slot_filled c page due level = record c { slots = set c.slots c.slot (filled_slot page due level c.clock); held = replicate 32 empty_holding }

-- step 4
unfoldable pub granting : Change → ℕ → Mode → ℕ → Option ℕ → Reply
granting c row mode arrival back = record {
  change = record c {
    rows = set c.rows row (granted_row (get_or c.rows row free_row) arrival c.clock);
    slots = set c.slots c.slot (touched_slot (get_or c.slots c.slot empty_slot) (level_of row) c.clock);
    held = set c.held row (held_now (get_or c.held row empty_holding) mode arrival c.clock);
  };
  answer = granted_answer c.slot arrival c.clock back;
}

-- the page enters a chosen slot: rows that pin it are killed, and other holders lose it
unfoldable pub entered : State → ℕ → ℕ → ℕ → Mode → ℕ → Reply
entered s slot row page mode due =
    let held = holdings_on s slot in
    let c = taken s (marks_of held pinning) slot held in
    granting (slot_filled c page due (level_of row)) row mode due (write_back (get_or c.slots slot empty_slot))
