-- For the code; what granting makes of these is proved equal to granted, proofs/ReplyLaws.antt: a row, a slot and a holding after a request that is granted, and its answer.
use Rattle.std.specs.Prelude.{false, cond, ℕ, leb, Option}
use Rattle.model.specs.declared.Mode.{Mode}
use Rattle.model.specs.declared.Condition.TheVariants.{Idle, Fetching}
use Rattle.model.specs.declared.Content.TheVariants.{Filled}
use Rattle.model.specs.declared.Row.{Row}
use Rattle.model.specs.declared.Slot.{Slot}
use Rattle.model.specs.declared.Holding.{Holding}
use Rattle.model.specs.declared.Answer.{Answer}
use Rattle.model.specs.declared.Answer.TheVariants.{Ready, Fetch}
use Rattle.model.specs.Words.{is_held, pin_of}
use Rattle.rules.specs.Calls.{held_with, with_lowest}

-- the holding of the row on the slot
unfoldable pub held_now : Holding → Mode → ℕ → ℕ → Holding
held_now own mode arrival clock = held_with (is_held own.pin) own (pin_of mode) arrival clock

-- a slot newly given to a page
abbrev pub filled_slot : ℕ → ℕ → ℕ → ℕ → Slot
filled_slot page arrival level clock = record { content = Filled page arrival false level; touch = clock }

unfoldable pub touched_slot : Slot → ℕ → ℕ → Slot
touched_slot x level clock = record { content = with_lowest level x.content; touch = clock }

unfoldable pub granted_row : Row → ℕ → ℕ → Row
granted_row x arrival clock = record { condition = cond (leb arrival clock) Idle (Fetching arrival); deadline = x.deadline }

unfoldable pub granted_answer : ℕ → ℕ → ℕ → Option ℕ → Answer
granted_answer slot arrival clock back = cond (leb arrival clock) (Ready slot back) (Fetch arrival slot back)
