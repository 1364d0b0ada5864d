-- For the code; proved equal to is_late and strongest_pin, proofs/MarkLaws and proofs/SlotLaws: the late rows as marks, the strongest pin that a level sees on a slot; and a reply.
use Rattle.std.specs.Prelude.{Bool, false, ◌&&◌, List, ℕ, ltb, get_or, replicate}
use Rattle.seq.specs.Below.{pick_below, at_found}
use Rattle.seq.specs.Each.{each}
use Rattle.model.specs.declared.Answer.{Answer}
use Rattle.model.specs.declared.Reply.{Reply}
use Rattle.model.specs.declared.Slot.{Slot}
use Rattle.model.specs.declared.Holding.{Holding}
use Rattle.model.specs.declared.Pin.{Pin}
use Rattle.model.specs.declared.Pin.TheVariants.{Absent}
use Rattle.model.specs.declared.Row.{Row}
use Rattle.model.specs.declared.Setting.{Setting}
use Rattle.model.specs.Parties.{is_past}
use Rattle.model.specs.State.{free_row}
use Rattle.model.specs.Words.{is_live, strength}
use Rattle.model.specs.Inner.Changed.{holdings_dropped}
use Rattle.serve.specs.Inner.SlotHoldings.{seen_test, held_by}

-- a reply that changes no holding, with its setting
unfoldable pub setting_made : ℕ → List Row → List Slot → Setting → Answer → Reply
setting_made clock rows slots setting answer = record { change = holdings_dropped clock rows slots (replicate 32 false) setting; answer = answer }

-- a live row whose deadline has passed
abbrev pub late_row : ℕ → Row → Bool
late_row clock x = is_live x.condition && is_past clock x.deadline

-- the marks of the late rows
unfoldable pub late_marks : ℕ → List Row → List Bool
late_marks clock rows = each (λ row b. late_row clock (get_or rows row free_row)) (replicate 32 false)

-- the strongest pin that the level sees among a slot's holdings
unfoldable pub strongest_in : List Holding → ℕ → Pin
strongest_in held level =
    let pin : ℕ → Pin = λ row. (held_by held row).pin in
    at_found (pick_below 32 (λ row. seen_test level row (held_by held row)) (λ row other. ltb (strength (pin other)) (strength (pin row)))) pin Absent
