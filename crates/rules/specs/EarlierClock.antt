-- Document 02, T-07: what a call does to a state where the clock has another last tick, as it had before T-07, and which calls are made before that tick.
use Rattle.std.specs.Prelude.{◌≡◌, true, cond, [], ◌∷◌, ℕ, ◌+◌, ◌<◌, leb, ltb}
use Rattle.model.specs.declared.Answer.TheVariants.{Clock}
use Rattle.model.specs.declared.Call.{Call}
use Rattle.model.specs.declared.Outcome.{Outcome}
use Rattle.model.specs.declared.State.{State}
use Rattle.rules.specs.Calls.{unless, three_steps}
use Rattle.rules.specs.Content.{fields, is_tick}
use Rattle.rules.specs.Refusals.{first_to_apply}
use Rattle.rules.specs.Run.{outcome}
use Rattle.rules.specs.Tries.{all_tried}

-- refusal 17 comes at that last tick
unfoldable pub tick_refusal_until : ℕ → State → ℕ → ℕ
tick_refusal_until last s room = first_to_apply ((21, ltb room 256) ∷ (17, leb last s.clock) ∷ [])

unfoldable pub ticked_until : ℕ → State → ℕ → Outcome
ticked_until last s room =
    unless (tick_refusal_until last s room) s
    (record { state = (all_tried (three_steps s)).state; answer = Clock (s.clock + 1) })

-- every other call is as it is
unfoldable pub outcome_until : ℕ → State → Call → Outcome
outcome_until last s c = cond (is_tick c) (ticked_until last s (fields c).room) (outcome s c)

-- a tick is made before that last tick; any other call may be made at any time
abbrev pub MadeBefore : ℕ → State → Call → Type 0
MadeBefore last s c = is_tick c ≡ true → s.clock < last
