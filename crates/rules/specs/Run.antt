-- Document 01, "The calls" and "Two runs side by side", and document 02, T-02 and T-04: what a call does to a state, and what a list of calls is answered.
use Rattle.std.specs.Prelude.{Bool, false, cond, ◌||◌, List, [], ◌∷◌}
use Rattle.model.specs.declared.Call.{Call}
use Rattle.model.specs.declared.Call.TheVariants.{Start, Begin, Request, Unpin, End, Tick, Look, View, Count, Borders}
use Rattle.model.specs.declared.Borders as Borders'
use Rattle.model.specs.declared.State.{State}
use Rattle.model.specs.declared.Outcome.{Outcome}
use Rattle.model.specs.declared.Answer.{Answer}
use Rattle.model.specs.Parties.{usual_borders}
use Rattle.rules.specs.Answers.{is_started, is_begun, is_bordered, is_clock}
use Rattle.rules.specs.Content.{borders_named}
use Rattle.rules.specs.Tries.{Fill, all_tried, ticked}
use Rattle.rules.specs.Calls.{started, begun, requested, unpinned, ended, three_steps, looked_at, viewed, counted, bordered}

unfoldable pub outcome : State → Call → Outcome
outcome s (Start slots delay) = started s slots delay
outcome s (Begin level number deadline) = begun s level number deadline
outcome s (Request level number page mode) = requested s level number page mode
outcome s (Unpin level number page) = unpinned s level number page
outcome s (End level number) = ended s level number
outcome s (Tick room) = ticked s room
outcome s (Look level number) = looked_at s level number
outcome s (View level page) = viewed s level page
outcome s (Count level) = counted s level
outcome s (Borders first second third) = bordered s (record { first = first; second = second; third = third })

-- what a call fills, in turn: the tries of an accepted tick do
unfoldable pub fills_of : State → Call → List Fill
fills_of s c = cond (is_clock (outcome s c).answer) (all_tried (three_steps s)).fills []

-- the state after a list of calls, and their answers
unfoldable pub after : State → List Call → State
after s [] = s
after s (c ∷ cs) = after (outcome s c).state cs

unfoldable pub answers : State → List Call → List Answer
answers s [] = []
answers s (c ∷ cs) = let o = outcome s c in o.answer ∷ answers o.state cs

-- T-02: the borders after a call, and whether a row has begun, by its answer
abbrev pub borders_by : State → Call → Answer → Borders'.Borders
borders_by s c a = cond (is_started a) usual_borders (cond (is_bordered a) (borders_named c) s.borders)

abbrev pub begun_by : State → Answer → Bool
begun_by s a = cond (is_started a) false (is_begun a || s.begun)
