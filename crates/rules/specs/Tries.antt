-- Document 02, T-04: after the three steps of a tick each waiting row is tried a single time, best priority first, skipping rows killed on the way; and the list of what was filled.
use Rattle.std.specs.Prelude.{List, [], ◌∷◌, ◌++◌, ℕ, ◌+◌, ◌-◌, ◌/◌, ◌%◌, length, replicate, Option, None, Some, unwrap_or}
use Rattle.seq.specs.Below.{sorted_below}
use Rattle.model.specs.declared.Condition.{Condition}
use Rattle.model.specs.declared.Condition.TheVariants.{Free, Idle, Fetching, Waiting, Killed}
use Rattle.model.specs.declared.State.{State}
use Rattle.model.specs.declared.Outcome.{Outcome}
use Rattle.model.specs.declared.Answer.{Answer}
use Rattle.model.specs.declared.Answer.TheVariants.{
  Refused,
  Started,
  Begun,
  Ready,
  Fetch,
  Wait,
  Unpinned,
  Ended,
  Clock,
  RowFree,
  RowIdle,
  RowFetching,
  RowWaiting,
  RowKilled,
  PageUnseen,
  PageActive,
  PageRead,
  PageWrite,
  PageDormant,
  Open,
  Bordered,
}
use Rattle.model.specs.Parties.{level_of}
use Rattle.model.specs.State.{row_at}
use Rattle.model.specs.Words.{outranks}
use Rattle.rules.specs.Refusals.{is_waiting, tick_refusal}
use Rattle.rules.specs.Calls.{unless, three_steps, served}

-- what a try filled: the row made ready or fetching, its slot, the page, and the page to write back
pub record Fill : Type 0 where
  pub row : ℕ
  pub slot : ℕ
  pub page : ℕ
  pub back : Option ℕ

-- what tries leave, and what they filled, in turn
pub record Tried : Type 0 where
  pub state : State
  pub fills : List Fill

-- what a try for a page filled, by its answer: ready and fetch have an entry, wait has none
abbrev pub filled_by : ℕ → ℕ → Answer → List Fill
filled_by row page (Refused number) = []
filled_by row page Started = []
filled_by row page Begun = []
filled_by row page (Ready slot back) = record { row = row; slot = slot; page = page; back = back } ∷ []
filled_by row page (Fetch due slot back) = record { row = row; slot = slot; page = page; back = back } ∷ []
filled_by row page Wait = []
filled_by row page Unpinned = []
filled_by row page Ended = []
filled_by row page (Clock clock) = []
filled_by row page RowFree = []
filled_by row page RowIdle = []
filled_by row page (RowFetching due) = []
filled_by row page RowWaiting = []
filled_by row page (RowKilled cause) = []
filled_by row page PageUnseen = []
filled_by row page (PageActive arrival) = []
filled_by row page (PageRead arrival) = []
filled_by row page (PageWrite arrival) = []
filled_by row page (PageDormant arrival) = []
filled_by row page (Open count) = []
filled_by row page Bordered = []

-- a row is tried by the steps of a request, for its stored page and mode
abbrev pub tried_as : Outcome → ℕ → ℕ → Tried
tried_as o row page = record { state = o.state; fills = filled_by row page o.answer }

-- a row that waits no longer, being killed on the way, is skipped
abbrev pub try_row : Condition → State → ℕ → Tried
try_row Free s row = record { state = s; fills = [] }
try_row Idle s row = record { state = s; fills = [] }
try_row (Fetching due) s row = record { state = s; fills = [] }
try_row (Waiting page mode) s row = tried_as (served s row page mode) row page
try_row (Killed cause) s row = record { state = s; fills = [] }

-- some rows, tried in turn
unfoldable pub tries : List ℕ → State → Tried
tries [] s = record { state = s; fills = [] }
tries (row ∷ rows) s =
    let x = try_row (row_at s row).condition s row in
    let y = tries rows x.state in
    record { state = y.state; fills = x.fills ++ y.fills }

-- the waiting rows, best priority first
unfoldable pub waiters : State → List ℕ
waiters s = sorted_below 32 (λ row. is_waiting (row_at s row).condition) (outranks s)

-- each waiting row is tried a single time
unfoldable pub all_tried : State → Tried
all_tried s = tries (waiters s) s

-- tick: its three steps, and then the tries
unfoldable pub ticked : State → ℕ → Outcome
ticked s room =
    unless (tick_refusal s room) s
    (record { state = (all_tried (three_steps s)).state; answer = Clock (s.clock + 1) })

-- the back flag, 1 for none or 2, and the page written back, or 0
abbrev pub back_flag : Option ℕ → ℕ
back_flag None = 1
back_flag (Some page) = 2

abbrev pub back_or_zero : Option ℕ → ℕ
back_or_zero back = unwrap_or back 0

-- the 8 bytes of a row that was filled: level, row, slot, back flag, and big-endian page and page written back or 0
unfoldable pub entry_bytes : Fill → List ℕ
entry_bytes f =
    level_of f.row ∷ f.row % 8 ∷ f.slot ∷ back_flag f.back
    ∷ f.page / 256 ∷ f.page % 256 ∷ back_or_zero f.back / 256 ∷ back_or_zero f.back % 256 ∷ []

unfoldable pub entries : List Fill → List ℕ
entries [] = []
entries (f ∷ fs) = entry_bytes f ++ entries fs

-- the first 256 bytes of the list: an entry for each, in turn, and the rest zero
unfoldable pub list_bytes : List Fill → List ℕ
list_bytes fs = entries fs ++ replicate (256 - length (entries fs)) 0
