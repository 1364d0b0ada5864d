-- Document 01, "Two runs side by side", demand 3, and document 02, T-02: which calls of a run are kept for a clearance, and which are questions that it may ask afterwards.
use Rattle.std.specs.Prelude.{Bool, ◌&&◌, ◌||◌, List, ℕ}
use Rattle.seq.specs.Machine.{only}
use Rattle.model.specs.declared.Call.{Call}
use Rattle.rules.specs.Content.{is_tick, is_reading, is_made_up_to}

-- the ticks and the calls made by clearance L and below; a start and a call for borders, which are the server's, are never kept
unfoldable pub is_kept : ℕ → Call → Bool
is_kept L c = is_tick c || is_made_up_to L c

unfoldable pub kept_calls : ℕ → List Call → List Call
kept_calls L cs = only (is_kept L) cs

-- a look, view or count made at L or below
unfoldable pub is_question : ℕ → Call → Bool
is_question L c = is_reading c && is_made_up_to L c
