-- For the code; the room that `fields` has of the call, and 0 for a bad record: how many bytes of the list the call of a record is lent.
use Rattle.std.specs.Prelude.{ℕ, Option, None, Some}
use Rattle.model.specs.declared.Call.{Call}
use Rattle.rules.specs.Content.{fields}

abbrev pub room_of : Option Call → ℕ
room_of None = 0
room_of (Some c) = (fields c).room
