-- Document 01, "The calls" and "Two runs side by side", and document 02, T-02 and T-04: a call's content, its kind, its numbers and the length of what is lent beside the area, and who makes it; of T-07, the widths of numbers.
-- A tick is lent a list. The answer, lent to every call, is always four numbers long, so its length is no part of the content.
use Rattle.std.specs.Prelude.{Bool, ◌&&◌, ◌||◌, not, ℕ, ◌<◌, ◌^◌, leb, eqb}
use Rattle.model.specs.declared.Call.{Call}
use Rattle.model.specs.declared.Call.TheVariants.{Start, Begin, Request, Unpin, End, Tick, Look, View, Count}
use Rattle.model.specs.declared.Borders.{Borders}
use Rattle.model.specs.declared.State.{State}
use Rattle.model.specs.Parties.{row_of}
use Rattle.model.specs.State.{row_at}

-- a call's kind and numbers, 0 for a number that it has not; kinds as the player has them:
-- 0 start, 1 begin, 2 request, 3 unpin, 4 end, 6 tick, 7 look, 8 view, 9 count, 10 borders; room is the length of a tick's list
pub record Fields : Type 0 where
  pub kind : ℕ
  pub level : ℕ
  pub number : ℕ
  pub page : ℕ
  pub mode : ℕ
  pub slots : ℕ
  pub delay : ℕ
  pub deadline : ℕ
  pub first : ℕ
  pub second : ℕ
  pub third : ℕ
  pub room : ℕ

abbrev pub fields : Call → Fields
fields (Start slots delay) = record { kind = 0; level = 0; number = 0; page = 0; mode = 0; slots = slots; delay = delay; deadline = 0; first = 0; second = 0; third = 0; room = 0 }
fields (Begin level number deadline) = record { kind = 1; level = level; number = number; page = 0; mode = 0; slots = 0; delay = 0; deadline = deadline; first = 0; second = 0; third = 0; room = 0 }
fields (Request level number page mode) = record { kind = 2; level = level; number = number; page = page; mode = mode; slots = 0; delay = 0; deadline = 0; first = 0; second = 0; third = 0; room = 0 }
fields (Unpin level number page) = record { kind = 3; level = level; number = number; page = page; mode = 0; slots = 0; delay = 0; deadline = 0; first = 0; second = 0; third = 0; room = 0 }
fields (End level number) = record { kind = 4; level = level; number = number; page = 0; mode = 0; slots = 0; delay = 0; deadline = 0; first = 0; second = 0; third = 0; room = 0 }
fields (Tick room) = record { kind = 6; level = 0; number = 0; page = 0; mode = 0; slots = 0; delay = 0; deadline = 0; first = 0; second = 0; third = 0; room = room }
fields (Look level number) = record { kind = 7; level = level; number = number; page = 0; mode = 0; slots = 0; delay = 0; deadline = 0; first = 0; second = 0; third = 0; room = 0 }
fields (View level page) = record { kind = 8; level = level; number = 0; page = page; mode = 0; slots = 0; delay = 0; deadline = 0; first = 0; second = 0; third = 0; room = 0 }
fields (Count level) = record { kind = 9; level = level; number = 0; page = 0; mode = 0; slots = 0; delay = 0; deadline = 0; first = 0; second = 0; third = 0; room = 0 }
fields (Call.Borders first second third) = record { kind = 10; level = 0; number = 0; page = 0; mode = 0; slots = 0; delay = 0; deadline = 0; first = first; second = second; third = third; room = 0 }

abbrev pub is_start : Call → Bool
is_start c = eqb (fields c).kind 0

abbrev pub is_begin : Call → Bool
is_begin c = eqb (fields c).kind 1

abbrev pub is_request : Call → Bool
is_request c = eqb (fields c).kind 2

abbrev pub is_unpin : Call → Bool
is_unpin c = eqb (fields c).kind 3

abbrev pub is_end : Call → Bool
is_end c = eqb (fields c).kind 4

abbrev pub is_tick : Call → Bool
is_tick c = eqb (fields c).kind 6

abbrev pub is_look : Call → Bool
is_look c = eqb (fields c).kind 7

abbrev pub is_view : Call → Bool
is_view c = eqb (fields c).kind 8

abbrev pub is_count : Call → Bool
is_count c = eqb (fields c).kind 9

abbrev pub is_borders : Call → Bool
is_borders c = eqb (fields c).kind 10

-- look, view and count change nothing
abbrev pub is_reading : Call → Bool
is_reading c = is_look c || is_view c || is_count c

-- the row that it names, by level and row number and as one number
abbrev pub names_row : ℕ → ℕ → Call → Bool
names_row level number c = eqb (fields c).level level && eqb (fields c).number number

abbrev pub row_named : Call → ℕ
row_named c = row_of (fields c).level (fields c).number

-- the borders that it names
abbrev pub borders_named : Call → Borders
borders_named c = record { first = (fields c).first; second = (fields c).second; third = (fields c).third }

-- start, tick and borders are the server's; every other call counts as made by the level it names
abbrev pub is_servers : Call → Bool
is_servers c = is_start c || is_tick c || is_borders c

-- the call is made by clearance L or below
abbrev pub is_made_up_to : ℕ → Call → Bool
is_made_up_to L c = not (is_servers c) && leb (fields c).level L

-- each number of the call is an unsigned 32-bit number, a delay and a deadline a 64-bit one; its length may be any
pub record Fits (c : Call) : Type 0 where
  pub level : (fields c).level < 2 ^ 32
  pub number : (fields c).number < 2 ^ 32
  pub page : (fields c).page < 2 ^ 32
  pub mode : (fields c).mode < 2 ^ 32
  pub slots : (fields c).slots < 2 ^ 32
  pub delay : (fields c).delay < 2 ^ 64
  pub deadline : (fields c).deadline < 2 ^ 64
  pub first : (fields c).first < 2 ^ 32
  pub second : (fields c).second < 2 ^ 32
  pub third : (fields c).third < 2 ^ 32

-- A call as C can make it, by the types of include/sabre.h: uint64_t for a delay and a deadline, uint32_t for every other number. The length of a list may be any.
abbrev pub U32 : ℕ → Type 0
U32 n = n < 4294967296

abbrev pub U64 : ℕ → Type 0
U64 n = n < 18446744073709551616

abbrev pub OfC : Call → Type 0
OfC (Start slots delay) = U32 slots × U64 delay
OfC (Begin level number deadline) = U32 level × U32 number × U64 deadline
OfC (Request level number page mode) = U32 level × U32 number × U32 page × U32 mode
OfC (Unpin level number page) = U32 level × U32 number × U32 page
OfC (End level number) = U32 level × U32 number
OfC (Tick room) = Unit {0}
OfC (Look level number) = U32 level × U32 number
OfC (View level page) = U32 level × U32 page
OfC (Count level) = U32 level
OfC (Call.Borders first second third) = U32 first × U32 second × U32 third

-- each row's deadline is below a bound
abbrev pub Narrow : ℕ → State → Type 0
Narrow n s = (row : ℕ) → (row_at s row).deadline < n
