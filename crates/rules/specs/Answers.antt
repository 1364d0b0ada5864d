-- Document 01, "The player", and document 02, T-02: the word and the value of an answer, and what is told to the server alone, as numbers.
use Rattle.std.specs.Prelude.{Bool, ◌||◌, ℕ, ◌+◌, eqb, Option, None, Some}
use Rattle.model.specs.declared.Cause.{Cause}
use Rattle.model.specs.declared.Cause.TheVariants.{Late, Taken}
use Rattle.model.specs.declared.Answer.{Answer}
use Rattle.model.specs.declared.Answer.TheVariants.{
  Refused,
  Started,
  Begun,
  Ready,
  Fetch,
  Wait,
  Unpinned,
  Ended,
  Clock,
  RowFree,
  RowIdle,
  RowFetching,
  RowWaiting,
  RowKilled,
  PageUnseen,
  PageActive,
  PageRead,
  PageWrite,
  PageDormant,
  Open,
  Bordered,
}

abbrev pub cause_word : Cause → ℕ
cause_word Late = 11
cause_word Taken = 12

-- the words: 0 refused, 1 started, 2 begun, 3 ready, 4 fetch, 5 wait, 6 unpinned, 7 ended, 8 clock;
-- look: 9 none, 10 idle, 4 fetch, 5 wait, 11 late, 12 taken; view: 13 unseen, 14 active, 15 read, 16 write, 17 dormant; count: 18 open; 19 borders
unfoldable pub word : Answer → ℕ
word (Refused number) = 0
word Started = 1
word Begun = 2
word (Ready slot back) = 3
word (Fetch due slot back) = 4
word Wait = 5
word Unpinned = 6
word Ended = 7
word (Clock clock) = 8
word RowFree = 9
word RowIdle = 10
word (RowFetching due) = 4
word RowWaiting = 5
word (RowKilled cause) = cause_word cause
word PageUnseen = 13
word (PageActive arrival) = 14
word (PageRead arrival) = 15
word (PageWrite arrival) = 16
word (PageDormant arrival) = 17
word (Open count) = 18
word Bordered = 19

-- the value, 0 if none: a refusal's number, a due tick, the new clock, a view's arrival, the count of open slots
unfoldable pub value : Answer → ℕ
value (Refused number) = number
value Started = 0
value Begun = 0
value (Ready slot back) = 0
value (Fetch due slot back) = due
value Wait = 0
value Unpinned = 0
value Ended = 0
value (Clock clock) = clock
value RowFree = 0
value RowIdle = 0
value (RowFetching due) = due
value RowWaiting = 0
value (RowKilled cause) = 0
value PageUnseen = 0
value (PageActive arrival) = arrival
value (PageRead arrival) = arrival
value (PageWrite arrival) = arrival
value (PageDormant arrival) = arrival
value (Open count) = count
value Bordered = 0

-- answers by their words: started; begun; ready; fetch or wait; clock; a look's idle; a look's late; borders
abbrev pub is_started : Answer → Bool
is_started a = eqb (word a) 1

abbrev pub is_begun : Answer → Bool
is_begun a = eqb (word a) 2

abbrev pub is_ended : Answer → Bool
is_ended a = eqb (word a) 7

abbrev pub is_ready : Answer → Bool
is_ready a = eqb (word a) 3

abbrev pub is_pending : Answer → Bool
is_pending a = eqb (word a) 4 || eqb (word a) 5

abbrev pub is_clock : Answer → Bool
is_clock a = eqb (word a) 8

abbrev pub is_idle : Answer → Bool
is_idle a = eqb (word a) 10

abbrev pub is_told_late : Answer → Bool
is_told_late a = eqb (word a) 11

abbrev pub is_bordered : Answer → Bool
is_bordered a = eqb (word a) 19

-- the answers that say that a page may be used: ready, and a look's idle
unfoldable pub may_use : Answer → Bool
may_use a = is_ready a || is_idle a

-- the slot plus one, for ready and fetch of a request alone, and 0 if none
unfoldable pub slot_told : Answer → ℕ
slot_told (Refused number) = 0
slot_told Started = 0
slot_told Begun = 0
slot_told (Ready slot back) = slot + 1
slot_told (Fetch due slot back) = slot + 1
slot_told Wait = 0
slot_told Unpinned = 0
slot_told Ended = 0
slot_told (Clock clock) = 0
slot_told RowFree = 0
slot_told RowIdle = 0
slot_told (RowFetching due) = 0
slot_told RowWaiting = 0
slot_told (RowKilled cause) = 0
slot_told PageUnseen = 0
slot_told (PageActive arrival) = 0
slot_told (PageRead arrival) = 0
slot_told (PageWrite arrival) = 0
slot_told (PageDormant arrival) = 0
slot_told (Open count) = 0
slot_told Bordered = 0

-- the page to write back plus one, and 0 if none
abbrev pub page_back : Option ℕ → ℕ
page_back None = 0
page_back (Some page) = page + 1

unfoldable pub back_told : Answer → ℕ
back_told (Refused number) = 0
back_told Started = 0
back_told Begun = 0
back_told (Ready slot back) = page_back back
back_told (Fetch due slot back) = page_back back
back_told Wait = 0
back_told Unpinned = 0
back_told Ended = 0
back_told (Clock clock) = 0
back_told RowFree = 0
back_told RowIdle = 0
back_told (RowFetching due) = 0
back_told RowWaiting = 0
back_told (RowKilled cause) = 0
back_told PageUnseen = 0
back_told (PageActive arrival) = 0
back_told (PageRead arrival) = 0
back_told (PageWrite arrival) = 0
back_told (PageDormant arrival) = 0
back_told (Open count) = 0
back_told Bordered = 0

-- what a clearance is told: the word and the value
pub record Told : Type 0 where
  pub word : ℕ
  pub value : ℕ

unfoldable pub told : Answer → Told
told a = record { word = word a; value = value a }
