use native.Mathlib.Omega.{arith}
use Rattle.sabre.proofs.CallLaws.{ready_slot, fetch_slot}
use Rattle.rules.specs.Answers.{word, value, slot_told, back_told}
use Rattle.sabre.specs.Lent.{answer_numbers}
use Rattle.sabre.proofs.answer_numbers.Goals as goal

pub overflow_add-result : goal.overflow_add-result
overflow_add-result c = omega (arith, ready_slot _ _ c.in-Ready.back c.in-Ready.is c.requires)

pub overflow_add-result-in-Fetch : goal.overflow_add-result-in-Fetch
overflow_add-result-in-Fetch c = omega (arith, fetch_slot _ c.in-Fetch.due _ c.in-Fetch.back c.in-Fetch.is c.requires)

pub returns-in-Refused : goal.returns-in-Refused
unfolding answer_numbers word value slot_told back_told
returns-in-Refused c = simp (c.in-Refused.is, c.from.ensures)

pub returns-in-Started : goal.returns-in-Started
unfolding answer_numbers word value slot_told back_told
returns-in-Started c = simp c.in-Started.is

pub returns-in-Begun : goal.returns-in-Begun
unfolding answer_numbers word value slot_told back_told
returns-in-Begun c = simp c.in-Begun.is

pub returns-in-Ready : goal.returns-in-Ready
unfolding answer_numbers word value slot_told back_told
returns-in-Ready c = simp (c.back_number-page.ensures, c.in-Ready.is)

pub returns-in-Fetch : goal.returns-in-Fetch
unfolding answer_numbers word value slot_told back_told
returns-in-Fetch c = simp (c.back_number-page-in-Fetch.ensures, c.in-Fetch.is)

pub returns-in-Wait : goal.returns-in-Wait
unfolding answer_numbers word value slot_told back_told
returns-in-Wait c = simp c.in-Wait.is

pub returns-in-Unpinned : goal.returns-in-Unpinned
unfolding answer_numbers word value slot_told back_told
returns-in-Unpinned c = simp c.in-Unpinned.is

pub returns-in-Ended : goal.returns-in-Ended
unfolding answer_numbers word value slot_told back_told
returns-in-Ended c = simp c.in-Ended.is

pub returns-in-Clock : goal.returns-in-Clock
unfolding answer_numbers word value slot_told back_told
returns-in-Clock c = simp c.in-Clock.is

pub returns-in-RowFree : goal.returns-in-RowFree
unfolding answer_numbers word value slot_told back_told
returns-in-RowFree c = simp c.in-RowFree.is

pub returns-in-RowIdle : goal.returns-in-RowIdle
unfolding answer_numbers word value slot_told back_told
returns-in-RowIdle c = simp c.in-RowIdle.is

pub returns-in-RowFetching : goal.returns-in-RowFetching
unfolding answer_numbers word value slot_told back_told
returns-in-RowFetching c = simp c.in-RowFetching.is

pub returns-in-RowWaiting : goal.returns-in-RowWaiting
unfolding answer_numbers word value slot_told back_told
returns-in-RowWaiting c = simp c.in-RowWaiting.is

pub returns-in-RowKilled : goal.returns-in-RowKilled
unfolding answer_numbers word value slot_told back_told
returns-in-RowKilled c = simp (c.cause_word-word.ensures, c.in-RowKilled.is)

pub returns-in-PageUnseen : goal.returns-in-PageUnseen
unfolding answer_numbers word value slot_told back_told
returns-in-PageUnseen c = simp c.in-PageUnseen.is

pub returns-in-PageActive : goal.returns-in-PageActive
unfolding answer_numbers word value slot_told back_told
returns-in-PageActive c = simp c.in-PageActive.is

pub returns-in-PageRead : goal.returns-in-PageRead
unfolding answer_numbers word value slot_told back_told
returns-in-PageRead c = simp c.in-PageRead.is

pub returns-in-PageWrite : goal.returns-in-PageWrite
unfolding answer_numbers word value slot_told back_told
returns-in-PageWrite c = simp c.in-PageWrite.is

pub returns-in-PageDormant : goal.returns-in-PageDormant
unfolding answer_numbers word value slot_told back_told
returns-in-PageDormant c = simp c.in-PageDormant.is

pub returns-in-Open : goal.returns-in-Open
unfolding answer_numbers word value slot_told back_told
returns-in-Open c = simp c.in-Open.is

pub returns-in-Bordered : goal.returns-in-Bordered
unfolding answer_numbers word value slot_told back_told
returns-in-Bordered c = simp c.in-Bordered.is
