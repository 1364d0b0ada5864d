-- Runs beside those of rules/specs/Marked, read off the steps of documents 01 and 02 as those are: each call with the line it must have.
-- They have what those leave open: longer delays, pages at the borders, holders without a pin, a delivery from wait to idle, each key of steps c to f, the list of a tick, and places in the begin order.
use Rattle.std.specs.Prelude.{List, [], ◌∷◌, ◌++◌, ℕ, replicate}
use Rattle.model.specs.declared.Call.TheVariants.{Start, Begin, Request, Unpin, End, Tick, Look, View, Borders}
use Rattle.rules.specs.Marked.{Played, ◌gives◌, ◌and◌, active!, begun!, borders!, clock!, ended!, fetch!, fetch_back!, fetching!, fill!, fill_back!, idle!, late!, read!, ready!, refused!, started!, taken!, unpinned!, unseen!, wait!, write! }

-- a page that is not seen is due the delay after the clock of its request, be it in no slot or hidden in one; a page that is seen is due when it was
abbrev pub delay_from_clock : List Played
delay_from_clock =
    Start 3 255 gives started!
    ∷ Begin 0 0 1000 gives begun!
    ∷ Request 0 0 7 0 gives fetch! 255 0
    ∷ Tick 256 gives clock! 1
    ∷ Look 0 0 gives fetching! 255
    ∷ Begin 0 1 1000 gives begun!
    ∷ Request 0 1 8 0 gives fetch! 256 1
    ∷ Begin 3 0 1000 gives begun!
    ∷ Request 3 0 9 0 gives fetch! 256 2
    ∷ Tick 256 gives clock! 2
    ∷ Begin 0 2 1000 gives begun!
    ∷ Request 0 2 9 0 gives fetch! 257 2
    ∷ Begin 0 3 1000 gives begun!
    ∷ Request 0 3 7 0 gives fetch! 255 0
    ∷ View 0 9 gives read! 257
    ∷ View 3 9 gives read! 256
    ∷ []

-- a fetch at clock 1 with delay 2 is delivered at clock 3 and not before; one by the tick to clock 4 is due at 6
abbrev pub fetch_at_later_clock : List Played
fetch_at_later_clock =
    Start 1 2 gives started!
    ∷ Tick 256 gives clock! 1
    ∷ Begin 0 0 100 gives begun!
    ∷ Request 0 0 7 0 gives fetch! 3 0
    ∷ Begin 0 1 100 gives begun!
    ∷ Request 0 1 8 0 gives wait!
    ∷ Tick 256 gives clock! 2
    ∷ Look 0 0 gives fetching! 3
    ∷ Tick 256 gives clock! 3
    ∷ Look 0 0 gives idle!
    ∷ End 0 0 gives ended!
    ∷ (Tick 256 gives clock! 4) and fill! 1 0
    ∷ Look 0 1 gives fetching! 6
    ∷ []

-- the last page of class 0, the first and the last of classes 1 and 2, the first of class 3: each is refused to the levels next to its class,
-- and at the third border level 2 writes and reads the page before it, level 3 the page at it
abbrev pub at_borders : List Played → ℕ → ℕ → ℕ → ℕ → ℕ → ℕ → List Played
at_borders start last0 first1 last1 first2 last2 first3 =
    start
    ++ (Begin 0 0 100 gives begun!
    ∷ Begin 1 0 100 gives begun!
    ∷ Begin 2 0 100 gives begun!
    ∷ Begin 3 0 100 gives begun!
    ∷ Request 1 0 last0 1 gives refused! 14
    ∷ Request 0 0 first1 0 gives refused! 13
    ∷ Request 2 0 first1 1 gives refused! 14
    ∷ Request 0 0 last1 0 gives refused! 13
    ∷ Request 2 0 last1 1 gives refused! 14
    ∷ Request 1 0 first2 0 gives refused! 13
    ∷ Request 3 0 first2 1 gives refused! 14
    ∷ Request 1 0 last2 0 gives refused! 13
    ∷ Request 3 0 last2 1 gives refused! 14
    ∷ Request 2 0 first3 0 gives refused! 13
    ∷ Request 2 0 last2 1 gives fetch! 1 0
    ∷ Request 3 0 first3 0 gives fetch! 1 1
    ∷ Begin 2 1 50 gives begun!
    ∷ Begin 3 1 50 gives begun!
    ∷ Request 2 1 last2 0 gives fetch! 1 0
    ∷ Request 3 1 first3 1 gives fetch! 1 1
    ∷ [])

abbrev pub usual_borders_run : List Played
usual_borders_run = at_borders (Start 2 1 gives started! ∷ []) 1023 1024 2047 2048 3071 3072

abbrev pub moved_borders : List Played
moved_borders = at_borders (Start 2 1 gives started! ∷ Borders 10 300 2000 gives borders! ∷ []) 9 10 299 300 1999 2000

-- a holder without a pin is in no conflict: a writer of worse priority does not wait for it, kills neither it nor the one of level 3, and both hold the page afterwards;
-- so too where the writer does not see the holder
abbrev pub writer_beside_unpinned : List Played
writer_beside_unpinned =
    Start 1 1 gives started!
    ∷ Begin 0 0 50 gives begun!
    ∷ Begin 0 1 60 gives begun!
    ∷ Begin 3 0 100 gives begun!
    ∷ Request 0 0 7 0 gives fetch! 1 0
    ∷ Request 3 0 7 0 gives fetch! 1 0
    ∷ Tick 256 gives clock! 1
    ∷ Unpin 0 0 7 gives unpinned!
    ∷ Unpin 3 0 7 gives unpinned!
    ∷ Request 0 1 7 1 gives ready! 0
    ∷ Look 0 0 gives idle!
    ∷ Look 3 0 gives idle!
    ∷ End 0 1 gives ended!
    ∷ View 0 7 gives active! 1
    ∷ End 0 0 gives ended!
    ∷ View 0 7 gives unseen!
    ∷ View 3 7 gives active! 1
    ∷ Begin 0 2 100 gives begun!
    ∷ Request 0 2 7 1 gives fetch! 2 0
    ∷ Look 3 0 gives idle!
    ∷ View 3 7 gives write! 1
    ∷ End 0 2 gives ended!
    ∷ View 3 7 gives active! 1
    ∷ []

-- a delivery from wait to idle: row 1 waits to write 7 while row 0 pins it, and the tick after the unpin makes it ready, not fetching;
-- neither 0 nor 2, of worse priority, is killed, and 2 holds 7 afterwards
abbrev pub from_wait_to_idle : List Played
from_wait_to_idle =
    Start 1 1 gives started!
    ∷ Begin 0 0 50 gives begun!
    ∷ Begin 0 1 60 gives begun!
    ∷ Begin 0 2 70 gives begun!
    ∷ Request 0 0 7 0 gives fetch! 1 0
    ∷ Request 0 2 7 0 gives fetch! 1 0
    ∷ Tick 256 gives clock! 1
    ∷ Unpin 0 2 7 gives unpinned!
    ∷ Request 0 1 7 1 gives wait!
    ∷ Tick 256 gives clock! 2
    ∷ Unpin 0 0 7 gives unpinned!
    ∷ Look 0 1 gives wait!
    ∷ (Tick 256 gives clock! 3) and fill! 1 0
    ∷ Look 0 1 gives idle!
    ∷ Look 0 0 gives idle!
    ∷ Look 0 2 gives idle!
    ∷ End 0 1 gives ended!
    ∷ End 0 0 gives ended!
    ∷ View 0 7 gives active! 1
    ∷ []

-- steps c to f, the worst best holder: 1,025 goes, held by a row of deadline 100, and not 1,024, whose holders have 50 and 200, though 1,025 is touched later, the larger page and in the higher slot.
-- Unpinned this is step c for a requester of level 0 and step e for one of level 1; pinned it is d and f
abbrev pub worst_holder : List Played → ℕ → List Played → List Played
worst_holder unpins level last =
    Start 2 1 gives started!
    ∷ Begin 1 0 50 gives begun!
    ∷ Begin 1 1 100 gives begun!
    ∷ Begin 1 2 200 gives begun!
    ∷ Request 1 0 1024 0 gives fetch! 1 0
    ∷ Request 1 2 1024 0 gives fetch! 1 0
    ∷ Tick 256 gives clock! 1
    ∷ Request 1 1 1025 0 gives fetch! 2 1
    ∷ Tick 256 gives clock! 2
    ∷ (unpins ++ (Begin level 7 20 gives begun! ∷ Request level 7 7 0 gives fetch! 3 1 ∷ last))

abbrev pub worst_holder_unpinned : ℕ → List Played
worst_holder_unpinned level =
    worst_holder
    (Unpin 1 0 1024 gives unpinned! ∷ Unpin 1 2 1024 gives unpinned! ∷ Unpin 1 1 1025 gives unpinned! ∷ [])
    level
    (Look 1 1 gives idle! ∷ View 1 1024 gives active! 1 ∷ [])

abbrev pub worst_holder_pinned : ℕ → List Played
worst_holder_pinned level = worst_holder [] level (Look 1 1 gives taken! ∷ View 1 1024 gives read! 1 ∷ [])

-- then the earliest latest touch: row 0 is the best holder of both; 1,025 goes, touched at 1, and not 1,024, touched by row 0 at 0 but by row 1 at 2, though 1,025 is the larger page
-- and in the higher slot. Level 3's touch of 1,025 at 3, and its pin, decide nothing
abbrev pub earliest_touch : List Played → ℕ → List Played → List Played
earliest_touch unpins level last =
    Start 2 1 gives started!
    ∷ Begin 1 0 50 gives begun!
    ∷ Begin 1 1 100 gives begun!
    ∷ Begin 3 0 100 gives begun!
    ∷ Request 1 0 1024 0 gives fetch! 1 0
    ∷ Tick 256 gives clock! 1
    ∷ Request 1 0 1025 0 gives fetch! 2 1
    ∷ Tick 256 gives clock! 2
    ∷ Request 1 1 1024 0 gives ready! 0
    ∷ Tick 256 gives clock! 3
    ∷ Request 3 0 1025 0 gives ready! 1
    ∷ (unpins ++ (Begin level 7 20 gives begun! ∷ Request level 7 7 0 gives fetch! 4 1 ∷ Look 3 0 gives taken! ∷ last))

abbrev pub earliest_touch_unpinned : ℕ → List Played
earliest_touch_unpinned level =
    earliest_touch
    (Unpin 1 0 1024 gives unpinned! ∷ Unpin 1 1 1024 gives unpinned! ∷ Unpin 1 0 1025 gives unpinned! ∷ [])
    level
    (Look 1 0 gives idle! ∷ View 1 1024 gives active! 1 ∷ [])

abbrev pub earliest_touch_pinned : ℕ → List Played
earliest_touch_pinned level = earliest_touch [] level (Look 1 0 gives taken! ∷ View 1 1024 gives read! 1 ∷ [])

-- then the smaller page: one row holds both and touches both at 2; 1,024 goes, though it is dirty and in the higher slot, and also where it is clean and in the lower one
abbrev pub smaller_page : ℕ → ℕ → List Played → ℕ → List Played → List Played
smaller_page first second unpins level last =
    Start 2 1 gives started!
    ∷ Begin 1 0 50 gives begun!
    ∷ Request 1 0 first 0 gives fetch! 1 0
    ∷ Tick 256 gives clock! 1
    ∷ Request 1 0 second 1 gives fetch! 2 1
    ∷ Tick 256 gives clock! 2
    ∷ Unpin 1 0 second gives unpinned!
    ∷ Request 1 0 first 0 gives ready! 0
    ∷ Request 1 0 second 0 gives ready! 1
    ∷ (unpins ++ (Begin level 7 20 gives begun! ∷ last))

abbrev pub both_unpinned : List Played
both_unpinned = Unpin 1 0 1024 gives unpinned! ∷ Unpin 1 0 1025 gives unpinned! ∷ []

abbrev pub smaller_page_unpinned : ℕ → List Played
smaller_page_unpinned level =
    smaller_page 1025 1024 both_unpinned level (Request level 7 7 0 gives fetch_back! 3 1 1024 ∷ Look 1 0 gives idle! ∷ View 1 1025 gives active! 1 ∷ [])

abbrev pub smaller_page_pinned : ℕ → List Played
smaller_page_pinned level =
    smaller_page 1025 1024 [] level (Request level 7 7 0 gives fetch_back! 3 1 1024 ∷ Look 1 0 gives taken! ∷ View 1 1025 gives unseen! ∷ [])

abbrev pub smaller_page_lower_slot : ℕ → List Played
smaller_page_lower_slot level =
    smaller_page 1024 1025 both_unpinned level (Request level 7 7 0 gives fetch! 3 0 ∷ Look 1 0 gives idle! ∷ View 1 1025 gives active! 2 ∷ [])

-- a tick that fills two rows, the better one first though it waited last: it gets the slot of the clean page, the other one that of the dirty page
abbrev pub two_filled_before : List Played
two_filled_before =
    Start 2 1 gives started!
    ∷ Begin 0 0 10 gives begun!
    ∷ Request 0 0 1800 1 gives fetch! 1 0
    ∷ Tick 256 gives clock! 1
    ∷ Request 0 0 515 0 gives fetch! 2 1
    ∷ Tick 256 gives clock! 2
    ∷ Begin 2 5 100 gives begun!
    ∷ Request 2 5 300 0 gives wait!
    ∷ Begin 1 3 100 gives begun!
    ∷ Request 1 3 1286 0 gives wait!
    ∷ End 0 0 gives ended!
    ∷ []

abbrev pub two_filled : List Played
two_filled =
    two_filled_before
    ++ ((Tick 256 gives clock! 3) and fill! 11 1 and fill_back! 21 0 1800
    ∷ Look 1 3 gives fetching! 4
    ∷ Look 2 5 gives fetching! 4
    ∷ [])

-- the 256 bytes of that tick's list; 1,286 is 5 and 6, 300 is 1 and 44, 1,800 is 7 and 8
abbrev pub two_filled_bytes : List ℕ
two_filled_bytes =
    1 ∷ 3 ∷ 1 ∷ 1 ∷ 5 ∷ 6 ∷ 0 ∷ 0 ∷ 2 ∷ 5 ∷ 0 ∷ 2 ∷ 1 ∷ 44 ∷ 7 ∷ 8 ∷ replicate 240 0

-- T-06: killed rows 5 and 2 keep their places, and 1, begun beside them, has the last, behind 4; 5, ended and begun again, is behind 1
abbrev pub begin_beside_killed : List Played
begin_beside_killed =
    Start 1 1 gives started!
    ∷ Begin 0 5 0 gives begun!
    ∷ Begin 0 2 0 gives begun!
    ∷ Begin 0 4 100 gives begun!
    ∷ Tick 256 gives clock! 1
    ∷ Look 0 5 gives late!
    ∷ Look 0 2 gives late!
    ∷ Begin 0 1 100 gives begun!
    ∷ Request 0 4 7 0 gives fetch! 2 0
    ∷ Request 0 1 8 0 gives wait!
    ∷ End 0 5 gives ended!
    ∷ Begin 0 5 100 gives begun!
    ∷ Request 0 5 9 0 gives wait!
    ∷ End 0 4 gives ended!
    ∷ (Tick 256 gives clock! 2) and fill! 1 0
    ∷ Look 0 5 gives wait!
    ∷ []

-- T-06: eight rows of level 2 with equal deadlines begin; the first of them, 5, has the one slot, and 3, 6 and 2, the last, the fifth and the second, wait and get it in the order of their begins;
-- 5, ended and begun again, is behind 3
abbrev pub eight_begun : List Played
eight_begun =
    Start 1 1 gives started!
    ∷ Begin 2 5 100 gives begun!
    ∷ Begin 2 2 100 gives begun!
    ∷ Begin 2 7 100 gives begun!
    ∷ Begin 2 0 100 gives begun!
    ∷ Begin 2 6 100 gives begun!
    ∷ Begin 2 1 100 gives begun!
    ∷ Begin 2 4 100 gives begun!
    ∷ Begin 2 3 100 gives begun!
    ∷ Request 2 5 15 0 gives fetch! 1 0
    ∷ Request 2 3 13 0 gives wait!
    ∷ Request 2 6 16 0 gives wait!
    ∷ Request 2 2 12 0 gives wait!
    ∷ End 2 5 gives ended!
    ∷ (Tick 256 gives clock! 1) and fill! 18 0
    ∷ Begin 2 5 100 gives begun!
    ∷ Request 2 5 15 0 gives wait!
    ∷ End 2 2 gives ended!
    ∷ (Tick 256 gives clock! 2) and fill! 22 0
    ∷ End 2 6 gives ended!
    ∷ (Tick 256 gives clock! 3) and fill! 19 0
    ∷ Look 2 5 gives wait!
    ∷ []

-- all of them; those of a key of steps c to f are step c for a requester of level 0 where no pin is left, d where pins are left, and e and f for one of level 1
abbrev pub further : List (List Played)
further =
    delay_from_clock
    ∷ fetch_at_later_clock
    ∷ usual_borders_run
    ∷ moved_borders
    ∷ writer_beside_unpinned
    ∷ from_wait_to_idle
    ∷ worst_holder_unpinned 0
    ∷ worst_holder_pinned 0
    ∷ worst_holder_unpinned 1
    ∷ worst_holder_pinned 1
    ∷ earliest_touch_unpinned 0
    ∷ earliest_touch_pinned 0
    ∷ earliest_touch_unpinned 1
    ∷ earliest_touch_pinned 1
    ∷ smaller_page_unpinned 0
    ∷ smaller_page_pinned 0
    ∷ smaller_page_unpinned 1
    ∷ smaller_page_pinned 1
    ∷ smaller_page_lower_slot 0
    ∷ two_filled
    ∷ begin_beside_killed
    ∷ eight_begun
    ∷ []
