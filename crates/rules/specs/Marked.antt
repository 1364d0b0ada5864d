-- Document 01, "The player", session S, and "Marked for the table", M1 to M11, M5 as T-01 and M6 as T-06 of document 02 have them: each call with the line it must have.
-- Thirteen further runs, read off the documents' steps, have what M1 to M11 leave open: a deadline at the clock, the order within steps b, c and d, e and f, other borders, the other words, the tries of a tick, and the begin order.
use Rattle.std.specs.Prelude.{List, [], ◌∷◌, ◌++◌, map, ℕ, ◌+◌}
use Rattle.model.specs.State.{fresh}
use Rattle.model.specs.declared.Answer.{Answer}
use Rattle.model.specs.declared.State.{State}
use Rattle.rules.specs.Answers.{word, value, page_back, slot_told, back_told}
use Rattle.model.specs.declared.Call.{Call}
use Rattle.model.specs.declared.Call.TheVariants.{Start, Begin, Request, Unpin, End, Tick, Look, View, Count, Borders}
use Rattle.rules.specs.Run.{outcome, fills_of}
use Rattle.rules.specs.Tries.{Fill}

-- an output line: word, value, slot plus one or 0, page to write back plus one or 0
pub record Line : Type 0 where
  pub word : ℕ
  pub value : ℕ
  pub slot : ℕ
  pub back : ℕ

abbrev pub line : Answer → Line
line a = record { word = word a; value = value a; slot = slot_told a; back = back_told a }

-- the lines by their words; the number of each word is that of specs/Answers.antt
abbrev pub plain : ℕ → ℕ → Line
plain w v = record { word = w; value = v; slot = 0; back = 0 }

abbrev pub refused! : ℕ → Line
refused! n = plain 0 n

abbrev pub started! : Line
started! = plain 1 0

abbrev pub begun! : Line
begun! = plain 2 0

abbrev pub ready! : ℕ → Line
ready! slot = record { word = 3; value = 0; slot = slot + 1; back = 0 }

abbrev pub fetch! : ℕ → ℕ → Line
fetch! due slot = record { word = 4; value = due; slot = slot + 1; back = 0 }

abbrev pub fetch_back! : ℕ → ℕ → ℕ → Line
fetch_back! due slot page = record { word = 4; value = due; slot = slot + 1; back = page + 1 }

abbrev pub wait! : Line
wait! = plain 5 0

abbrev pub unpinned! : Line
unpinned! = plain 6 0

abbrev pub ended! : Line
ended! = plain 7 0

abbrev pub clock! : ℕ → Line
clock! n = plain 8 n

abbrev pub borders! : Line
borders! = plain 19 0

-- a look's words, beside idle: a fetching row's due tick is told without a slot
abbrev pub none! : Line
none! = plain 9 0

abbrev pub fetching! : ℕ → Line
fetching! due = plain 4 due

abbrev pub idle! : Line
idle! = plain 10 0

abbrev pub late! : Line
late! = plain 11 0

abbrev pub taken! : Line
taken! = plain 12 0

-- a view's words
abbrev pub unseen! : Line
unseen! = plain 13 0

abbrev pub active! : ℕ → Line
active! arrival = plain 14 arrival

abbrev pub read! : ℕ → Line
read! arrival = plain 15 arrival

abbrev pub write! : ℕ → Line
write! arrival = plain 16 arrival

abbrev pub dormant! : ℕ → Line
dormant! arrival = plain 17 arrival

abbrev pub open! : ℕ → Line
open! n = plain 18 n

-- a tick's lines after the clock: level × 8 + row, the slot, and the page to write back
abbrev pub fill! : ℕ → ℕ → Line
fill! row slot = record { word = 20; value = row; slot = slot + 1; back = 0 }

abbrev pub fill_back! : ℕ → ℕ → ℕ → Line
fill_back! row slot page = record { word = 20; value = row; slot = slot + 1; back = page + 1 }

-- a call and the lines it must have: its own, and one for each row that it filled
pub record Played : Type 0 where
  pub call : Call
  pub lines : List Line

abbrev pub ◌gives◌ : Call → Line → Played
c gives l = record { call = c; lines = l ∷ [] }

abbrev pub ◌and◌ : Played → Line → Played
p and l = record { call = p.call; lines = p.lines ++ (l ∷ []) }

infix 90 ◌gives◌
infixl 80 ◌and◌
abbrev pub call_of : Played → Call
call_of p = p.call

abbrev pub lines_of : Played → List Line
lines_of p = p.lines

-- document 01's session S
abbrev pub session : List Played
session =
    Start 1 1 gives started!
    ∷ Begin 1 0 100 gives begun!
    ∷ Request 1 0 1024 1 gives fetch! 1 0
    ∷ Tick 256 gives clock! 1
    ∷ Begin 0 0 90 gives begun!
    ∷ Count 0 gives open! 1
    ∷ Request 0 0 7 0 gives fetch_back! 2 0 1024
    ∷ Look 1 0 gives taken!
    ∷ View 1 7 gives read! 2
    ∷ Count 1 gives open! 0
    ∷ Request 1 0 1024 0 gives refused! 10
    ∷ []

-- M1 slots 64 and 65
abbrev pub m1 : List Played
m1 = Start 64 1 gives started! ∷ Start 65 1 gives refused! 2 ∷ []

-- M2 delay 255 and 256
abbrev pub m2 : List Played
m2 = Start 1 255 gives started! ∷ Start 1 256 gives refused! 3 ∷ []

-- M3 level 1 reads 1,023; 2,048 gives 13
abbrev pub m3 : List Played
m3 = Start 1 1 gives started! ∷ Begin 1 0 100 gives begun! ∷ Request 1 0 2048 0 gives refused! 13 ∷ Request 1 0 1023 0 gives fetch! 1 0 ∷ []

-- M4 level 1 writes 4,095; 1,023 gives 14
abbrev pub m4 : List Played
m4 = Start 1 1 gives started! ∷ Begin 1 0 100 gives begun! ∷ Request 1 0 1023 1 gives refused! 14 ∷ Request 1 0 4095 1 gives fetch! 1 0 ∷ []

-- M5 deadline 1 begun at clock 0 is idle after one tick and late after two
abbrev pub m5 : List Played
m5 =
    Start 1 1 gives started!
    ∷ Begin 0 0 1 gives begun!
    ∷ Look 0 0 gives idle!
    ∷ Tick 256 gives clock! 1
    ∷ Look 0 0 gives idle!
    ∷ Tick 256 gives clock! 2
    ∷ Look 0 0 gives late!
    ∷ []

-- M6 as T-06 of document 02 has it, one slot, equal deadlines at level 0: the row begun first pins 7, the second waits for 8;
-- the other way round the second is taken
abbrev pub m6 : ℕ → ℕ → List Played
m6 first second =
    Start 1 1 gives started!
    ∷ Begin 0 first 100 gives begun!
    ∷ Begin 0 second 100 gives begun!
    ∷ Request 0 first 7 0 gives fetch! 1 0
    ∷ Request 0 second 8 0 gives wait!
    ∷ []

abbrev pub m6_round : ℕ → ℕ → List Played
m6_round first second =
    Start 1 1 gives started!
    ∷ Begin 0 first 100 gives begun!
    ∷ Begin 0 second 100 gives begun!
    ∷ Request 0 second 7 0 gives fetch! 1 0
    ∷ Request 0 first 8 0 gives fetch! 1 0
    ∷ Look 0 second gives taken!
    ∷ []

-- M7 one slot: row 0 (deadline 50) has 7 unpinned, row 1 (40) fetches 8; row 0 stays idle
abbrev pub m7 : List Played
m7 =
    Start 1 1 gives started!
    ∷ Begin 0 0 50 gives begun!
    ∷ Begin 0 1 40 gives begun!
    ∷ Request 0 0 7 0 gives fetch! 1 0
    ∷ Tick 256 gives clock! 1
    ∷ Unpin 0 0 7 gives unpinned!
    ∷ Request 0 1 8 0 gives fetch! 2 0
    ∷ Look 0 0 gives idle!
    ∷ []

-- M8 page 7 dormant and arrived: a level 0 request is a fetch; from that same state a level 3 request instead is ready
abbrev pub m8_before : List Played → List Played
m8_before last =
    Start 1 1 gives started!
    ∷ Begin 0 0 100 gives begun!
    ∷ Request 0 0 7 0 gives fetch! 1 0
    ∷ Tick 256 gives clock! 1
    ∷ End 0 0 gives ended!
    ∷ Begin 0 0 100 gives begun!
    ∷ Begin 3 0 100 gives begun!
    ∷ last

abbrev pub m8 : List Played
m8 = m8_before (Request 0 0 7 0 gives fetch! 2 0 ∷ [])

abbrev pub m8_instead : List Played
m8_instead = m8_before (Request 3 0 7 0 gives ready! 0 ∷ [])

-- M9 level 3 reads 7; level 0 writes it: same slot, level 3 taken
abbrev pub m9 : List Played
m9 =
    Start 2 1 gives started!
    ∷ Begin 3 0 100 gives begun!
    ∷ Begin 0 0 100 gives begun!
    ∷ Request 3 0 7 0 gives fetch! 1 0
    ∷ Request 0 0 7 1 gives fetch! 1 0
    ∷ Look 3 0 gives taken!
    ∷ []

-- M10 a row pinning the only slot waits for a second page
abbrev pub m10 : List Played
m10 = Start 1 1 gives started! ∷ Begin 0 0 100 gives begun! ∷ Request 0 0 7 0 gives fetch! 1 0 ∷ Tick 256 gives clock! 1 ∷ Request 0 0 8 0 gives wait! ∷ []

-- M11 two slots: level 1 has 1,024 unpinned, level 2 pins 2,048; level 0 fetches 7: level 2 is taken, level 1 still sees 1,024
abbrev pub m11 : List Played
m11 =
    Start 2 1 gives started!
    ∷ Begin 1 0 100 gives begun!
    ∷ Begin 2 0 100 gives begun!
    ∷ Request 1 0 1024 0 gives fetch! 1 0
    ∷ Tick 256 gives clock! 1
    ∷ Unpin 1 0 1024 gives unpinned!
    ∷ Request 2 0 2048 0 gives fetch! 2 1
    ∷ Begin 0 0 100 gives begun!
    ∷ Request 0 0 7 0 gives fetch! 2 1
    ∷ Look 2 0 gives taken!
    ∷ View 1 1024 gives active! 1
    ∷ []

-- begin accepts a deadline equal to the clock, and refuses one below it by 12 (0 at clock 1); a fetch due at its row's deadline is delivered
abbrev pub deadline_at_clock : List Played
deadline_at_clock =
    Start 1 1 gives started!
    ∷ Begin 0 0 0 gives begun!
    ∷ Begin 0 1 1 gives begun!
    ∷ Request 0 1 7 0 gives fetch! 1 0
    ∷ Tick 256 gives clock! 1
    ∷ Look 0 0 gives late!
    ∷ Look 0 1 gives idle!
    ∷ Begin 0 2 0 gives refused! 12
    ∷ Begin 0 2 1 gives begun!
    ∷ Tick 256 gives clock! 2
    ∷ Look 0 1 gives late!
    ∷ Look 0 2 gives late!
    ∷ []

-- step b, lowest level first: 7, held by level 0, goes before 1,024, held by level 1, though 7 is dirty, touched later and in the higher slot
abbrev pub b_lowest_level : List Played
b_lowest_level =
    Start 2 1 gives started!
    ∷ Begin 1 0 100 gives begun!
    ∷ Request 1 0 1024 0 gives fetch! 1 0
    ∷ Tick 256 gives clock! 1
    ∷ End 1 0 gives ended!
    ∷ Begin 0 0 100 gives begun!
    ∷ Request 0 0 7 1 gives fetch! 2 1
    ∷ Tick 256 gives clock! 2
    ∷ End 0 0 gives ended!
    ∷ Begin 0 1 100 gives begun!
    ∷ Request 0 1 8 0 gives fetch_back! 3 1 7
    ∷ []

-- step b, clean before dirty: 8 goes before 7, which was written, though 8 is touched later and in the higher slot
abbrev pub b_clean_first : List Played
b_clean_first =
    Start 2 1 gives started!
    ∷ Begin 0 0 100 gives begun!
    ∷ Request 0 0 7 1 gives fetch! 1 0
    ∷ Tick 256 gives clock! 1
    ∷ Unpin 0 0 7 gives unpinned!
    ∷ Request 0 0 8 0 gives fetch! 2 1
    ∷ Tick 256 gives clock! 2
    ∷ End 0 0 gives ended!
    ∷ Begin 0 1 100 gives begun!
    ∷ Request 0 1 9 0 gives fetch! 3 1
    ∷ []

-- step b, least touch: 7 is asked for again, so 8 goes, though it is in the higher slot
abbrev pub b_least_touch : List Played
b_least_touch =
    Start 2 1 gives started!
    ∷ Begin 0 0 100 gives begun!
    ∷ Request 0 0 7 0 gives fetch! 1 0
    ∷ Tick 256 gives clock! 1
    ∷ Request 0 0 8 0 gives fetch! 2 1
    ∷ Tick 256 gives clock! 2
    ∷ Request 0 0 7 0 gives ready! 0
    ∷ End 0 0 gives ended!
    ∷ Begin 0 1 100 gives begun!
    ∷ Request 0 1 9 0 gives fetch! 3 1
    ∷ []

-- step b, slot number: nothing else tells 7 and 8 apart
abbrev pub b_slot_number : List Played
b_slot_number =
    Start 2 1 gives started!
    ∷ Begin 0 0 100 gives begun!
    ∷ Begin 0 1 100 gives begun!
    ∷ Request 0 0 7 0 gives fetch! 1 0
    ∷ Request 0 1 8 0 gives fetch! 1 1
    ∷ Tick 256 gives clock! 1
    ∷ End 0 0 gives ended!
    ∷ End 0 1 gives ended!
    ∷ Begin 0 2 100 gives begun!
    ∷ Request 0 2 9 0 gives fetch! 2 0
    ∷ []

-- step c before d: level 1 has 1,024 unpinned and pins 1,025, whose holder has the worse priority; 1,024 goes and nobody is killed
abbrev pub c_before_d : List Played
c_before_d =
    Start 2 1 gives started!
    ∷ Begin 1 0 50 gives begun!
    ∷ Begin 1 1 100 gives begun!
    ∷ Request 1 1 1025 0 gives fetch! 1 0
    ∷ Request 1 0 1024 0 gives fetch! 1 1
    ∷ Tick 256 gives clock! 1
    ∷ Unpin 1 0 1024 gives unpinned!
    ∷ Begin 0 0 100 gives begun!
    ∷ Request 0 0 7 0 gives fetch! 2 1
    ∷ Look 1 1 gives idle!
    ∷ []

-- step e before f: the same with rows of the requester's own level
abbrev pub e_before_f : List Played
e_before_f =
    Start 2 1 gives started!
    ∷ Begin 0 0 50 gives begun!
    ∷ Begin 0 1 100 gives begun!
    ∷ Request 0 1 8 0 gives fetch! 1 0
    ∷ Request 0 0 7 0 gives fetch! 1 1
    ∷ Tick 256 gives clock! 1
    ∷ Unpin 0 0 7 gives unpinned!
    ∷ Begin 0 2 20 gives begun!
    ∷ Request 0 2 9 0 gives fetch! 2 1
    ∷ Look 0 1 gives idle!
    ∷ []

-- T-02: borders that fall or exceed 4,096, and borders set twice; a refused begin leaves them to be set, an accepted one does not, also once its row has ended;
-- a page at a border is of the class above it, one below it of the class below; equal borders leave class 1 empty; a start sets the usual borders again
abbrev pub other_borders : List Played
other_borders =
    Start 2 1 gives started!
    ∷ Borders 11 10 30 gives refused! 19
    ∷ Borders 10 31 30 gives refused! 19
    ∷ Borders 10 20 4097 gives refused! 19
    ∷ Borders 4096 4096 4096 gives borders!
    ∷ Begin 4 0 9 gives refused! 4
    ∷ Tick 256 gives clock! 1
    ∷ Borders 10 10 30 gives borders!
    ∷ Begin 0 0 9 gives begun!
    ∷ Borders 11 10 30 gives refused! 19
    ∷ Borders 10 10 30 gives refused! 20
    ∷ Request 0 0 10 0 gives refused! 13
    ∷ Request 0 0 9 0 gives fetch! 2 0
    ∷ End 0 0 gives ended!
    ∷ Borders 0 0 0 gives refused! 20
    ∷ Begin 1 0 9 gives begun!
    ∷ Request 1 0 10 0 gives refused! 13
    ∷ Request 1 0 9 1 gives refused! 14
    ∷ Begin 2 0 9 gives begun!
    ∷ Request 2 0 30 0 gives refused! 13
    ∷ Request 2 0 29 0 gives fetch! 2 1
    ∷ Begin 3 0 9 gives begun!
    ∷ Request 3 0 29 1 gives refused! 14
    ∷ Request 3 0 30 1 gives fetch! 2 0
    ∷ Start 2 1 gives started!
    ∷ Begin 0 0 9 gives begun!
    ∷ Request 0 0 1024 0 gives refused! 13
    ∷ Request 0 0 1023 0 gives fetch! 1 0
    ∷ []

-- the words that are left: look none, fetch and wait, view unseen, write and dormant;
-- 11 while fetching and while waiting; a tick that fills, its page in its slot
abbrev pub other_words : List Played
other_words =
    Start 1 1 gives started!
    ∷ Look 0 0 gives none!
    ∷ View 0 7 gives unseen!
    ∷ Begin 1 0 100 gives begun!
    ∷ Request 1 0 1024 1 gives fetch! 1 0
    ∷ Look 1 0 gives fetching! 1
    ∷ Request 1 0 1025 1 gives refused! 11
    ∷ View 1 1024 gives write! 1
    ∷ Tick 256 gives clock! 1
    ∷ Begin 2 0 100 gives begun!
    ∷ Request 2 0 1024 0 gives wait!
    ∷ Look 2 0 gives wait!
    ∷ Request 2 0 1024 0 gives refused! 11
    ∷ Tick 256 gives clock! 2
    ∷ Look 2 0 gives wait!
    ∷ End 1 0 gives ended!
    ∷ (Tick 256 gives clock! 3) and fill! 16 0
    ∷ Look 2 0 gives fetching! 4
    ∷ End 2 0 gives ended!
    ∷ View 3 1024 gives dormant! 1
    ∷ View 2 1024 gives unseen!
    ∷ []

-- document 02, T-04: two rows wait for one slot, which has a dirty page when it becomes free
abbrev pub two_wait : List Played
two_wait =
    Start 1 1 gives started!
    ∷ Begin 0 0 10 gives begun!
    ∷ Request 0 0 7 1 gives fetch! 1 0
    ∷ Tick 256 gives clock! 1
    ∷ Begin 0 1 60 gives begun!
    ∷ Request 0 1 8 0 gives wait!
    ∷ Begin 0 2 50 gives begun!
    ∷ Request 0 2 9 0 gives wait!
    ∷ Tick 256 gives clock! 2
    ∷ End 0 0 gives ended!
    ∷ Tick 255 gives refused! 21
    ∷ (Tick 256 gives clock! 3) and fill_back! 2 0 7
    ∷ Look 0 2 gives fetching! 4
    ∷ Look 0 1 gives wait!
    ∷ []

-- a row that waits is killed by the try of a better one, and skipped
abbrev pub killed_on_the_way : List Played
killed_on_the_way =
    Start 2 1 gives started!
    ∷ Begin 0 0 10 gives begun!
    ∷ Request 0 0 7 0 gives fetch! 1 0
    ∷ Begin 0 2 90 gives begun!
    ∷ Request 0 2 7 0 gives fetch! 1 0
    ∷ Tick 256 gives clock! 1
    ∷ Begin 0 1 50 gives begun!
    ∷ Request 0 1 7 1 gives wait!
    ∷ Request 0 0 9 0 gives fetch! 2 1
    ∷ Request 0 2 8 0 gives wait!
    ∷ Tick 256 gives clock! 2
    ∷ End 0 0 gives ended!
    ∷ (Tick 256 gives clock! 3) and fill! 1 0
    ∷ Look 0 1 gives idle!
    ∷ Look 0 2 gives taken!
    ∷ View 0 7 gives write! 1
    ∷ View 0 8 gives unseen!
    ∷ []

-- the level comes before the deadline, and each level is tried
abbrev pub lower_level_first : List Played
lower_level_first =
    Start 1 1 gives started!
    ∷ Begin 0 0 10 gives begun!
    ∷ Request 0 0 7 0 gives fetch! 1 0
    ∷ Begin 1 0 20 gives begun!
    ∷ Request 1 0 1024 0 gives wait!
    ∷ Begin 0 1 90 gives begun!
    ∷ Request 0 1 8 0 gives wait!
    ∷ End 0 0 gives ended!
    ∷ (Tick 256 gives clock! 1) and fill! 1 0
    ∷ Look 0 1 gives fetching! 2
    ∷ Look 1 0 gives wait!
    ∷ End 0 1 gives ended!
    ∷ (Tick 256 gives clock! 2) and fill! 8 0
    ∷ []

-- T-06: of rows 3, 1 and 2, begun in this order, 3 ends and begins again, and is the last; 2 is taken by 1, keeps its place until it ends, and is the last
-- when it begins again. A row of another level that begins between them changes nothing
abbrev pub first_come : List Played
first_come =
    Start 1 1 gives started!
    ∷ Begin 0 3 100 gives begun!
    ∷ Begin 1 0 100 gives begun!
    ∷ Begin 0 1 100 gives begun!
    ∷ Begin 0 2 100 gives begun!
    ∷ End 0 3 gives ended!
    ∷ Begin 0 3 100 gives begun!
    ∷ Request 0 2 7 0 gives fetch! 1 0
    ∷ Request 0 3 8 0 gives wait!
    ∷ Request 0 1 9 0 gives fetch! 1 0
    ∷ Look 0 2 gives taken!
    ∷ End 1 0 gives ended!
    ∷ End 0 2 gives ended!
    ∷ Begin 0 2 100 gives begun!
    ∷ Request 0 2 7 0 gives wait!
    ∷ End 0 1 gives ended!
    ∷ (Tick 256 gives clock! 1) and fill! 3 0
    ∷ Look 0 2 gives wait!
    ∷ []

abbrev pub table : List (List Played)
table =
    session
    ∷ m1
    ∷ m2
    ∷ m3
    ∷ m4
    ∷ m5
    ∷ m6 2 3
    ∷ m6_round 2 3
    ∷ m6 3 2
    ∷ m6_round 3 2
    ∷ m7
    ∷ m8
    ∷ m8_instead
    ∷ m9
    ∷ m10
    ∷ m11
    ∷ deadline_at_clock
    ∷ b_lowest_level
    ∷ b_clean_first
    ∷ b_least_touch
    ∷ b_slot_number
    ∷ c_before_d
    ∷ e_before_f
    ∷ other_borders
    ∷ other_words
    ∷ two_wait
    ∷ killed_on_the_way
    ∷ lower_level_first
    ∷ first_come
    ∷ []

-- what the definitions answer, each example from a state that its first call replaces
abbrev pub fill_line : Fill → Line
fill_line f = record { word = 20; value = f.row; slot = f.slot + 1; back = page_back f.back }

unfoldable pub lines_from : State → List Call → List (List Line)
lines_from s [] = []
lines_from s (c ∷ cs) = (line (outcome s c).answer ∷ map fill_line (fills_of s c)) ∷ lines_from (outcome s c).state cs

abbrev pub lines : List Played → List (List Line)
lines ps = lines_from (fresh 1 1) (map call_of ps)
