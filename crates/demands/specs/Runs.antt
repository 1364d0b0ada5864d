-- Demand 3 and document 01, "Two runs side by side", as T-02 and T-04 of document 02 have it, over lent areas: each call gets the area as the one before left it.
use Rattle.std.specs.Prelude.{◌≡◌, Bool, true, ◌&&◌, ◌||◌, not, List, [], ◌∷◌, ℕ, ◌≤◌}
use Rattle.seq.specs.Machine.{last_of, throughout, noted}
use Rattle.model.specs.declared.Answer.TheVariants.{Started}
use Rattle.model.specs.declared.Borders.{Borders}
use Rattle.model.specs.declared.Call.{Call}
use Rattle.model.specs.declared.Call.TheVariants.{Start, Look}
use Rattle.rules.specs.Answers.{is_started, is_ready, is_pending, is_idle, Told, told}
use Rattle.rules.specs.Content.{is_tick, is_request, names_row, Fits, OfC}
use Rattle.rules.specs.Secrecy.{is_kept, kept_calls, is_question}
use Rattle.area.specs.Layout.{decoded}
use Rattle.sabre.specs.Lent.{answer_on, area_after}

-- every number of every call of the list has its width
abbrev pub AllFit : List Call → Type 0
AllFit [] = Unit {0}
AllFit (c ∷ cs) = Fits c × AllFit cs

-- every call of the list is one that C can make
abbrev pub AllOfC : List Call → Type 0
AllOfC [] = Unit {0}
AllOfC (c ∷ cs) = OfC c × AllOfC cs

-- the area that a list of calls leaves
unfoldable pub area_after_all : List ℕ → List Call → List ℕ
area_after_all a cs = last_of area_after a cs

-- not started again: no call of the list is answered started, so that each start in it is refused
unfoldable pub not_started_again : List ℕ → List Call → Bool
not_started_again a cs = throughout area_after (λ b c. not (is_started (answer_on b c))) a cs

-- what the kept calls are answered
unfoldable pub kept_answers_on : ℕ → List ℕ → List Call → List Told
kept_answers_on L a cs = noted area_after (λ b c. is_kept L c) (λ b c. told (answer_on b c)) a cs

-- a row's delivery is a ready answer to its request,
-- or a tick over which a look at the row turns from fetch or wait to idle
abbrev pub ready_on : List ℕ → Call → ℕ → ℕ → Bool
ready_on a c level number = is_request c && names_row level number c && is_ready (answer_on a c)

abbrev pub turns_idle_on : List ℕ → Call → ℕ → ℕ → Bool
turns_idle_on a c level number = is_tick c && is_pending (answer_on a (Look level number)) && is_idle (answer_on (area_after a c) (Look level number))

unfoldable pub is_delivery_on : List ℕ → Call → ℕ → ℕ → Bool
is_delivery_on a c level number = ready_on a c level number || turns_idle_on a c level number

-- the ticks of one row's deliveries, each the clock after that call. A call delivers to the row once or not at all and adds one tick or none,
-- in the order of the calls: lists are equal where the row has as many deliveries in both runs, the first at the same tick, the second, and so on.
unfoldable pub deliveries_on : List ℕ → List Call → ℕ → ℕ → List ℕ
deliveries_on a cs level number = noted area_after (λ b c. is_delivery_on b c level number) (λ b c. (decoded (area_after b c)).clock) a cs

-- a run: a start of an area, whatever the area held before, and a list of calls after it
pub record Run : Type 0 where
  pub area : List ℕ
  pub slots : ℕ
  pub delay : ℕ
  pub calls : List Call

-- the area that its start leaves
abbrev pub started_area : Run → List ℕ
started_area r = area_after r.area (Start r.slots r.delay)

-- a run from a fresh start: the start is accepted, the run is not started again, and every number has its width
pub record FromFreshStart (r : Run) : Type 0 where
  pub started : answer_on r.area (Start r.slots r.delay) ≡ Started
  pub not_again : not_started_again (started_area r) r.calls ≡ true
  pub fit : AllFit r.calls

-- the borders that it ends with
abbrev pub last_borders : Run → Borders
last_borders r = (decoded (area_after_all (started_area r) r.calls)).borders

-- two runs that are compared for clearance L: with equal slots and equal delay, they end with the same borders,
-- and the kept calls, the ticks and the calls made by L and below, agree in order and content
pub record Compared (L : ℕ) (r q : Run) : Type 0 where
  pub clearance : L ≤ 3
  pub first : FromFreshStart r
  pub second : FromFreshStart q
  pub same_slots : r.slots ≡ q.slots
  pub same_delay : r.delay ≡ q.delay
  pub same_borders : last_borders r ≡ last_borders q
  pub same_kept : kept_calls L r.calls ≡ kept_calls L q.calls

-- what is said of them: the kept calls have the same answers, each row of L or below has the same deliveries at the same ticks,
-- and each look, view and count made at L or below afterwards is answered alike
pub record ToldAlike (L : ℕ) (r q : Run) : Type 0 where
  pub answers : kept_answers_on L (started_area r) r.calls ≡ kept_answers_on L (started_area q) q.calls
  pub delivered : (level number : ℕ) → level ≤ L → number ≤ 7
      → deliveries_on (started_area r) r.calls level number ≡ deliveries_on (started_area q) q.calls level number
  pub afterwards : (c : Call) → is_question L c ≡ true
      → told (answer_on (area_after_all (started_area r) r.calls) c) ≡ told (answer_on (area_after_all (started_area q) q.calls) c)

-- Demand 3, for any clearance and any two runs. In the literature this is noninterference: what the levels above L do
-- may be left out, put in or changed, and nothing that L and below are told differs.
abbrev pub Demand3 : Type 0
Demand3 = (L : ℕ) (r q : Run) → Compared L r q → ToldAlike L r q
