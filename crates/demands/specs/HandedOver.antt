-- Document 02, T-07: an area of the last 32-bit layout that a call takes over; a run whose first calls were made by the software that wrote that layout, and demand 3 for such runs.
use Rattle.std.specs.Prelude.{◌≡◌, true, List, ◌++◌, ℕ, ◌≤◌}
use Rattle.model.specs.declared.Call.{Call}
use Rattle.rules.specs.Answers.{told}
use Rattle.rules.specs.Secrecy.{kept_calls, is_question}
use Rattle.rules.specs.Run.{outcome}
use Rattle.area.specs.Layout.{version, decoded, version_in}
use Rattle.layout32.specs.Layout as Old
use Rattle.layout32.specs.Sound32.{sound_area32}
use Rattle.sabre.specs.Lent.{sound_area, answer_on, area_after}
use Rattle.demands.specs.Runs.{Run, started_area, area_after_all, kept_answers_on, deliveries_on, Compared}

-- the call leaves the next state of the old area, in the layout that is written
pub record TakenOver (a : List ℕ) (c : Call) : Type 0 where
  pub next : decoded (area_after a c) ≡ (outcome (Old.decoded a) c).state
  pub is_sound : sound_area (area_after a c) ≡ true
  pub is_new : version_in (area_after a c) ≡ version

-- after the first calls of a run the area is not the one that they leave here, but an old one that names the same state. They were made by other software,
-- and what that answered is no part of this: the claims are about the calls after them. A tick that it refused by 17 at its last clock, last_clock32, is no call of the run.
pub record HandedOver (r : Run) : Type 0 where
  pub before : List Call
  pub after : List Call
  pub all : r.calls ≡ before ++ after
  pub area : List ℕ
  pub sound_old : sound_area32 area ≡ true
  pub same_state : Old.decoded area ≡ decoded (area_after_all (started_area r) before)

module _ (r : Run) (h : HandedOver r) where
  -- the area that the run has there if it is not handed over, and the one at the end of the run that is
  abbrev pub area_there : List ℕ
  area_there = area_after_all (started_area r) h.before

  abbrev pub handed_area : List ℕ
  handed_area = area_after_all h.area h.after

-- a place among the calls after the hand-over: those up to it and those from it on
pub record From (r : Run) (h : HandedOver r) : Type 0 where
  pub done : List Call
  pub rest : List Call
  pub parts : h.after ≡ done ++ rest

-- the area there
abbrev pub area_from : (r : Run) (h : HandedOver r) → From r h → List ℕ
area_from r h x = area_after_all h.area x.done

-- at each place after the hand-over any call is answered as in the run that was not handed over, so the next call of the run is, and any afterwards; and the deliveries come at the same ticks
pub record AsInRun (r : Run) (h : HandedOver r) : Type 0 where
  pub answers : (x : From r h) (c : Call) → answer_on (area_from r h x) c ≡ answer_on (area_after_all (started_area r) (h.before ++ x.done)) c
  pub delivered : (level number : ℕ) → deliveries_on h.area h.after level number ≡ deliveries_on (area_there r h) h.after level number

-- demand 3 for two runs that were handed over, each at its own time: from any two places on after the hand-overs from which the kept calls agree,
-- these have the same answers and each row of L or below the same deliveries; and each question afterwards is answered alike
pub record HandedAlike (L : ℕ) (r q : Run) (h : HandedOver r) (k : HandedOver q) : Type 0 where
  pub answers : (x : From r h) (y : From q k) → kept_calls L x.rest ≡ kept_calls L y.rest
      → kept_answers_on L (area_from r h x) x.rest ≡ kept_answers_on L (area_from q k y) y.rest
  pub delivered : (x : From r h) (y : From q k) → kept_calls L x.rest ≡ kept_calls L y.rest → (level number : ℕ) → level ≤ L → number ≤ 7
      → deliveries_on (area_from r h x) x.rest level number ≡ deliveries_on (area_from q k y) y.rest level number
  pub afterwards : (c : Call) → is_question L c ≡ true → told (answer_on (handed_area r h) c) ≡ told (answer_on (handed_area q k) c)

abbrev pub Demand3HandedOver : Type 0
Demand3HandedOver = (L : ℕ) (r q : Run) → Compared L r q → (h : HandedOver r) (k : HandedOver q) → HandedAlike L r q h k
