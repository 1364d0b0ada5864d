-- Demand 2 over lent areas: a call on an area that is sound in one of the two layouts, and a start on any area, gives the answer and the next state of the definitions, and leaves a sound area.
use mathlib.Core.Path.{◌≡◌, refl, sym, ◌∙◌, ap}
use mathlib.Core.Bool.{Bool, true, false, not, ◌||◌}
use mathlib.Core.List.{List, [], ◌∷◌, ◌++◌}
use Prim.Native.Nat.{ℕ, zero, suc, ◌≤◌, ◌^◌}
use native.Mathlib.Omega.{arith}
use borrow.Author.Tests.{le-ltb, le-leb, not-true}
use lib.Dec.{lit<}
use lib.ListN.{length, drop}
use Rattle.seq.proofs.Tests.{true_false, and_true}
use Rattle.seq.specs.Machine.{last_of, throughout}
use Rattle.model.specs.declared.Answer.{Answer}
use Rattle.model.specs.declared.Answer.TheVariants.{Started, Clock}
use Rattle.std.specs.Prelude.{Option}
use Rattle.model.specs.declared.Mode.{Mode}
use Rattle.model.specs.declared.Outcome.{Outcome}
use Rattle.model.specs.declared.State.{State}
use Rattle.model.specs.State.{fresh}
use Rattle.model.specs.Ranges.{StateOk}
use Rattle.rules.specs.Sound.{sound}
use Rattle.rules.specs.Answers.{word, is_started}
use Rattle.rules.specs.Refusals.{start_refusal, StartTaken}
use Rattle.rules.specs.Calls.{unless, started, waiting, granted, served}
use Rattle.model.specs.declared.Call.{Call}
use Rattle.model.specs.declared.Call.TheVariants.{Start, Tick}
use Rattle.rules.specs.Run.{outcome}
use Rattle.rules.specs.Content.{fields, is_start, is_reading, Fits}
use Rattle.rules.proofs.Leaves.ContentLaws.{start_is}
use Rattle.rules.proofs.Leaves.RefusalFacts.{start_taken}
use Rattle.rules.proofs.Leaves.CallEffects.{Effect, unchanged, starts, begins, unpins, ends, ticks, sets, serves, effect, reading_still}
use Rattle.rules.proofs.Promises.Serving.{Serving, waits, waits_g, joins, fills, serving}
use Rattle.rules.proofs.Promises.Granting.{granted_answer_lem}
use Rattle.rules.proofs.Stays.StaysFresh.{fresh_sound}
use Rattle.rules.proofs.Stays.StaysSound.{stays_sound}
use Rattle.rules.proofs.Promises.Widths.{fresh_narrow, stays_narrow, sound_ok, c_fits}
use Rattle.area.specs.Layout.{version, encoded, decoded}
use Rattle.area.proofs.RoundTrip.{decode_encode}
use Rattle.sabre.specs.Lent.{answer_on, is_refused, area_after, sound_area, fit_area}
use Rattle.demands.specs.Runs.{AllFit, AllOfC, area_after_all, not_started_again, Run, started_area, FromFreshStart}
use Rattle.demands.proofs.Areas.{unfit_start, accepted_sound, taken_fit, accepted_fit, fit_long, fit_answer}
use Rattle.sabre.proofs.SoundAreas.{encode_sound, sound_fit, fit_area_lem, fit_ok}

-- ---- a refused call leaves the state

-- a served request is not refused
granted_accepted : (u : State) (row slot : ℕ) (mode : Mode) (arrival : ℕ) (back : Option ℕ) → is_refused (granted u row slot mode arrival back).answer ≡ false
unfolding word
granted_accepted u row slot mode arrival back =
    granted_answer_lem u row slot mode arrival back (granted u row slot mode arrival back).answer refl
    (λ q k. rw k refl)
    (λ q k. rw k refl)

pub served_accepted : (s : State) (row page : ℕ) (mode : Mode) → is_refused (served s row page mode).answer ≡ false
unfolding waiting word
served_accepted s row page mode = go (served s row page mode) (serving s row page mode)
  where
    go : (o : Outcome) → Serving s row page mode o → is_refused o.answer ≡ false
    go o (waits slot e v w q) = rw q refl
    go o (waits_g e n q) = rw q refl
    go o (joins slot arrival some e n q) = rw q (granted_accepted _ _ _ _ _ _)
    go o (fills slot e n q) = rw q (granted_accepted _ _ _ _ _ _)

pub refused_still : (s : State) (c : Call) → is_refused (outcome s c).answer ≡ true → (outcome s c).state ≡ s
unfolding word
refused_still s c = go (outcome s c) (effect s c)
  where
    go : (o : Outcome) → Effect s c o → is_refused o.answer ≡ true → o.state ≡ s
    go o (unchanged a q e) r = rw e
    go o (starts slots delay q t e) r = true_false (sym (rw e at r))
    go o (begins level number deadline q t e) r = true_false (sym (rw e at r))
    go o (unpins level number page slot q t f p e) r = true_false (sym (rw e at r))
    go o (ends level number q n e) r = true_false (sym (rw e at r))
    go o (ticks room q w h e) r = true_false (sym (rw e at r))
    go o (sets b q t e) r = true_false (sym (rw e at r))
    go o (serves row page mode b a m e) r = true_false (sym (rw e at r) ∙ served_accepted s row page mode)

-- ---- start

start_accepted : (slots delay : ℕ) → 1 ≤ slots → slots ≤ 64 → 1 ≤ delay → delay ≤ 255 → start_refusal slots delay ≡ 0
unfolding start_refusal
start_accepted slots delay a b c d = rw (le-leb 1 slots a, le-leb slots 64 b, le-leb 1 delay c, le-leb delay 255 d)

-- a start is refused or answered started
pub start_answer : (a : List ℕ) (slots delay : ℕ) → is_refused (answer_on a (Start slots delay)) ≡ false → (start_refusal slots delay ≡ 0) × (answer_on a (Start slots delay) ≡ Started)
unfolding outcome started word
start_answer a slots delay e =
    let f = fit_answer a (Start slots delay) (accepted_fit a (Start slots delay) e) in
    let x = go (start_refusal slots delay) (sym (ap is_refused f) ∙ e) in
    (x.0, f ∙ x.1)
  where
    go : (n : ℕ) → is_refused (unless n (decoded a) (record { state = fresh slots delay; answer = Started })).answer ≡ false
        → (n ≡ 0) × ((unless n (decoded a) (record { state = fresh slots delay; answer = Started })).answer ≡ Started)
    go zero k = (refl, refl)
    go (suc n) k = true_false k

-- start is answered started only where the area is long enough and its numbers are in range
pub start_only : (a : List ℕ) (slots delay : ℕ) → answer_on a (Start slots delay) ≡ Started → (65536 ≤ length a) × StartTaken slots delay
unfolding word
start_only a slots delay e =
    (fit_long a (Start slots delay) (accepted_fit a (Start slots delay) (rw e)), start_taken slots delay (start_answer a slots delay (rw e)).0)

-- any other answer that is no refusal is given on areas alone that are sound in one of the two layouts
pub other_sound : (a : List ℕ) (c : Call) (x : Answer) → answer_on a c ≡ x → is_refused x ≡ false → (x ≡ Started → ⊥) → fit_area a ≡ true
other_sound a c x e r n = go (is_start c) refl
  where
    go : (b : Bool) → is_start c ≡ b → fit_area a ≡ true
    go true o =
        let k : answer_on a (Start (fields c).slots (fields c).delay) ≡ x = rw (start_is c o) at e in
        absurd (n (sym k ∙ (start_answer a (fields c).slots (fields c).delay (rw k r)).1))
    go false o = accepted_sound a c o (rw e r)

-- ---- calls

-- the area that an accepted call leaves that does not only read, where the next state's numbers fit
accepted_area : (a : List ℕ) (c : Call) → is_refused (answer_on a c) ≡ false → is_reading c ≡ false → StateOk (outcome (decoded a) c).state → sound (outcome (decoded a) c).state ≡ true
    → (decoded (area_after a c) ≡ (outcome (decoded a) c).state) × (sound_area (area_after a c) ≡ true)
unfolding area_after
accepted_area a c e r ok z =
    let t = (outcome (decoded a) c).state in
    (rw (e, r) (decode_encode version (lit< tt) t ok (drop 65536 a)), rw (e, r) (encode_sound t ok (drop 65536 a) z))

-- a call on an area that is sound in one of the two layouts
module _ (a : List ℕ) (c : Call) (z : fit_area a ≡ true) (f : Fits c) where
  answered : answer_on a c ≡ (outcome (decoded a) c).answer
  answered = fit_answer a c (taken_fit a c z)

  -- where it is refused or only reads
  still_area : is_refused (answer_on a c) || is_reading c ≡ true → (outcome (decoded a) c).state ≡ decoded a
      → (decoded (area_after a c) ≡ (outcome (decoded a) c).state) × (fit_area (area_after a c) ≡ true)
  unfolding area_after
  still_area e k = (rw e (sym k), rw e z)

  -- where it is accepted and does not only read, it leaves the layout that is written
  pub changed_area : is_refused (answer_on a c) ≡ false → is_reading c ≡ false → (decoded (area_after a c) ≡ (outcome (decoded a) c).state) × (sound_area (area_after a c) ≡ true)
  changed_area e r =
      let s = (fit_area_lem a z).sound_state in
      let t = stays_sound (decoded a) c s in
      accepted_area a c e r (sound_ok (outcome (decoded a) c).state t (stays_narrow (2 ^ 64) (lit< tt) (decoded a) c s f.deadline (λ row. ((fit_ok a z).row row).deadline))) t

  pub step_on : (answer_on a c ≡ (outcome (decoded a) c).answer) × (decoded (area_after a c) ≡ (outcome (decoded a) c).state) × (fit_area (area_after a c) ≡ true)
  step_on = let x = go (is_refused (answer_on a c)) (is_reading c) refl refl in (answered, x.0, x.1)
    where
      go : (b r : Bool) → is_refused (answer_on a c) ≡ b → is_reading c ≡ r → (decoded (area_after a c) ≡ (outcome (decoded a) c).state) × (fit_area (area_after a c) ≡ true)
      go true r e n = still_area (rw e) (refused_still (decoded a) c (sym (ap is_refused answered) ∙ e))
      go false true e n = still_area (rw (e, n)) (reading_still (decoded a) c n)
      go false false e n = let x = changed_area e n in (x.0, sound_fit (area_after a c) x.1)

-- an area of the layout that is written stays one
pub step_sound : (a : List ℕ) (c : Call) → sound_area a ≡ true → Fits c → sound_area (area_after a c) ≡ true
unfolding area_after
step_sound a c z f = go (is_refused (answer_on a c)) (is_reading c) refl refl
  where
    still : is_refused (answer_on a c) || is_reading c ≡ true → sound_area (area_after a c) ≡ true
    still e = rw e z

    go : (b r : Bool) → is_refused (answer_on a c) ≡ b → is_reading c ≡ r → sound_area (area_after a c) ≡ true
    go true r e n = still (rw e)
    go false true e n = still (rw (e, n))
    go false false e n = (changed_area a c (sound_fit a z) f e n).1

-- an accepted tick, on any area
pub record TickOn (a : List ℕ) (room clock : ℕ) : Type 0 where
  pub sound_before : fit_area a ≡ true
  pub sound_state : sound (decoded a) ≡ true
  pub answer : (outcome (decoded a) (Tick room)).answer ≡ Clock clock
  pub left : decoded (area_after a (Tick room)) ≡ (outcome (decoded a) (Tick room)).state
  pub sound_after : sound_area (area_after a (Tick room)) ≡ true

pub tick_on : (a : List ℕ) (room clock : ℕ) → answer_on a (Tick room) ≡ Clock clock → TickOn a room clock
unfolding word
tick_on a room clock e =
    let z = accepted_sound a (Tick room) refl (rw e) in
    let x = step_on a (Tick room) z (omega arith) in
    record { sound_before = z; sound_state = (fit_area_lem a z).sound_state; answer = sym x.0 ∙ e; left = x.1; sound_after = (changed_area a (Tick room) z (omega arith) (rw e) refl).1 }

-- a start on any area that is long enough
pub start_on : (a : List ℕ) (slots delay : ℕ) → 65536 ≤ length a → 1 ≤ slots → slots ≤ 64 → 1 ≤ delay → delay ≤ 255
    → (answer_on a (Start slots delay) ≡ Started)
    × (decoded (area_after a (Start slots delay)) ≡ fresh slots delay)
    × (sound_area (area_after a (Start slots delay)) ≡ true)
unfolding outcome started word
start_on a slots delay n h i j k =
    let r = start_accepted slots delay h i j k in
    let o : outcome (decoded a) (Start slots delay) ≡ record { state = fresh slots delay; answer = Started } = rw r in
    let w : answer_on a (Start slots delay) ≡ Started = fit_answer a (Start slots delay) (unfit_start a slots delay ∙ le-ltb (length a) 65536 n) ∙ rw o in
    let z = fresh_sound slots delay h i j k in
    let x = accepted_area a (Start slots delay) (rw w) refl (rw o (sound_ok (fresh slots delay) z (fresh_narrow (2 ^ 64) (lit< tt) slots delay))) (rw o z) in
    (w, x.0 ∙ rw o, x.1)

-- its bytes are those of the fresh state, whatever the area held before
pub start_bytes : (a : List ℕ) (slots delay : ℕ) → answer_on a (Start slots delay) ≡ Started → area_after a (Start slots delay) ≡ encoded (fresh slots delay) ++ drop 65536 a
unfolding area_after outcome started word
start_bytes a slots delay e =
    let t = (start_only a slots delay e).1 in
    let r = start_accepted slots delay t.slots_least t.slots_most t.delay_least t.delay_most in
    rw (e, r)

-- ---- lists of calls

-- every list of calls that C can make has numbers that fit
pub c_all_fit : (cs : List Call) → AllOfC cs → AllFit cs
c_all_fit [] h = tt
c_all_fit (c ∷ cs) h = (c_fits c h.0, c_all_fit cs h.1)

-- every list of calls leaves a sound area sound, and one that is sound in the last 32-bit layout sound in one of the two
pub run_sound_on : (cs : List Call) (a : List ℕ) → sound_area a ≡ true → AllFit cs → sound_area (area_after_all a cs) ≡ true
unfolding area_after_all last_of
run_sound_on [] a z f = z
run_sound_on (c ∷ cs) a z f = run_sound_on cs (area_after a c) (step_sound a c z f.0) f.1

pub run_fit_on : (cs : List Call) (a : List ℕ) → fit_area a ≡ true → AllFit cs → fit_area (area_after_all a cs) ≡ true
unfolding area_after_all last_of
run_fit_on [] a z f = z
run_fit_on (c ∷ cs) a z f = run_fit_on cs (area_after a c) (step_on a c z f.0).2 f.1

-- so every area that a list of calls leaves from an accepted start on, whatever the area held before, is sound
pub started_sound_on : (a : List ℕ) (slots delay : ℕ) (cs : List Call) → answer_on a (Start slots delay) ≡ Started → AllFit cs
    → sound_area (area_after_all a (Start slots delay ∷ cs)) ≡ true
unfolding area_after_all last_of
started_sound_on a slots delay cs e =
    let t = start_only a slots delay e in
    run_sound_on cs (area_after a (Start slots delay)) (start_on a slots delay t.0 t.1.slots_least t.1.slots_most t.1.delay_least t.1.delay_most).2

-- in a run that is not started again no start is accepted now or later
pub not_now : (a : List ℕ) (c : Call) (cs : List Call) → not_started_again a (c ∷ cs) ≡ true → (is_started (answer_on a c) ≡ false) × (not_started_again (area_after a c) cs ≡ true)
unfolding not_started_again throughout
not_now a c cs e =
    let p = and_true (not (is_started (answer_on a c))) (not_started_again (area_after a c) cs) e in
    (not-true (is_started (answer_on a c)) p.0, p.1)

-- the area that a run's start leaves
pub started_area_lem : (r : Run) → FromFreshStart r → (decoded (started_area r) ≡ fresh r.slots r.delay) × (sound_area (started_area r) ≡ true)
started_area_lem r f =
    let t = start_only r.area r.slots r.delay f.started in
    let x = start_on r.area r.slots r.delay t.0 t.1.slots_least t.1.slots_most t.1.delay_least t.1.delay_most in
    (x.1, x.2)

pub started_fit : (r : Run) → FromFreshStart r → fit_area (started_area r) ≡ true
started_fit r f = sound_fit (started_area r) (started_area_lem r f).1
