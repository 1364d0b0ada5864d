-- Demand 2 over lent areas: nobody is told that a page is ready before it has arrived; what wait and fetch say.
use mathlib.Core.Path.{◌≡◌, refl, sym, ◌∙◌}
use mathlib.Core.Bool.{Bool, true, false, ◌||◌}
use mathlib.Core.List.{List}
use mathlib.Core.Logic.{◌⊎◌}
use Prim.Native.Nat.{ℕ, ◌<◌, ◌≤◌}
use native.Mathlib.Omega.{arith}
use borrow.Author.Tests.{eqb-true}
use lib.Dec.{eqb}
use Rattle.seq.proofs.Tests.{true_false, and_left, and_right, parts, or_true_right, not_true_false}
use Rattle.model.specs.declared.Answer.{Answer}
use Rattle.model.specs.declared.Answer.TheVariants.{Ready, Fetch, Wait, RowIdle, RowFetching}
use Rattle.std.specs.Prelude.{Option}
use Rattle.model.specs.declared.Condition.{Condition}
use Rattle.model.specs.declared.Condition.TheVariants.{Free, Idle, Fetching, Waiting, Killed}
use Rattle.model.specs.declared.Mode.{Mode}
use Rattle.model.specs.declared.State.{State}
use Rattle.model.specs.Parties.{row_of}
use Rattle.model.specs.State.{row_at, holding_at}
use Rattle.model.specs.Words.{holds}
use Rattle.rules.specs.Answers.{word, is_ready, is_idle, may_use, told}
use Rattle.rules.specs.Calls.{served, looked}
use Rattle.model.specs.declared.Call.{Call}
use Rattle.model.specs.declared.Call.TheVariants.{Tick, Look}
use Rattle.rules.specs.Content.{fields, names_row, Fits}
use Rattle.rules.specs.Requests.{Asks, Names, Serves}
use Rattle.rules.specs.Sound.{sound}
use Rattle.rules.specs.Arrivals.{AllArrived, PinnedAndArrived}
use Rattle.rules.specs.Waits.{WaitReason}
use Rattle.rules.proofs.Promises.WaitFetch as Waits
use Rattle.rules.proofs.Promises.Arrived as States
use Rattle.rules.proofs.Promises.MayUse as Uses
use Rattle.area.specs.Layout.{decoded}
use Rattle.sabre.specs.Lent.{answer_on, is_refused, area_after, fit_area}
use Rattle.demands.specs.Runs.{ready_on, turns_idle_on, is_delivery_on}
use Rattle.demands.proofs.Areas.{accepted_sound, sound_answer, look_answer, look_named, looked_fetching}
use Rattle.demands.proofs.Refusals.{reading_leaves}
use Rattle.demands.proofs.Steps.{other_sound, step_on}
use Rattle.sabre.proofs.SoundAreas.{fit_area_lem}

-- ---- ready and idle

use_accepted : (x : Answer) → may_use x ≡ true → is_refused x ≡ false
unfolding may_use
use_accepted x e = not_true_false (is_refused x) (λ k. true_false (sym (rw (eqb-true (word x) 0 k) at e)))

-- On any area: an answer that says that a page may be used, ready or a look's idle, goes to a request or look of a row,
-- and in the area that the call leaves every page that the row holds has arrived.
pub may_use_arrived : (a : List ℕ) (c : Call) → Fits c → may_use (answer_on a c) ≡ true → (row : ℕ) × Names c row × AllArrived (decoded (area_after a c)) row
unfolding may_use word
may_use_arrived a c f e =
    let z = other_sound a c (answer_on a c) refl (use_accepted (answer_on a c) e) (λ k. true_false (sym (rw k at e))) in
    let x = step_on a c z f in
    rw x.1 (Uses.may_use_arrived (decoded a) (fit_area_lem a z).sound_state c (rw (← x.0) e))

-- ready comes only to a request; then, in the area that it leaves, the row holds the slot of the page asked for
-- with the pin asked for or a stronger one, holding and page have arrived, and so has every other page that the row holds
pub ready_arrived : (a : List ℕ) (c : Call) → Fits c → (slot : ℕ) (back : Option ℕ) → answer_on a c ≡ Ready slot back
    → (row : ℕ) × (page : ℕ) × (mode : Mode) × Asks c row page mode × PinnedAndArrived (decoded (area_after a c)) row page mode slot × AllArrived (decoded (area_after a c)) row
unfolding word
ready_arrived a c f slot back e =
    let z = other_sound a c (Ready slot back) e refl (λ k. true_false (cc)) in
    let x = step_on a c z f in
    rw x.1 (States.ready_arrived (decoded a) (fit_area_lem a z).sound_state c slot back (sym x.0 ∙ e))

-- a look answers idle only where every page that the row holds has arrived
pub look_idle : (a : List ℕ) (level number : ℕ) → is_idle (answer_on a (Look level number)) ≡ true → AllArrived (decoded a) (row_of level number)
unfolding may_use
look_idle a level number e =
    let u : may_use (answer_on a (Look level number)) ≡ true = or_true_right (is_ready (answer_on a (Look level number))) (is_idle (answer_on a (Look level number))) e in
    let n = look_named a level number (use_accepted (answer_on a (Look level number)) u) in
    let l = n.level_is in
    let m = n.number_is in
    let x = may_use_arrived a (Look level number) (omega arith) u in
    rw (← x.1.row_is) (rw (reading_leaves a (Look level number) refl) at x.2)

-- ---- deliveries

ready_used : (x : Answer) → is_ready x ≡ true → may_use x ≡ true
unfolding may_use
ready_used x e = rw e

either_way : {P : Type 0} (a b : Bool) → a || b ≡ true → (a ≡ true → P) → (b ≡ true → P) → P
either_way true b e f g = f refl
either_way false b e f g = g e

-- On any area: after a delivery every page that the row holds has arrived.
pub delivery_arrived : (a : List ℕ) (c : Call) → Fits c → (level number : ℕ) → is_delivery_on a c level number ≡ true → AllArrived (decoded (area_after a c)) (row_of level number)
unfolding is_delivery_on
delivery_arrived a c f level number e =
    either_way (ready_on a c level number) (turns_idle_on a c level number) e
    (λ h. asked (search parts depth 20) (search parts depth 20))
    (λ h. look_idle (area_after a c) level number (search parts depth 20))
  where
    asked : names_row level number c ≡ true → is_ready (answer_on a c) ≡ true → AllArrived (decoded (area_after a c)) (row_of level number)
    asked n r =
        let x = may_use_arrived a c f (ready_used (answer_on a c) r) in
        let l = eqb-true (fields c).level level (and_left (eqb (fields c).level level) (eqb (fields c).number number) n) in
        let m = eqb-true (fields c).number number (and_right (eqb (fields c).level level) (eqb (fields c).number number) n) in
        let w : row_of level number ≡ x.0 = omega (arith, x.1.row_is) in
        rw w x.2

-- ---- wait and fetch

-- On any area: wait comes only to a request, and only by steps 1 and g, for the reasons of T-05.
pub wait_only : (a : List ℕ) (c : Call) → answer_on a c ≡ Wait
    → (row : ℕ) × (page : ℕ) × (mode : Mode) × Asks c row page mode × WaitReason (decoded a) row page mode
unfolding word
wait_only a c e =
    let z = other_sound a c Wait e refl (λ k. true_false (cc)) in
    Waits.wait_only (decoded a) (fit_area_lem a z).sound_state c (sym (sound_answer a c z) ∙ e)

-- In the course of a call on an area that is sound in one of the two layouts, by a request and by the tries of a tick: each request that is served is served on a sound state, and waits there exactly for these reasons.
pub course_waits : (a : List ℕ) → fit_area a ≡ true → (c : Call) (u : State) (row page : ℕ) (mode : Mode) → Serves (decoded a) c u row page mode
    → (sound u ≡ true) × ((served u row page mode).answer ≡ Wait → WaitReason u row page mode) × (WaitReason u row page mode → (served u row page mode).answer ≡ Wait)
course_waits a z = Waits.course_waits (decoded a) (fit_area_lem a z).sound_state

-- On any area: a fetch is due after the clock, and the row is fetching until then.
pub fetch_due : (a : List ℕ) (c : Call) → Fits c → (due slot : ℕ) (back : Option ℕ) → answer_on a c ≡ Fetch due slot back
    → (row : ℕ) × (page : ℕ) × (mode : Mode) × Asks c row page mode × ((decoded a).clock < due) × ((row_at (decoded (area_after a c)) row).condition ≡ Fetching due)
unfolding word
fetch_due a c f due slot back e =
    let z = other_sound a c (Fetch due slot back) e refl (λ k. true_false (cc)) in
    let x = step_on a c z f in
    rw x.1 (Waits.fetch_due (decoded a) (fit_area_lem a z).sound_state c due slot back (sym x.0 ∙ e))

-- on such an area: where a page that the row then holds has not arrived, a request or look of the row is refused, or told fetch with that arrival
pub fetching_told : (a : List ℕ) → fit_area a ≡ true → (c : Call) → Fits c → (row slot : ℕ) → Names c row → row < 32 → slot < 64
    → holds (decoded (area_after a c)) slot row ≡ true → (decoded (area_after a c)).clock < (holding_at (decoded (area_after a c)) slot row).arrival
    → (word (answer_on a c) ≡ 0) ⊎ (told (answer_on a c) ≡ record { word = 4; value = (holding_at (decoded (area_after a c)) slot row).arrival })
fetching_told a z c f row slot n r b =
    let x = step_on a c z f in
    rw (x.0, x.1) (Uses.fetching_told (decoded a) (fit_area_lem a z).sound_state c row slot n r b)

-- a row that a look found fetching and finds idle after a tick has reached its due tick
pub tick_due : (a : List ℕ) (room level number due : ℕ) → answer_on a (Look level number) ≡ RowFetching due
    → answer_on (area_after a (Tick room)) (Look level number) ≡ RowIdle → due ≤ (decoded (area_after a (Tick room))).clock
unfolding word
tick_due a room level number due e k =
    let z = accepted_sound a (Look level number) refl (rw e) in
    let m = look_named a level number (rw e) in
    let l = m.level_is in
    let n = m.number_is in
    let x = step_on a (Tick room) z (omega arith) in
    let p = looked_fetching (row_at (decoded a) (row_of level number)).condition due (sym (look_answer a level number z l n) ∙ e) in
    let q = idle (row_at (decoded (area_after a (Tick room))) (row_of level number)).condition (sym (look_answer (area_after a (Tick room)) level number x.2 l n) ∙ k) in
    rw x.1 (States.tick_arrived (decoded a) (fit_area_lem a z).sound_state room (row_of level number) due m.row_is p (rw x.1 at q)).0
  where
    idle : (c : Condition) → looked c ≡ RowIdle → c ≡ Idle
    idle Free h = cc
    idle Idle h = refl
    idle (Fetching d) h = cc
    idle (Waiting page mode) h = cc
    idle (Killed cause) h = cc
