-- Document 01, "The calls", request, step 3, over lent areas: a page that the requester does not see is due at clock + delay, whatever is in the slots.
use mathlib.Core.Path.{◌≡◌, refl, sym, ◌∙◌, ap}
use mathlib.Core.Bool.{true, false}
use mathlib.Core.List.{List}
use Prim.Native.Nat.{ℕ, zero, suc}
use native.Mathlib.Omega.{arith}
use Rattle.seq.proofs.Tests.{true_false}
use Rattle.model.specs.declared.Answer.TheVariants.{PageUnseen}
use Rattle.model.specs.declared.Call.{Call}
use Rattle.model.specs.declared.Call.TheVariants.{Request, View}
use Rattle.model.specs.declared.Mode.{Mode}
use Rattle.model.specs.declared.State.{State}
use Rattle.model.specs.Parties.{row_of, level_of, mode_of}
use Rattle.model.specs.Words.{slot_of}
use Rattle.rules.specs.Answers.{word}
use Rattle.rules.specs.Arrivals.{Charged}
use Rattle.rules.specs.Calls.{unless, served, requested, viewed_in, viewed}
use Rattle.rules.specs.Content.{Fits}
use Rattle.rules.specs.Refusals.{request_refusal, view_refusal}
use Rattle.rules.specs.Requests.{Serves}
use Rattle.rules.specs.Run.{outcome}
use Rattle.rules.specs.Sound.{sound}
use Rattle.rules.proofs.Leaves.RefusalFacts.{request_taken}
use Rattle.rules.proofs.Promises.Charged as States
use Rattle.rules.proofs.Promises.WaitFetch.{course_sound}
use Rattle.area.specs.Layout.{decoded}
use Rattle.sabre.specs.Lent.{answer_on, is_refused, area_after, fit_area}
use Rattle.sabre.proofs.SoundAreas.{fit_area_lem}
use Rattle.demands.proofs.Areas.{accepted_sound, sound_answer}
use Rattle.demands.proofs.Steps.{step_on}

-- a view that tells unseen
view_unseen : (s : State) (level page : ℕ) → (viewed s level page).answer ≡ PageUnseen → viewed_in (slot_of s page) s level ≡ PageUnseen
unfolding viewed
view_unseen s level page = go (view_refusal level page)
  where
    go : (n : ℕ) → (unless n s (record { state = s; answer = viewed_in (slot_of s page) s level })).answer ≡ PageUnseen → viewed_in (slot_of s page) s level ≡ PageUnseen
    go zero e = e
    go (suc n) e = true_false (cc)

-- On any area: where a view at a row's level tells that the page is unseen, a request of the row for it that is not refused waits,
-- or is told fetch, due at clock + delay; and the row is fetching until then.
pub unseen_charged : (a : List ℕ) (level number page mode : ℕ) → Fits (Request level number page mode) → answer_on a (View level page) ≡ PageUnseen
    → is_refused (answer_on a (Request level number page mode)) ≡ false
    → Charged (decoded a) (row_of level number) (record { state = decoded (area_after a (Request level number page mode)); answer = answer_on a (Request level number page mode) })
unfolding outcome requested word
unseen_charged a level number page mode f e accepted =
    let z = accepted_sound a (View level page) refl (rw e) in
    let x = step_on a (Request level number page mode) z f in
    let v = view_unseen (decoded a) level page (sym (sound_answer a (View level page) z) ∙ e) in
    rw (x.0, x.1) (go (fit_area_lem a z).sound_state v (request_refusal (decoded a) level number page mode) refl (sym (ap is_refused x.0) ∙ accepted))
  where
    go : sound (decoded a) ≡ true → viewed_in (slot_of (decoded a) page) (decoded a) level ≡ PageUnseen → (n : ℕ) → request_refusal (decoded a) level number page mode ≡ n
        → is_refused (unless n (decoded a) (served (decoded a) (row_of level number) page (mode_of mode))).answer ≡ false
        → Charged (decoded a) (row_of level number) (unless n (decoded a) (served (decoded a) (row_of level number) page (mode_of mode)))
    go z v zero q k =
        let t = (request_taken (decoded a) level number page mode q).names in
        let l : level_of (row_of level number) ≡ level = omega (arith, t.number_is) in
        States.unseen_charged (decoded a) z (row_of level number) page (mode_of mode) t.row_is (rw l v)
    go z v (suc n) q k = true_false k

-- In the course of a call on an area that is sound in one of the two layouts, by a request and by the tries of a tick: so is each request that is served for a page that its row does not see there.
pub course_charged : (a : List ℕ) → fit_area a ≡ true → (c : Call) (u : State) (row page : ℕ) (mode : Mode) → Serves (decoded a) c u row page mode
    → viewed_in (slot_of u page) u (level_of row) ≡ PageUnseen → Charged u row (served u row page mode)
course_charged a z c u row page mode h =
    let y = course_sound (decoded a) (fit_area_lem a z).sound_state c u row page mode h in
    States.unseen_charged u y.0 row page mode y.1
