-- Session S over lent areas: the calls give its numbers, whatever the area held before.
use mathlib.Core.Path.{◌≡◌, refl, ◌∙◌, ap}
use mathlib.Core.Bool.{true}
use mathlib.Core.List.{List, [], ◌∷◌, map}
use Prim.Native.Nat.{ℕ, ◌≤◌}
use native.Mathlib.Omega.{arith}
use lib.ListN.{length, get_or, drop}
use Rattle.model.specs.declared.Call.{Call}
use Rattle.model.specs.declared.Call.TheVariants.{Start}
use Rattle.model.specs.declared.State.{State}
use Rattle.model.specs.State.{fresh}
use Rattle.rules.specs.Calls.{started}
use Rattle.rules.specs.Marked.{Line, plain, call_of, lines_of, session, lines_from, lines}
use Rattle.rules.specs.Refusals.{start_refusal}
use Rattle.rules.specs.Run.{outcome, answers}
use Rattle.rules.proofs.MarkedHold.{table_holds}
use Rattle.area.specs.Layout.{decoded}
use Rattle.sabre.specs.Lent.{answer_on, area_after, answer_numbers, fit_area}
use Rattle.sabre.proofs.SoundAreas.{sound_fit}
use Rattle.demands.specs.Runs.{AllFit}
use Rattle.demands.specs.SessionNumbers.{numbers_on, session_numbers}
use Rattle.demands.proofs.Steps.{step_on, start_on}

-- the numbers of a call's own line, which stands first
abbrev own_numbers : List Line → List ℕ
own_numbers ls = let l = get_or ls 0 (plain 0 0) in l.word ∷ l.value ∷ l.slot ∷ l.back ∷ []

numbers_lines : (s : State) (cs : List Call) → map answer_numbers (answers s cs) ≡ map own_numbers (lines_from s cs)
unfolding answer_numbers answers lines_from
numbers_lines s [] = refl
numbers_lines s (c ∷ cs) = ap (◌∷◌ (answer_numbers (outcome s c).answer)) (numbers_lines (outcome s c).state cs)

-- calls on an area that is sound in one of the two layouts give the numbers of the answers from its state on
numbers_follow : (cs : List Call) (a : List ℕ) (s : State) → fit_area a ≡ true → decoded a ≡ s → AllFit cs → numbers_on a cs ≡ map answer_numbers (answers s cs)
unfolding numbers_on answers
numbers_follow [] a s z e f = refl
numbers_follow (c ∷ cs) a s z e f =
    let x = step_on a c z f.0 in
    let w : answer_on a c ≡ (outcome s c).answer = x.0 ∙ ap (λ (t : State). (outcome t c).answer) e in
    let h = numbers_follow cs (area_after a c) (outcome s c).state x.2 (x.1 ∙ ap (λ (t : State). (outcome t c).state) e) f.1 in
    λ i. answer_numbers (w i) ∷ h i

-- the session from its first line on
session_lines : lines session ≡ map lines_of session
session_lines = ap (λ (ls : List (List (List Line))). get_or ls 0 []) table_holds

pub session_numbers_lem : (a : List ℕ) → 65536 ≤ length a → numbers_on a (map call_of session) ≡ session_numbers
unfolding numbers_on answers outcome started start_refusal
session_numbers_lem a h =
    let x = start_on a 1 1 h (omega arith) (omega arith) (omega arith) (omega arith) in
    let t = numbers_follow (drop 1 (map call_of session)) (area_after a (Start 1 1)) (fresh 1 1) (sound_fit (area_after a (Start 1 1)) x.2) x.1 fits in
    let s : numbers_on a (map call_of session) ≡ map answer_numbers (answers (fresh 1 1) (map call_of session)) = λ i. answer_numbers (x.0 i) ∷ t i in
    s ∙ numbers_lines (fresh 1 1) (map call_of session) ∙ ap (map own_numbers) session_lines
  where
    fits : AllFit (drop 1 (map call_of session))
    fits = (omega arith, (omega arith, (omega arith, (omega arith, (omega arith, (omega arith, (omega arith, (omega arith, (omega arith, (omega arith, tt))))))))))
