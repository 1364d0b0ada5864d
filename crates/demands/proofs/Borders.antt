-- Document 02, T-02, over lent areas: the borders are those that the last accepted call for borders names, and the usual ones until then;
-- borders that fall or exceed 4,096 are refused by 19, and all others by 20 exactly where a begin has been accepted since the start.
use mathlib.Core.Path.{◌≡◌, refl, sym, ◌∙◌, ap}
use mathlib.Core.Bool.{Bool, true, false, cond, ◌||◌, not}
use mathlib.Core.List.{List, [], ◌∷◌}
use Prim.Native.Nat.{ℕ, ◌<◌, ◌≤◌}
use native.Mathlib.Omega.{arith}
use Rattle.model.specs.declared.Answer.TheVariants.{Refused, RowFree, Bordered}
use Rattle.model.specs.declared.Borders.{Borders}
use Rattle.model.specs.declared.Call.{Call}
use Rattle.model.specs.declared.Call.TheVariants.{Look}
use Rattle.model.specs.Parties.{row_of, are_borders, usual_borders}
use Rattle.model.specs.declared.State.{State}
use Rattle.model.specs.State.{fresh, slot_at, with_borders}
use Rattle.model.proofs.ContentLaws.{page_has}
use Rattle.rules.specs.Answers.{is_started, is_begun, is_bordered}
use Rattle.rules.specs.Calls.{unless, bordered}
use Rattle.rules.specs.Content.{borders_named}
use Rattle.rules.specs.Refusals.{first_to_apply, borders_refusal}
use Rattle.rules.specs.Run.{outcome}
use Rattle.rules.proofs.Facts.SoundFacts.{borders_facts}
use Rattle.rules.proofs.Promises.Borders.{borders_after_lem, begun_after_lem}
use Rattle.area.specs.Layout.{low, decoded}
use Rattle.sabre.specs.Lent.{answer_on, area_after, fit_area}
use Rattle.seq.specs.Machine.{last_of}
use Rattle.seq.proofs.Tests.{true_false, or_none}
use Rattle.demands.specs.Runs.{AllFit, area_after_all, not_started_again, Run, started_area, last_borders, FromFreshStart}
use Rattle.demands.specs.BordersTold.{has_begun, borders_set}
use Rattle.demands.specs.SlotWords.{filled_word, page_word, begun_word}
use Rattle.demands.proofs.Areas.{sound_answer, look_answer}
use Rattle.demands.proofs.OneSlot.{filled_word_lem}
use Rattle.sabre.proofs.SoundAreas.{fit_area_lem}
use Rattle.demands.proofs.Steps.{started_area_lem, started_fit, step_on, run_fit_on, not_now}

-- what one call leaves
module _ (a : List ℕ) (c : Call) where
  next_borders : decoded (area_after a c) ≡ (outcome (decoded a) c).state → answer_on a c ≡ (outcome (decoded a) c).answer → is_started (answer_on a c) ≡ false
      → (decoded (area_after a c)).borders ≡ cond (is_bordered (answer_on a c)) (borders_named c) (decoded a).borders
  next_borders e w n = rw (e, borders_after_lem (decoded a) c, ← w, n)

  next_begun : decoded (area_after a c) ≡ (outcome (decoded a) c).state → answer_on a c ≡ (outcome (decoded a) c).answer → is_started (answer_on a c) ≡ false
      → (decoded (area_after a c)).begun ≡ is_begun (answer_on a c) || (decoded a).begun
  next_begun e w n = rw (e, begun_after_lem (decoded a) c, ← w, n)

-- a list of calls in which no start is accepted
all_borders : (cs : List Call) (a : List ℕ) → fit_area a ≡ true → AllFit cs → not_started_again a cs ≡ true
    → (decoded (area_after_all a cs)).borders ≡ borders_set (decoded a).borders a cs
unfolding area_after_all last_of borders_set
all_borders [] a z f n = refl
all_borders (c ∷ cs) a z f n =
    let p = step_on a c z f.0 in
    let m = not_now a c cs n in
    all_borders cs (area_after a c) p.2 f.1 m.1 ∙ rw (next_borders a c p.1 p.0 m.0)

all_begun : (cs : List Call) (a : List ℕ) → fit_area a ≡ true → AllFit cs → not_started_again a cs ≡ true
    → (decoded (area_after_all a cs)).begun ≡ has_begun a cs || (decoded a).begun
unfolding area_after_all last_of has_begun
all_begun [] a z f n = refl
all_begun (c ∷ cs) a z f n =
    let p = step_on a c z f.0 in
    let m = not_now a c cs n in
    all_begun cs (area_after a c) p.2 f.1 m.1 ∙ rw (next_begun a c p.1 p.0 m.0) (swap (is_begun (answer_on a c)) (has_begun (area_after a c) cs) (decoded a).begun)
  where
    swap : (x y b : Bool) → y || (x || b) ≡ (x || y) || b
    swap true true b = refl
    swap true false b = refl
    swap false y b = refl

module _ (r : Run) (f : FromFreshStart r) where
  abbrev end : List ℕ
  end = area_after_all (started_area r) r.calls

  pub borders_told : last_borders r ≡ borders_set usual_borders (started_area r) r.calls
  unfolding fresh
  borders_told =
      let x = started_area_lem r f in
      all_borders r.calls (started_area r) (started_fit r f) f.fit f.not_again ∙ rw x.0

  begun_told : (decoded end).begun ≡ has_begun (started_area r) r.calls
  unfolding fresh
  begun_told =
      let x = started_area_lem r f in
      all_begun r.calls (started_area r) (started_fit r f) f.fit f.not_again ∙ rw x.0 (or_none (has_begun (started_area r) r.calls))

  -- after the run
  pub borders_answer : (first second third : ℕ)
      → answer_on end (Call.Borders first second third)
      ≡ cond (not (are_borders (record { first = first; second = second; third = third }))) (Refused 19)
      (cond (has_begun (started_area r) r.calls) (Refused 20) Bordered)
  unfolding outcome bordered borders_refusal
  borders_answer first second third =
      let z = run_fit_on r.calls (started_area r) (started_fit r f) f.fit in
      sound_answer end (Call.Borders first second third) z
      ∙ ap (λ (y : Bool). (unless (first_to_apply ((19, x) ∷ (20, y) ∷ [])) s (record { state = with_borders s b; answer = Bordered })).answer) begun_told
      ∙ go x (has_begun (started_area r) r.calls)
    where
      s : State
      s = decoded end

      b : Borders
      b = record { first = first; second = second; third = third }

      x : Bool
      x = not (are_borders b)

      go : (p q : Bool) → (unless (first_to_apply ((19, p) ∷ (20, q) ∷ [])) s (record { state = with_borders s b; answer = Bordered })).answer ≡ cond p (Refused 19) (cond q (Refused 20) Bordered)
      go true q = refl
      go false true = refl
      go false false = refl

-- before any accepted begin a look tells of every row of an area that is sound in one of the two layouts that it is free, and no slot has a page
pub before_begin : (a : List ℕ) → fit_area a ≡ true → begun_word a ≡ 0
    → ((level number : ℕ) → level ≤ 3 → number ≤ 7 → answer_on a (Look level number) ≡ RowFree) × ((slot : ℕ) → slot < 64 → filled_word a slot ≡ 1 → ⊥)
unfolding decoded
before_begin a z e =
    let o = borders_facts (decoded a) (fit_area_lem a z).sound_state in
    let b : (decoded a).begun ≡ false = rw e in (
      λ level number l n. look_answer a level number z l n ∙ rw (o.free b (row_of level number) (omega arith)),
      λ slot h f. true_false (sym (page_has (low (page_word a slot)) (slot_at (decoded a) slot).content (filled_word_lem a slot h f)).0 ∙ o.empty b slot h),
    )
