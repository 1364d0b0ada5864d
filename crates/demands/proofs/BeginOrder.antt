-- Document 02, T-06, over lent areas: the place words of a level's rows are their places in the begin order that the answers tell,
-- and rows of equal level and deadline rank by who began earlier.
use mathlib.Core.Path.{◌≡◌, refl, sym, ◌∙◌, ap}
use mathlib.Core.Bool.{Bool, true, false}
use mathlib.Core.List.{List, [], ◌∷◌}
use Prim.Native.Nat.{ℕ, ◌≤◌}
use native.Mathlib.Omega.{arith}
use lib.Dec.{ltb}
use Rattle.seq.specs.Machine.{last_of}
use Rattle.model.specs.declared.Answer.TheVariants.{RowFree}
use Rattle.model.specs.declared.Call.{Call}
use Rattle.model.specs.declared.Call.TheVariants.{Look}
use Rattle.model.specs.declared.Condition.{Condition}
use Rattle.model.specs.declared.Condition.TheVariants.{Free, Idle, Fetching, Waiting, Killed}
use Rattle.model.specs.Parties.{row_of, level_of}
use Rattle.model.specs.State.{row_at, place_at}
use Rattle.model.specs.Words.{is_free, rank_at, outranks}
use Rattle.model.proofs.PriorityLaws.{place_better}
use Rattle.rules.specs.Answers.{is_started}
use Rattle.rules.specs.BeginOrder.{place_in, InOrder}
use Rattle.rules.specs.Calls.{looked}
use Rattle.rules.specs.SoundFacts.{OrderSound}
use Rattle.rules.proofs.Facts.SoundFacts.{facts, is_free_lem}
use Rattle.rules.proofs.Promises.BeginOrder.{fresh_order, order_next_lem}
use Rattle.area.specs.Layout.{decoded}
use Rattle.area.proofs.Elements.{decoded_place}
use Rattle.sabre.specs.Lent.{answer_on, area_after, fit_area}
use Rattle.sabre.proofs.SoundAreas.{fit_area_lem}
use Rattle.demands.specs.Runs.{AllFit, area_after_all, not_started_again, Run, started_area, FromFreshStart}
use Rattle.demands.specs.OrderTold.{order_told, OrderNames}
use Rattle.demands.specs.SlotWords.{place_word}
use Rattle.demands.proofs.Areas.{look_answer}
use Rattle.demands.proofs.Steps.{started_area_lem, started_fit, step_on, not_now}

-- a list of calls in which no start is accepted
all_order : (level : ℕ) → level ≤ 3 → (cs : List Call) (a l : List ℕ) → fit_area a ≡ true → AllFit cs → not_started_again a cs ≡ true → InOrder (decoded a) level l
    → InOrder (decoded (area_after_all a cs)) level (order_told level l a cs)
unfolding area_after_all last_of order_told
all_order level b [] a l z f n o = o
all_order level b (c ∷ cs) a l z f n o =
    let p = step_on a c z f.0 in
    let m = not_now a c cs n in
    all_order level b cs (area_after a c) _ p.2 f.1 m.1
    (rw (p.1, p.0) (order_next_lem (decoded a) c (fit_area_lem a z).sound_state level b l o (sym (ap is_started p.0) ∙ m.0)))

module _ (r : Run) (f : FromFreshStart r) where
  abbrev end : List ℕ
  end = area_after_all (started_area r) r.calls

  -- the begin order of a level that the run's answers tell
  abbrev told : ℕ → List ℕ
  told level = order_told level [] (started_area r) r.calls

  run_order : (level : ℕ) → level ≤ 3 → InOrder (decoded end) level (told level)
  run_order level b =
      let x = started_area_lem r f in
      all_order level b r.calls (started_area r) [] (started_fit r f) f.fit f.not_again (rw x.0 (fresh_order r.slots r.delay level))

  pub order_told_lem : (level number : ℕ) → level ≤ 3 → number ≤ 7 → place_word end (row_of level number) ≡ place_in number (told level)
  order_told_lem level number l n = sym (decoded_place end (row_of level number) (omega arith)) ∙ (run_order level l).placed number n

  -- of two rows of one level with equal deadlines the one that began earlier ranks before
  pub first_come : (level x y : ℕ) → level ≤ 3 → x ≤ 7 → y ≤ 7 → (row_at (decoded end) (row_of level x)).deadline ≡ (row_at (decoded end) (row_of level y)).deadline
      → outranks (decoded end) (row_of level x) (row_of level y) ≡ ltb (place_in x (told level)) (place_in y (told level))
  unfolding outranks
  first_come level x y l b c e =
      let o = run_order level l in
      sym (place_better (rank_at (decoded end) (row_of level x)) (rank_at (decoded end) (row_of level y)) (omega arith) e)
      ∙ (λ i. ltb (o.placed x b i) (o.placed y c i))

-- a look that tells a row as free was made at a free row
looked_free : (x : Condition) → looked x ≡ RowFree → is_free x ≡ true
looked_free Free h = refl
looked_free Idle h = cc
looked_free (Fetching due) h = cc
looked_free (Waiting page mode) h = cc
looked_free (Killed cause) h = cc

pub order_names : (a : List ℕ) → fit_area a ≡ true → (level : ℕ) → level ≤ 3 → OrderNames a level
order_names a z level l = record {
  free = λ n b e. sym (place n b) ∙ o.none (row_of level n) (omega arith) (looked_free (row_at (decoded a) (row_of level n)).condition (sym (look_answer a level n z l b) ∙ e));
  none = λ n b e. by_look n b (λ f. f) (λ f. absurd (omega (arith, place n b, o.least (row_of level n) (omega arith) f)));
  least = least;
  most = λ n b m. by_look n b (λ f. absurd (m f)) (λ f. let e : level_of (row_of level n) ≡ level = omega arith in rw (← place n b) (rw e at (o.most (row_of level n) (omega arith) f)));
  once = λ x y b c m e.
      let q = o.once (row_of level x) (row_of level y) (omega arith) (omega arith) (omega arith) (rw (place x b) (least x b m)) (place x b ∙ e ∙ sym (place y c)) in
      omega arith;
}
  where
    o : OrderSound (decoded a)
    o = (facts (decoded a) (fit_area_lem a z).sound_state).order

    place : (n : ℕ) → n ≤ 7 → place_at (decoded a) (row_of level n) ≡ place_word a (row_of level n)
    place n b = decoded_place a (row_of level n) (omega arith)

    -- by whether a look tells the row as free
    by_look : {P : Type 0} (n : ℕ) → n ≤ 7 → (answer_on a (Look level n) ≡ RowFree → P) → (is_free (row_at (decoded a) (row_of level n)).condition ≡ false → P) → P
    by_look {P} n b f g = go (is_free (row_at (decoded a) (row_of level n)).condition) refl
      where
        go : (t : Bool) → is_free (row_at (decoded a) (row_of level n)).condition ≡ t → P
        go true e = f (look_answer a level n z l b ∙ rw (is_free_lem (row_at (decoded a) (row_of level n)).condition e))
        go false e = g e

    least : (n : ℕ) → n ≤ 7 → (answer_on a (Look level n) ≡ RowFree → ⊥) → 1 ≤ place_word a (row_of level n)
    least n b m = by_look n b (λ f. absurd (m f)) (λ f. rw (← place n b) (o.least (row_of level n) (omega arith) f))
