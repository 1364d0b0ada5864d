-- Two areas that a clearance cannot tell apart, the second with the borders that the first one's run ends with: a kept call made on both, and any other call made on the first, leaves such areas.
-- A run beside the run of its kept calls alone.
use mathlib.Core.Path.{◌≡◌, refl, sym, ◌∙◌, ap}
use mathlib.Core.Bool.{Bool, true, false, ◌&&◌}
use mathlib.Core.List.{List, [], ◌∷◌, ◌++◌}
use Prim.Native.Nat.{ℕ, ◌≤◌}
use native.Mathlib.Omega.{arith}
use borrow.Author.Tests.{eqb-true, le-leb}
use Rattle.seq.proofs.Tests.{parts, not_true_false}
use Rattle.seq.specs.Machine.{last_of, noted, only}
use Rattle.seq.proofs.MachineLaws.{beside_last, beside_noted}
use Rattle.model.specs.declared.Borders.{Borders}
use Rattle.model.specs.declared.Call.{Call}
use Rattle.model.specs.declared.Call.TheVariants.{Look}
use Rattle.rules.specs.Answers.{word, is_started, Told, told}
use Rattle.rules.specs.Content.{fields, is_request, names_row, Fits}
use Rattle.rules.specs.Secrecy.{is_kept, kept_calls}
use Rattle.rules.proofs.Leaves.ContentLaws.{unkept, request_own}
use Rattle.rules.proofs.Leaves.SettingLaws.{frozen}
use Rattle.rules.proofs.Similar.{Similar, similar_clock, similar_told, similar_kept, similar_other}
use Rattle.area.specs.Layout.{decoded}
use Rattle.sabre.specs.Lent.{answer_on, area_after, fit_area}
use Rattle.demands.specs.Runs.{AllFit, area_after_all, not_started_again, kept_answers_on, is_delivery_on, deliveries_on}
use Rattle.demands.proofs.Areas.{sound_answer}
use Rattle.demands.proofs.Steps.{step_on, not_now}

module _ (L : ℕ) (most : L ≤ 3) (last : Borders) where
  -- two areas, each sound in one of the two layouts, that name states which the clearance cannot tell apart
  pub record Near (a b : List ℕ) : Type 0 where
    pub first : fit_area a ≡ true
    pub second : fit_area b ≡ true
    pub states : Similar L last (decoded a) (decoded b)

  -- once a row has begun, the area has the borders that the run ends with
  abbrev pub Settled : List ℕ → Type 0
  Settled a = (decoded a).begun ≡ true → (decoded a).borders ≡ last

  module _ (a b : List ℕ) (x : Near a b) where
    pub near_told : Settled a → (c : Call) → is_kept L c ≡ true → told (answer_on a c) ≡ told (answer_on b c)
    near_told g c k = rw (sound_answer a c x.first, sound_answer b c x.second) (similar_told L most last (decoded a) (decoded b) x.states g c k)

    near_word : Settled a → (c : Call) → is_kept L c ≡ true → word (answer_on a c) ≡ word (answer_on b c)
    unfolding told
    near_word g c k = ap (λ (t : Told). t.word) (near_told g c k)

    near_clock : (decoded a).clock ≡ (decoded b).clock
    near_clock = similar_clock L most last (decoded a) (decoded b) x.states

    near_kept : Settled a → (c : Call) → Fits c → is_kept L c ≡ true → Near (area_after a c) (area_after b c)
    near_kept g c f k =
        let p = step_on a c x.first f in
        let q = step_on b c x.second f in
        record { first = p.2; second = q.2; states = rw (p.1, q.1) (similar_kept L most last (decoded a) (decoded b) x.states g c k) }

    near_other : (c : Call) → Fits c → is_kept L c ≡ false → is_started (answer_on a c) ≡ false → Near (area_after a c) b
    near_other c f k n =
        let p = step_on a c x.first f in
        record { first = p.2; second = x.second; states = rw p.1 (similar_other L most last (decoded a) (decoded b) x.states c k (rw p.0 at n)) }

  -- what is known of a run that is not started again and ends with those borders, and of each of its calls
  abbrev pub Good : List ℕ → List Call → Type 0
  Good a cs = (fit_area a ≡ true) × AllFit cs × (not_started_again a cs ≡ true) × ((decoded (area_after_all a cs)).borders ≡ last)

  abbrev Fine : List ℕ → Call → Type 0
  Fine a c = Fits c × (is_started (answer_on a c) ≡ false) × Settled a × Settled (area_after a c)

  -- a kept call is a delivery of a row up to the clearance on both areas or on neither
  near_delivery : (a b : List ℕ) → Near a b → (c : Call) → Fine a c → is_kept L c ≡ true → Near (area_after a c) (area_after b c)
      → (level number : ℕ) → level ≤ L → is_delivery_on a c level number ≡ is_delivery_on b c level number
  unfolding is_delivery_on is_kept
  near_delivery a b x c f k y level number l =
      let kept : is_kept L (Look level number) ≡ true = le-leb level L l in
      rw (near_word a b x f.2 c k, near_word a b x f.2 (Look level number) kept, near_word (area_after a c) (area_after b c) y f.3 (Look level number) kept)

  -- a call that is not kept is no delivery of a row up to the clearance
  unkept_delivery : (a : List ℕ) (c : Call) → is_kept L c ≡ false → (level number : ℕ) → level ≤ L → is_delivery_on a c level number ≡ false
  unfolding is_delivery_on
  unkept_delivery a c k level number l =
      let u = unkept L c k in
      rw (
        not_true_false (is_request c && names_row level number c) (λ e.
            let own = (request_own c (search parts depth 20)).0 in
            let same = eqb-true (fields c).level level (search parts depth 20) in
            omega (arith, u.1 own)),
        u.0,
      )

  good_rest : (a : List ℕ) (c : Call) (cs : List Call) → Good a (c ∷ cs) → Good (area_after a c) cs
  unfolding area_after_all last_of
  good_rest a c cs g = ((step_on a c g.0 g.1.0).2, g.1.1, (not_now a c cs g.2).1, g.3)

  -- borders stay once a row has begun
  settled : (cs : List Call) (a : List ℕ) → Good a cs → Settled a
  unfolding area_after_all last_of
  settled [] a g b = g.3
  settled (c ∷ cs) a g b =
      let p = step_on a c g.0 g.1.0 in
      let f = frozen (decoded a) c b (rw p.0 at (not_now a c cs g.2).0) in
      sym f.0 ∙ (rw p.1 at (settled cs (area_after a c) (good_rest a c cs g))) (f.1 ∙ b)

  good_first : (a : List ℕ) (c : Call) (cs : List Call) → Good a (c ∷ cs) → Fine a c
  good_first a c cs g = (g.1.0, (not_now a c cs g.2).0, settled (c ∷ cs) a g, settled cs (area_after a c) (good_rest a c cs g))

  kept_step : (a b : List ℕ) → Near a b → (c : Call) → Fine a c → is_kept L c ≡ true → Near (area_after a c) (area_after b c)
  kept_step a b x c f k = near_kept a b x f.2 c f.0 k

  other_step : (a b : List ℕ) → Near a b → (c : Call) → Fine a c → is_kept L c ≡ false → Near (area_after a c) b
  other_step a b x c f k = near_other a b x c f.0 k f.1

  -- a run beside the run of its kept calls alone
  pub record Beside (a : List ℕ) (cs : List Call) (b : List ℕ) (ks : List Call) : Type 0 where
    pub answers : kept_answers_on L a cs ≡ kept_answers_on L b ks
    pub delivered : (level number : ℕ) → level ≤ L → deliveries_on a cs level number ≡ deliveries_on b ks level number
    pub areas : Near (area_after_all a cs) (area_after_all b ks)

  beside : (cs : List Call) (a b : List ℕ) → Near a b → Good a cs → Beside a cs b (kept_calls L cs)
  unfolding kept_calls kept_answers_on deliveries_on area_after_all
  beside cs a b x g = record {
    answers = same_notes (λ d c. is_kept L c) (λ d c. told (answer_on d c)) (λ d e y c f k. refl) (λ d e y c f k. near_told d e y f.2 c k) (λ d c k. k);
    delivered = λ level number l.
        same_notes (λ d c. is_delivery_on d c level number) (λ d c. (decoded (area_after d c)).clock)
        (λ d e y c f k. near_delivery d e y c f k (kept_step d e y c f k) level number l)
        (λ d e y c f k. near_clock (area_after d c) (area_after e c) (kept_step d e y c f k))
        (λ d c k. unkept_delivery d c k level number l);
    areas = beside_last area_after (is_kept L) Good Fine Near good_first good_rest kept_step other_step cs a b x g;
  }
    where
      same_notes : {E : Type 0} (mark : List ℕ → Call → Bool) (entry : List ℕ → Call → E)
          → ((d e : List ℕ) → Near d e → (c : Call) → Fine d c → is_kept L c ≡ true → mark d c ≡ mark e c)
          → ((d e : List ℕ) → Near d e → (c : Call) → Fine d c → is_kept L c ≡ true → entry d c ≡ entry e c)
          → ((d : List ℕ) (c : Call) → is_kept L c ≡ false → mark d c ≡ false)
          → noted area_after mark entry a cs ≡ noted area_after mark entry b (only (is_kept L) cs)
      same_notes mark entry m e n = beside_noted area_after (is_kept L) Good Fine Near good_first good_rest kept_step other_step mark entry m e n cs a b x g

  -- from a place on in the run
  near_from : (ds cs : List Call) (a b : List ℕ) → Near a b → Good a (cs ++ ds) → Near (area_after_all a cs) (area_after_all b (kept_calls L cs))
  unfolding kept_calls area_after_all
  near_from ds =
      beside_last area_after (is_kept L) (λ a cs. Good a (cs ++ ds)) Fine Near (λ a c cs. good_first a c (cs ++ ds)) (λ a c cs. good_rest a c (cs ++ ds)) kept_step other_step

  good_from : (ds cs : List Call) (a : List ℕ) → Good a (cs ++ ds) → Good (area_after_all a cs) ds
  unfolding area_after_all last_of
  good_from ds [] a g = g
  good_from ds (c ∷ cs) a g = good_from ds cs (area_after a c) (good_rest a c (cs ++ ds) g)

  -- so two runs that have the same kept calls up to a place and from there on are compared by one run of those
  pub beside_from : (cs ds js ks : List Call) → js ≡ kept_calls L cs → ks ≡ kept_calls L ds → (a b : List ℕ) → Near a b → Good a (cs ++ ds)
      → Beside (area_after_all a cs) ds (area_after_all b js) ks
  beside_from cs ds js ks e k a b x g = rw (e, k) (beside ds (area_after_all a cs) (area_after_all b (kept_calls L cs)) (near_from ds cs a b x g) (good_from ds cs a g))
