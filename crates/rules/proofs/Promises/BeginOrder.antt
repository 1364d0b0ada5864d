-- The places of a level's rows are their places in the begin order that the answers tell: a row that begins comes last, one that ends is taken out, and no other call changes an order.
use mathlib.Core.Path.{◌≡◌, refl, sym, ◌∙◌, ap}
use mathlib.Core.Bool.{Bool, true, false, cond, ◌&&◌, not}
use mathlib.Core.List.{List, [], ◌∷◌, ◌++◌}
use Prim.Native.Nat.{ℕ, ◌+◌, ◌-◌, ◌<◌, ◌≤◌}
use native.Mathlib.Omega.{arith}
use native.Mathlib.Decide.{ℕ_discrete, dec_lt}
use borrow.Author.Tests.{lt-ltb, le-ltb, eq-eqb, ne_eqb, eqb-true}
use lib.Dec.{eqb}
use lib.ListN.{length}
use Rattle.seq.specs.Below.{count_below}
use Rattle.seq.specs.Machine.{only}
use Rattle.seq.proofs.Tests.{true_false}
use Rattle.seq.proofs.BelowLaws.{count_same, count_none}
use Rattle.seq.proofs.CountLaws.{count_one_more}
use Rattle.seq.proofs.EachLaws.{replicate_at}
use Rattle.model.specs.declared.Answer.{Answer}
use Rattle.model.specs.declared.Call.{Call}
use Rattle.model.specs.declared.Outcome.{Outcome}
use Rattle.model.specs.declared.State.{State}
use Rattle.model.specs.Parties.{row_of, level_of}
use Rattle.model.specs.State.{fresh, row_at, place_at, with_borders}
use Rattle.model.specs.Words.{is_free}
use Rattle.model.specs.Changes.{released, killed, rows_not_free, moved_up}
use Rattle.model.proofs.PlaceLaws.{placed_at_lem, closed_at, moved_far}
use Rattle.rules.specs.Answers.{word, is_started, is_begun, is_ended}
use Rattle.rules.specs.BeginOrder.{place_in, order_next, Ordered, InOrder}
use Rattle.rules.specs.Calls.{row_begun, row_ended, unpinned_at, advanced, delivered_rows, late_killed, three_steps, served}
use Rattle.rules.specs.Content.{fields, is_begin, is_end}
use Rattle.rules.specs.Run.{outcome}
use Rattle.rules.specs.Sound.{sound}
use Rattle.rules.specs.Tries.{all_tried}
use Rattle.rules.specs.SoundFacts.{Sound}
use Rattle.rules.proofs.Facts.SoundFacts.{facts}
use Rattle.rules.proofs.Leaves.CallEffects.{Still, refused, looks, views, counts, Effect, unchanged, starts, begins, unpins, ends, ticks, sets, serves, effect}
use Rattle.rules.proofs.Leaves.RefusalFacts.{BeginTaken, EndTaken}
use Rattle.rules.proofs.Leaves.ServeCases.{served_fixed}
use Rattle.rules.proofs.Leaves.TryLaws.{tried_fixed}

-- ---- places in a list

-- a number is the first of a list, or not in it, or in its rest
module _ (n m : ℕ) (ms : List ℕ) where
  place_none : (n ≡ m → ⊥) → place_in n ms ≡ 0 → place_in n (m ∷ ms) ≡ 0
  unfolding place_in
  place_none e z = rw (ne_eqb n m e, z)

  place_later : (n ≡ m → ⊥) → 1 ≤ place_in n ms → place_in n (m ∷ ms) ≡ place_in n ms + 1
  unfolding place_in
  place_later e b = rw (ne_eqb n m e, ne_eqb (place_in n ms) 0 (λ z. omega arith))

  place_first : n ≡ m → place_in n (m ∷ ms) ≡ 1
  unfolding place_in
  place_first e = rw (eq-eqb n m e)

  by_place : {P : Type 0} → (n ≡ m → place_in n (m ∷ ms) ≡ 1 → P) → ((n ≡ m → ⊥) → place_in n ms ≡ 0 → place_in n (m ∷ ms) ≡ 0 → P)
      → ((n ≡ m → ⊥) → 1 ≤ place_in n ms → place_in n (m ∷ ms) ≡ place_in n ms + 1 → P) → P
  by_place f g h = elim (ℕ_discrete n m) [
    | yes e ↦ f e (place_first e)
    | no e ↦ elim (ℕ_discrete (place_in n ms) 0) [
      | yes z ↦ g e z (place_none e z)
      | no z ↦ let b : 1 ≤ place_in n ms = omega arith in h e b (place_later e b)
    ]
  ]

-- a number put at the end
module _ (n : ℕ) where
  put_other : (k : ℕ) (l : List ℕ) → (k ≡ n → ⊥) → place_in k (l ++ (n ∷ [])) ≡ place_in k l
  unfolding place_in
  put_other k [] e = rw (ne_eqb k n e)
  put_other k (m ∷ ms) e = rw (put_other k ms e)

  put_own : (l : List ℕ) → place_in n l ≡ 0 → place_in n (l ++ (n ∷ [])) ≡ length l + 1
  put_own [] z = place_first n n [] refl
  put_own (m ∷ ms) z = by_place n m ms (λ e q. absurd (omega arith))
      (λ e y q. let h = put_own ms y in place_later n m (ms ++ (n ∷ [])) e (omega arith) ∙ omega arith)
      (λ e b q. absurd (omega arith))

-- a number taken out
module _ (n : ℕ) where
  abbrev rest : List ℕ → List ℕ
  rest l = only (λ m. not (eqb m n)) l

  rest_first : (m : ℕ) (ms : List ℕ) → m ≡ n → rest (m ∷ ms) ≡ rest ms
  unfolding only
  rest_first m ms e = rw (eq-eqb m n e)

  rest_later : (m : ℕ) (ms : List ℕ) → (m ≡ n → ⊥) → rest (m ∷ ms) ≡ m ∷ rest ms
  unfolding only
  rest_later m ms e = rw (ne_eqb m n e)

  rest_none : (l : List ℕ) → place_in n l ≡ 0 → rest l ≡ l
  unfolding only
  rest_none [] z = refl
  rest_none (m ∷ ms) z = by_place n m ms (λ e q. absurd (omega arith))
      (λ e y q. rest_later m ms (λ w. e (sym w)) ∙ rw (rest_none ms y))
      (λ e b q. absurd (omega arith))

  rest_own : (l : List ℕ) → place_in n (rest l) ≡ 0
  unfolding only place_in
  rest_own [] = refl
  rest_own (m ∷ ms) = elim (ℕ_discrete m n) [
    | yes e ↦ rw (rest_first m ms e) (rest_own ms)
    | no e ↦ rw (rest_later m ms e) (place_none n m (rest ms) (λ w. e (sym w)) (rest_own ms))
  ]

  -- those ahead of it stay
  rest_ahead : (k : ℕ) (l : List ℕ) → (k ≡ n → ⊥) → place_in k l ≤ place_in n l → place_in k (rest l) ≡ place_in k l
  unfolding only place_in
  rest_ahead k [] e h = refl
  rest_ahead k (m ∷ ms) e h = go (ℕ_discrete m n) (rest_ahead k ms e)
    where
      go : Dec (m ≡ n) → (place_in k ms ≤ place_in n ms → place_in k (rest ms) ≡ place_in k ms) → place_in k (rest (m ∷ ms)) ≡ place_in k (m ∷ ms)
      go (yes w) f = rw (rest_first m ms w) (by_place k m ms (λ x q. absurd (e (x ∙ w)))
          (λ x y q. f (omega arith) ∙ omega arith)
          (λ x b q. absurd (omega (arith, place_first n m ms (sym w)))))
      go (no w) f = rw (rest_later m ms w) (by_place k m ms (λ x q. place_first k m (rest ms) x ∙ sym q)
          (λ x y q. place_none k m (rest ms) x (f (omega arith) ∙ y) ∙ sym q)
          (λ x b q. by_place n m ms (λ u v. absurd (w (sym u)))
          (λ u v t. absurd (omega arith))
          (λ u v t. let i = f (omega arith) in place_later k m (rest ms) x (omega arith) ∙ omega arith)))

-- those behind it move up by one
rest_behind : (n k : ℕ) (l : List ℕ) → Ordered l → 1 ≤ place_in n l → place_in n l < place_in k l → place_in k (rest n l) ≡ place_in k l - 1
unfolding place_in
rest_behind n k [] o b h = absurd (omega arith)
rest_behind n k (m ∷ ms) o b h = go (ℕ_discrete m n) (rest_behind n k ms o.2)
  where
    go : Dec (m ≡ n) → (1 ≤ place_in n ms → place_in n ms < place_in k ms → place_in k (rest n ms) ≡ place_in k ms - 1) → place_in k (rest n (m ∷ ms)) ≡ place_in k (m ∷ ms) - 1
    go (yes w) f = rw (rest_first n m ms w, rest_none n ms (ap (λ (i : ℕ). place_in i ms) (sym w) ∙ o.1)) (by_place k m ms (λ x q. absurd (omega arith))
        (λ x y q. absurd (omega arith))
        (λ x c q. omega arith))
    go (no w) f = rw (rest_later n m ms w) (by_place n m ms (λ u v. absurd (w (sym u)))
        (λ u v t. absurd (omega arith))
        (λ u v t. by_place k m ms (λ x q. absurd (omega arith))
        (λ x y q. absurd (omega arith))
        (λ x c q. let i = f v (omega arith) in place_later k m (rest n ms) x (omega arith) ∙ omega arith)))

-- both leave numbers of rows, each once
put_ordered : (n : ℕ) (l : List ℕ) → Ordered l → n ≤ 7 → place_in n l ≡ 0 → Ordered (l ++ (n ∷ []))
unfolding place_in
put_ordered n [] o b z = (b, refl, tt)
put_ordered n (m ∷ ms) o b z = by_place n m ms (λ e q. absurd (omega arith))
    (λ e y q. (o.0, put_other n m ms (λ w. e (sym w)) ∙ o.1, put_ordered n ms o.2 b y))
    (λ e c q. absurd (omega arith))

rest_ordered : (n : ℕ) (l : List ℕ) → Ordered l → Ordered (rest n l)
unfolding only
rest_ordered n [] o = tt
rest_ordered n (m ∷ ms) o = elim (ℕ_discrete m n) [
  | yes e ↦ rw (rest_first n m ms e) (rest_ordered n ms o.2)
  | no e ↦ rw (rest_later n m ms e) (o.0, rest_ahead n m ms e (omega (arith, o.1)) ∙ o.1, rest_ordered n ms o.2)
]

-- how many numbers are in such a list
in_more : (k m : ℕ) (ms : List ℕ) → (k ≡ m → ⊥) → not (eqb (place_in k ms) 0) ≡ not (eqb (place_in k (m ∷ ms)) 0)
in_more k m ms e = by_place k m ms (λ x q. absurd (e x)) (λ x y q. rw (y, q))
    (λ x b q. rw (q, ne_eqb (place_in k ms) 0 (λ v. omega arith), ne_eqb (place_in k ms + 1) 0 (λ v. omega arith)))

count_places : (l : List ℕ) → Ordered l → count_below 8 (λ n. not (eqb (place_in n l) 0)) ≡ length l
unfolding place_in
count_places [] o = count_none (λ n. not (eqb (place_in n []) 0)) 8 (λ i h. refl)
count_places (m ∷ ms) o =
    count_one_more (λ n. not (eqb (place_in n ms) 0)) (λ n. not (eqb (place_in n (m ∷ ms)) 0)) 8 m (omega (arith, o.0)) (rw o.1) (rw (place_first m m ms refl))
    (λ k h e. in_more k m ms e)
    ∙ (let h = count_places ms o.2 in omega arith)

-- ---- the places of a level

-- after a start
pub fresh_order : (slots delay level : ℕ) → InOrder (fresh slots delay) level []
unfolding fresh place_in
fresh_order slots delay level = record { ordered = tt; placed = λ n b. replicate_at 32 (row_of level n) 0 }

module _ (s : State) (z : Sound s) (level : ℕ) (b : level ≤ 3) (l : List ℕ) (o : InOrder s level l) where
  same_places : (t : State) → t.places ≡ s.places → InOrder t level l
  same_places t e = record { ordered = o.ordered; placed = λ n h. rw e (o.placed n h) }

  -- a row is free exactly where its number is not in the list
  not_free_in : (n : ℕ) → n ≤ 7 → not (is_free (row_at s (row_of level n)).condition) ≡ not (eqb (place_in n l) 0)
  not_free_in n h = go (is_free (row_at s (row_of level n)).condition) refl
    where
      go : (f : Bool) → is_free (row_at s (row_of level n)).condition ≡ f → not f ≡ not (eqb (place_in n l) 0)
      go true e = ap not (sym (eq-eqb (place_in n l) 0 (sym (o.placed n h) ∙ z.order.none (row_of level n) (omega arith) e)))
      go false e = ap not (sym (ne_eqb (place_in n l) 0 (λ w. omega (arith, o.placed n h, z.order.least (row_of level n) (omega arith) e))))

  pub order_long : rows_not_free s.rows level ≡ length l
  unfolding rows_not_free
  order_long =
      count_same (λ n. not (is_free (row_at s (row_of level n)).condition)) (λ n. not (eqb (place_in n l) 0)) 8 (λ n h. not_free_in n (omega arith))
      ∙ count_places l o.ordered

  -- a row of the level begins
  begun_in : (number deadline : ℕ) → BeginTaken s level number deadline → InOrder (row_begun s (row_of level number) deadline) level (l ++ (number ∷ []))
  begun_in number deadline t =
      let m = t.names in
      let row = row_of level number in
      let none : place_in number l ≡ 0 = sym (o.placed number m.number_is) ∙ z.order.none row m.row_is (rw t.free) in
      record {
        ordered = put_ordered number l o.ordered m.number_is none;
        placed = λ n h. placed_at_lem s z.sized row (rows_not_free s.rows (level_of row) + 1) (row_of level n) m.row_is ∙ elim (ℕ_discrete n number) [
          | yes e ↦ rw (e, eq-eqb row row refl, m.own_level, order_long) (sym (put_own number l none))
          | no e ↦ rw (ne_eqb (row_of level n) row (λ w. e (omega arith))) (o.placed n h ∙ sym (put_other number n l e))
        ];
      }

  -- a row of the level ends
  ended_in : (number : ℕ) → EndTaken s level number → InOrder (row_ended s (row_of level number)) level (rest number l)
  unfolding moved_up released
  ended_in number t =
      let m = t.names in
      let row = row_of level number in
      let there : 1 ≤ place_in number l = omega (arith, o.placed number m.number_is, z.order.least row m.row_is t.taken) in
      record {
        ordered = rest_ordered number l o.ordered;
        placed = λ n h. closed_at s z.sized row (row_of level n) (omega arith) ∙ elim (ℕ_discrete n number) [
          | yes e ↦ rw (e, eq-eqb row row refl) (sym (rest_own number l))
          | no e ↦
              rw (ne_eqb (row_of level n) row (λ w. e (omega arith)), eq-eqb (level_of (row_of level n)) (level_of row) (omega arith), o.placed n h, o.placed number m.number_is)
              (elim (dec_lt (place_in number l) (place_in n l)) [
                | yes k ↦ rw (lt-ltb (place_in number l) (place_in n l) k) (sym (rest_behind number n l o.ordered there k))
                | no k ↦ rw (le-ltb (place_in number l) (place_in n l) (omega arith)) (sym (rest_ahead number n l e (omega arith)))
              ])
        ];
      }

  -- a row of another level begins or ends
  begun_far : (row deadline : ℕ) → row < 32 → (level ≡ level_of row → ⊥) → InOrder (row_begun s row deadline) level l
  begun_far row deadline c m = record {
    ordered = o.ordered;
    placed = λ n h. placed_at_lem s z.sized row (rows_not_free s.rows (level_of row) + 1) (row_of level n) c ∙ rw (ne_eqb (row_of level n) row (λ w. m (omega arith))) (o.placed n h);
  }

  ended_far : (row : ℕ) → (level ≡ level_of row → ⊥) → InOrder (row_ended s row) level l
  unfolding released
  ended_far row m = record {
    ordered = o.ordered;
    placed = λ n h. closed_at s z.sized row (row_of level n) (omega arith) ∙ moved_far row (place_at s row) (row_of level n) (place_at s (row_of level n)) (λ w. m (omega arith)) ∙ o.placed n h;
  }

  begin_next : (own number deadline : ℕ) → BeginTaken s own number deadline → InOrder (row_begun s (row_of own number) deadline) level (cond (eqb own level) (l ++ (number ∷ [])) l)
  begin_next own number deadline t = elim (ℕ_discrete own level) [
    | yes e ↦ rw (eq-eqb own level e, e) (begun_in number deadline (rw e at t))
    | no e ↦ rw (ne_eqb own level e) (begun_far (row_of own number) deadline t.names.row_is (λ w. e (sym (w ∙ t.names.own_level))))
  ]

  end_next : (own number : ℕ) → EndTaken s own number → InOrder (row_ended s (row_of own number)) level (cond (eqb own level) (rest number l) l)
  end_next own number t = elim (ℕ_discrete own level) [
    | yes e ↦ rw (eq-eqb own level e, e) (ended_in number (rw e at t))
    | no e ↦ rw (ne_eqb own level e) (ended_far (row_of own number) (λ w. e (sym (w ∙ t.names.own_level))))
  ]

  module _ (c : Call) where
    -- a call of another kind, and one that is answered neither begun nor ended
    other_kind : (a : Answer) → is_begin c ≡ false → is_end c ≡ false → order_next level l c a ≡ l
    unfolding order_next
    other_kind a p q = rw (p, q)

    other_answer : (a : Answer) → is_begun a ≡ false → is_ended a ≡ false → order_next level l c a ≡ l
    unfolding order_next
    other_answer a p q = rw (p, q) (go (is_begin c) (is_end c) _ _)
      where
        x : Bool
        x = eqb (fields c).level level

        go : (p q : Bool) (m n : List ℕ) → cond (p && false && x) m (cond (q && false && x) n l) ≡ l
        go true true m n = refl
        go true false m n = refl
        go false true m n = refl
        go false false m n = refl

    still_order : (a : Answer) → Still s c a → order_next level l c a ≡ l
    unfolding word
    still_order a (refused n e) = other_answer a (rw e) (rw e)
    still_order a (looks own number q n e) = other_kind a (rw q) (rw q)
    still_order a (views own page q e) = other_kind a (rw q) (rw q)
    still_order a (counts own n q e) = other_kind a (rw q) (rw q)

    after : (u : Outcome) → Effect s c u → is_started u.answer ≡ false → InOrder u.state level (order_next level l c u.answer)
    unfolding order_next word unpinned_at all_tried released late_killed delivered_rows advanced killed
    after u (unchanged a q e) n = rw (e, still_order a q) o
    after u (starts slots delay q t e) n = true_false (rw e at n)
    after u (begins own number deadline q t e) n = rw (e, q) (begin_next own number deadline t)
    after u (unpins own number page slot q t f p e) n = rw (e, q) (same_places (unpinned_at s (row_of own number) slot) refl)
    after u (ends own number q t e) n = rw (e, q) (end_next own number t)
    after u (ticks room q w h e) n = rw (e, q) (same_places (all_tried (three_steps s)).state (tried_fixed (three_steps s)).places)
    after u (sets x q t e) n = rw (e, q) (same_places (with_borders s x) refl)
    after u (serves row page mode h a m e) n =
        let k = eqb-true (fields c).kind 2 a.kind in
        rw (e, other_kind (served s row page mode).answer (rw k) (rw k)) (same_places (served s row page mode).state (served_fixed s row page mode).places)

-- the order after a call that is not an accepted start
pub order_next_lem : (s : State) (c : Call) → sound s ≡ true → (level : ℕ) → level ≤ 3 → (l : List ℕ) → InOrder s level l → is_started (outcome s c).answer ≡ false
    → InOrder (outcome s c).state level (order_next level l c (outcome s c).answer)
order_next_lem s c e level b l o n = after s (facts s e) level b l o c (outcome s c) (effect s c) n
