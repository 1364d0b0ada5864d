-- Demand 1 over lent areas: of the refusals that apply to a call the first in the documents' order is given, which for every call but tick is the smallest number.
use mathlib.Core.Path.{◌≡◌, refl, sym, ◌∙◌, ap}
use mathlib.Core.Bool.{Bool, true, false, cond, not, ◌&&◌, ◌||◌}
use mathlib.Core.List.{List, [], ◌∷◌, map}
use mathlib.Core.Logic.{◌⊎◌, inl, inr}
use Prim.Native.Nat.{ℕ, zero, suc, ◌<◌, ◌≤◌}
use native.Mathlib.Omega.{arith}
use native.Mathlib.Decide.{dec_lt}
use borrow.Author.Tests.{not-true, not-false, eqb-true, eqb-false, ltb-false, lt-ltb, le-ltb, le-leb, lt-leb, eq-eqb, ne_eqb}
use lib.Dec.{leb, ltb, eqb}
use lib.ListN.{length}
use Rattle.seq.specs.Below.{any_below, at_found}
use Rattle.seq.specs.declared.Found.{Found}
use Rattle.seq.specs.declared.Found.TheVariants.{At, Nowhere}
use Rattle.seq.proofs.Tests.{true_false, and_left, and_right, and_false_right, both_true, or_true_right, not_true_false, same_truth}
use Rattle.seq.proofs.BelowLaws.{none_any, hit_any, any_hit}
use Rattle.model.specs.declared.Answer.{Answer}
use Rattle.model.specs.declared.Answer.TheVariants.{Refused}
use Rattle.model.specs.declared.Cause.TheVariants.{Late, Taken}
use Rattle.model.specs.declared.Condition.{Condition}
use Rattle.model.specs.declared.Condition.TheVariants.{Free, Idle, Fetching, Waiting, Killed}
use Rattle.model.specs.declared.Content.{Content}
use Rattle.model.specs.declared.Content.TheVariants.{Empty, Filled}
use Rattle.model.specs.declared.Mode.TheVariants.{Read, Write}
use Rattle.model.specs.declared.Pin.{Pin}
use Rattle.model.specs.declared.Outcome.{Outcome}
use Rattle.model.specs.declared.Borders.{Borders}
use Rattle.model.specs.declared.State.{State}
use Rattle.model.specs.Parties.{row_of, mode_of, class_of, are_borders, allowed}
use Rattle.model.specs.State.{row_at, slot_at, holding_at}
use Rattle.model.specs.Words.{is_free, has_page, is_pin, pins, slot_of}
use Rattle.model.proofs.BordersLaws.{in_order}
use Rattle.model.proofs.ContentLaws.{page_has}
use Rattle.rules.specs.Answers.{word, value}
use Rattle.rules.specs.Refusals.{first_to_apply, is_killed, is_busy, is_read, condition_at, pins_page, start_refusal, begin_refusal, request_refusal, unpin_refusal, end_refusal, tick_refusal, look_refusal, view_refusal, count_refusal, borders_refusal}
use Rattle.rules.specs.Calls.{unless, started, begun, requested, unpinned, ended, looked, looked_at, viewed_in, viewed, counted, bordered}
use Rattle.model.specs.declared.Call.{Call}
use Rattle.model.specs.declared.Call.TheVariants.{Start, Begin, Request, Unpin, End, Tick, Look, View, Count}
use Rattle.rules.specs.Content.{is_start, is_tick}
use Rattle.rules.specs.Run.{outcome}
use Rattle.rules.specs.Tries.{ticked}
use Rattle.rules.proofs.Promises.CallCases.{viewed_is}
use Rattle.rules.specs.SoundFacts.{Sound}
use Rattle.rules.proofs.Facts.SoundFacts.{facts, borders_facts}
use Rattle.rules.proofs.Leaves.PageLaws.{found_has, found_below, not_found, one_place}
use Rattle.area.specs.Layout.{decoded}
use Rattle.sabre.specs.Lent.{unfit, answer_on, is_refused, status, fit_area}
use Rattle.demands.specs.RefusalTable.{free, killed, fetching_or_waiting, has, read_or_write, pinned, class, order, place, refusals, applies}
use Rattle.demands.proofs.Areas.{unfit_table, unfit_other}
use Rattle.demands.proofs.Steps.{served_accepted}
use Rattle.sabre.proofs.SoundAreas.{fit_area_lem}

-- ---- an accepted call's answer is no refusal

looked_accepted : (x : Condition) → is_refused (looked x) ≡ false
unfolding word
looked_accepted Free = refl
looked_accepted Idle = refl
looked_accepted (Fetching due) = refl
looked_accepted (Waiting page mode) = refl
looked_accepted (Killed Late) = refl
looked_accepted (Killed Taken) = refl

viewed_accepted : (s : State) (level : ℕ) (f : Found) → is_refused (viewed_in f s level) ≡ false
unfolding word
viewed_accepted = viewed_is (λ x. is_refused x ≡ false) refl (λ _. refl) (λ _. refl) (λ _. refl) (λ _. refl)

-- ---- the number given

-- the answer is refused by that number, or where it is 0 not refused
abbrev Gives : Answer → ℕ → Type 0
Gives x n = (status x ≡ n) × (is_refused x ≡ not (eqb n 0))

gives_same : (x : Answer) (n m : ℕ) → n ≡ m → Gives x n → Gives x m
gives_same x n m e g = (g.0 ∙ e, g.1 ∙ ap (λ (k : ℕ). not (eqb k 0)) e)

-- refusal 1 goes ahead of the others
numbered : (u : Bool) (n : ℕ) (s : State) (o : Outcome) → (n ≡ 0 → is_refused o.answer ≡ false) → Gives (cond u (Refused 1) (unless n s o).answer) (cond u 1 n)
unfolding status word value
numbered true n s o h = (refl, refl)
numbered false zero s o h = (rw (h refl), h refl)
numbered false (suc n) s o h = (refl, rw (ne_eqb (suc n) 0 (λ q. omega arith)))

-- the table's first row is refusal 1; its other rows count where the area is fit for the call
first_row : (a : List ℕ) (c : Call) (n m : ℕ) → (unfit a c ≡ false → n ≡ m) → Gives (answer_on a c) (cond (unfit a c) 1 n)
    → Gives (answer_on a c) (cond (ltb (length a) 65536 || (not (is_start c) && not (fit_area a))) 1 m)
first_row a c n m e = gives_same (answer_on a c) _ _ (go (unfit a c) refl ∙ ap (λ (u : Bool). cond u 1 m) (unfit_table a c))
  where
    go : (u : Bool) → unfit a c ≡ u → cond u 1 n ≡ cond u 1 m
    go true q = refl
    go false q = e q

-- ---- the table's words

-- request: the refusals 13 and 14, where the mode is 0 or 1
not_leb : (a b : ℕ) → not (leb a b) ≡ ltb b a
not_leb a b = elim (dec_lt b a) [
  | yes h ↦ rw (lt-leb a b h, lt-ltb b a h)
  | no h ↦ rw (le-leb a b (omega arith), le-ltb b a (omega arith))
]

read_above : (level k mode : ℕ) → is_read (mode_of mode) && not (allowed level k (mode_of mode)) ≡ eqb mode 0 && ltb level k
unfolding allowed
read_above level k mode = go (eqb mode 0)
  where
    go : (b : Bool) → is_read (cond b Read Write) && not (allowed level k (cond b Read Write)) ≡ b && ltb level k
    go true = not_leb k level
    go false = refl

write_below : (level k mode : ℕ) → mode ≤ 1 → not (is_read (mode_of mode)) && not (allowed level k (mode_of mode)) ≡ eqb mode 1 && ltb k level
unfolding allowed
write_below level k mode h = elim (dec_lt mode 1) [
  | yes w ↦ let e : mode ≡ 0 = omega arith in rw e
  | no w ↦ let e : mode ≡ 1 = omega arith in rw e (not_leb level k)
]

-- the class of a page, where the borders do not fall
class_same : (b : Borders) → are_borders b ≡ true → (page : ℕ) → class_of b page ≡ class b page
unfolding class_of
class_same b e page = let x = in_order b e in go x.first x.second
  where
    go : b.first ≤ b.second → b.second ≤ b.third → class_of b page ≡ class b page
    go x y = elim (dec_lt page b.first) [
      | yes h ↦ rw (lt-ltb page b.first h, lt-leb b.first page h, lt-leb b.second page (omega arith), lt-leb b.third page (omega arith))
      | no h ↦ elim (dec_lt page b.second) [
        | yes k ↦ rw (le-ltb page b.first (omega arith), lt-ltb page b.second k, le-leb b.first page (omega arith), lt-leb b.second page k, lt-leb b.third page (omega arith))
        | no k ↦
            rw (le-ltb page b.first (omega arith), le-ltb page b.second (omega arith), le-leb b.first page (omega arith), le-leb b.second page (omega arith))
            (elim (dec_lt page b.third) [
              | yes m ↦ rw (lt-ltb page b.third m, lt-leb b.third page m)
              | no m ↦ rw (le-ltb page b.third (omega arith), le-leb b.third page (omega arith))
            ])
      ]
    ]

-- borders that fall or exceed 4,096
fall_same : (b : Borders) → not (are_borders b) ≡ (ltb b.second b.first || ltb b.third b.second || ltb 4096 b.first || ltb 4096 b.second || ltb 4096 b.third)
unfolding are_borders
fall_same b = elim (dec_lt b.second b.first) [
  | yes h ↦ rw (lt-leb b.first b.second h, lt-ltb b.second b.first h)
  | no h ↦ elim (dec_lt b.third b.second) [
    | yes k ↦ rw (le-leb b.first b.second (omega arith), le-ltb b.second b.first (omega arith), lt-leb b.second b.third k, lt-ltb b.third b.second k)
    | no k ↦ rw (le-leb b.first b.second (omega arith), le-ltb b.second b.first (omega arith), le-leb b.second b.third (omega arith), le-ltb b.third b.second (omega arith)) (exceed k h)
  ]
]
  where
    exceed : (b.third < b.second → ⊥) → (b.second < b.first → ⊥) → not (leb b.third 4096) ≡ (ltb 4096 b.first || ltb 4096 b.second || ltb 4096 b.third)
    exceed k h = elim (dec_lt 4096 b.third) [
      | yes m ↦ rw (lt-leb b.third 4096 m, lt-ltb 4096 b.third m) (sym (or_true_right (ltb 4096 b.first || ltb 4096 b.second) true refl))
      | no m ↦ rw (le-leb b.third 4096 (omega arith), le-ltb 4096 b.first (omega arith), le-ltb 4096 b.second (omega arith), le-ltb 4096 b.third (omega arith))
    ]

-- a row's condition
condition_same : (x : Condition) → (is_free x ≡ free x) × (is_killed x ≡ killed x) × (is_busy x ≡ fetching_or_waiting x)
condition_same Free = (refl, refl, refl)
condition_same Idle = (refl, refl, refl)
condition_same (Fetching due) = (refl, refl, refl)
condition_same (Waiting page mode) = (refl, refl, refl)
condition_same (Killed cause) = (refl, refl, refl)

abbrev request_rows : Bool → Bool → Bool → Bool → Bool → Bool → Bool → Bool → Bool → ℕ
request_rows p q r t f k y d e = first_to_apply ((4, p) ∷ (5, q) ∷ (6, r) ∷ (7, t) ∷ (9, f) ∷ (10, k) ∷ (11, y) ∷ (13, d) ∷ (14, e) ∷ [])

request_rows_lem : (p q r t : Bool) (x : Condition) (d e d' e' : Bool) → d ≡ d' → (t ≡ false → e ≡ e')
    → request_rows p q r t (is_free x) (is_killed x) (is_busy x) d e ≡ request_rows p q r t (free x) (killed x) (fetching_or_waiting x) d' e'
request_rows_lem p q r true x d e d' e' h j = refl
request_rows_lem p q r false x d e d' e' h j = λ i. request_rows p q r false ((condition_same x).0 i) ((condition_same x).1 i) ((condition_same x).2 i) (h i) (j refl i)

-- unpin: refusal 15, on a sound state
has_same : (page : ℕ) (x : Content) → has_page page x ≡ has page x
has_same page Empty = refl
has_same page (Filled p arrival dirty lowest) = refl

pin_same : (p : Pin) → is_pin p ≡ read_or_write p
pin_same Pin.Absent = refl
pin_same Pin.Unpinned = refl
pin_same Pin.Read = refl
pin_same Pin.Write = refl

pinned_same : (s : State) → Sound s → (row page : ℕ) → pins_page s row page ≡ pinned s row page
unfolding pins_page pinned
pinned_same s z row page = go (slot_of s page) refl
  where
    at : ℕ → Bool
    at slot = has page (slot_at s slot).content && read_or_write (holding_at s slot row).pin

    there : (slot : ℕ) → at slot ≡ true → has_page page (slot_at s slot).content ≡ true
    there slot w = has_same page (slot_at s slot).content ∙ and_left (has page (slot_at s slot).content) (read_or_write (holding_at s slot row).pin) w

    go : (f : Found) → slot_of s page ≡ f → at_found f (λ slot. pins s slot row) false ≡ any_below 64 at
    go Nowhere e = sym (none_any at 64 (λ i b. not_true_false (at i) (λ w.
        let h = there i w in
        true_false (sym h ∙ not_found s page i e ((z.slot i b).started (page_has page (slot_at s i).content h).0)))))
    go (At i) e = same_truth (pins s i row) (any_below 64 at)
        (λ w. hit_any at 64 i (found_below s z page i e) (both_true (sym (has_same page (slot_at s i).content) ∙ (found_has s page i e).1) (sym (pin_same (holding_at s i row).pin) ∙ w)))
        (λ w.
        let x = any_hit at 64 w in
        let j : i ≡ x.0 = one_place s z page i x.0 (found_below s z page i e) x.1 (found_has s page i e).1 (there x.0 x.2) in
        rw j (pin_same (holding_at s x.0 row).pin ∙ and_right (has page (slot_at s x.0).content) (read_or_write (holding_at s x.0 row).pin) x.2))

unpin_rows : (p q r : Bool) (x : Condition) (d d' : Bool) → d ≡ d'
    → first_to_apply ((4, p) ∷ (5, q) ∷ (6, r) ∷ (9, is_free x) ∷ (10, is_killed x) ∷ (11, is_busy x) ∷ (15, not d) ∷ [])
    ≡ first_to_apply ((4, p) ∷ (5, q) ∷ (6, r) ∷ (9, free x) ∷ (10, killed x) ∷ (11, fetching_or_waiting x) ∷ (15, not d') ∷ [])
unpin_rows p q r x d d' e =
    λ i. first_to_apply ((4, p) ∷ (5, q) ∷ (6, r) ∷ (9, (condition_same x).0 i) ∷ (10, (condition_same x).1 i) ∷ (11, (condition_same x).2 i) ∷ (15, not (e i)) ∷ [])

-- the number given is that of the first row of the table that applies
gives : (a : List ℕ) (c : Call) → Gives (answer_on a c) (first_to_apply (refusals a c))
unfolding answer_on outcome started begun requested unpinned ended ticked looked_at viewed counted bordered word
    refusals start_refusal begin_refusal request_refusal unpin_refusal end_refusal tick_refusal look_refusal view_refusal count_refusal borders_refusal
gives a (Start slots delay) =
    first_row a (Start slots delay) _ _ (λ _. refl) (numbered (unfit a (Start slots delay)) (start_refusal slots delay) (decoded a) _ (λ _. refl))
gives a (Begin level number deadline) =
    let c = Begin level number deadline in
    let x = condition_at (decoded a) level number in
    first_row a c _ _ (λ _ i. first_to_apply ((4, ltb 3 level) ∷ (5, ltb 7 number) ∷ (8, not ((condition_same x).0 i)) ∷ (12, ltb deadline (decoded a).clock) ∷ []))
    (numbered (unfit a c) (begin_refusal (decoded a) level number deadline) (decoded a) _ (λ _. refl))
gives a (Request level number page mode) =
    let c = Request level number page mode in
    first_row a c _ _
    (λ u.
    let z = (fit_area_lem a (not-false (fit_area a) (sym (unfit_other a c refl) ∙ u))).sound_state in
    let k = class_of (decoded a).borders page in
    let same = class_same (decoded a).borders (borders_facts (decoded a) z).valid page in
    request_rows_lem (ltb 3 level) (ltb 7 number) (ltb 4095 page) (ltb 1 mode) (condition_at (decoded a) level number) _ _ _ _
    (read_above level k mode ∙ ap (λ (n : ℕ). eqb mode 0 && ltb level n) same)
    (λ e. write_below level k mode (ltb-false 1 mode e) ∙ ap (λ (n : ℕ). eqb mode 1 && ltb n level) same))
    (numbered (unfit a c) (request_refusal (decoded a) level number page mode) (decoded a) _ (λ _. served_accepted (decoded a) (row_of level number) page (mode_of mode)))
gives a (Unpin level number page) =
    let c = Unpin level number page in
    let s = decoded a in
    first_row a c _ _
    (λ u.
    let z = (fit_area_lem a (not-false (fit_area a) (sym (unfit_other a c refl) ∙ u))).sound_state in
    unpin_rows (ltb 3 level) (ltb 7 number) (ltb 4095 page) (condition_at s level number) (pins_page s (row_of level number) page) (pinned s (row_of level number) page)
    (pinned_same s (facts s z) (row_of level number) page))
    (numbered (unfit a c) (unpin_refusal s level number page) s _ (λ _. refl))
gives a (End level number) =
    let c = End level number in
    let x = condition_at (decoded a) level number in
    first_row a c _ _ (λ _ i. first_to_apply ((4, ltb 3 level) ∷ (5, ltb 7 number) ∷ (9, (condition_same x).0 i) ∷ []))
    (numbered (unfit a c) (end_refusal (decoded a) level number) (decoded a) _ (λ _. refl))
gives a (Tick room) =
    let c = Tick room in
    first_row a c _ _ (λ _. refl) (numbered (unfit a c) (tick_refusal (decoded a) room) (decoded a) _ (λ _. refl))
gives a (Look level number) =
    let c = Look level number in
    first_row a c _ _ (λ _. refl) (numbered (unfit a c) (look_refusal level number) (decoded a) _ (λ _. looked_accepted (row_at (decoded a) (row_of level number)).condition))
gives a (View level page) =
    let c = View level page in
    first_row a c _ _ (λ _. refl) (numbered (unfit a c) (view_refusal level page) (decoded a) _ (λ _. viewed_accepted (decoded a) level (slot_of (decoded a) page)))
gives a (Count level) =
    let c = Count level in
    first_row a c _ _ (λ _. refl) (numbered (unfit a c) (count_refusal level) (decoded a) _ (λ _. refl))
gives a (Call.Borders first second third) =
    let c = Call.Borders first second third in
    let b : Borders = record { first = first; second = second; third = third } in
    first_row a c _ _ (λ _ i. first_to_apply ((19, fall_same b i) ∷ (20, (decoded a).begun) ∷ []))
    (numbered (unfit a c) (borders_refusal (decoded a) b) (decoded a) _ (λ _. refl))

-- ---- the first that applies

-- by f the rows do not fall, and none is below k
abbrev Rising : (ℕ → ℕ) → ℕ → List (ℕ × Bool) → Type 0
Rising f k [] = Unit {0}
Rising f k (r ∷ rs) = (k ≤ f r.0) × Rising f (f r.0) rs

-- by f what applies is at least the first to apply
first_least : (f : ℕ → ℕ) (k : ℕ) (rs : List (ℕ × Bool)) → Rising f k rs → (m : ℕ) → applies m rs ≡ true → (k ≤ f m) × (f (first_to_apply rs) ≤ f m)
first_least f k [] o m e = true_false (sym e)
first_least f k (r ∷ rs) o m e = go r.1 (eqb m r.0) refl e (first_least f (f r.0) rs o.1 m)
  where
    go : (b q : Bool) → eqb m r.0 ≡ q → (q && b) || applies m rs ≡ true → (applies m rs ≡ true → (f r.0 ≤ f m) × (f (first_to_apply rs) ≤ f m))
        → (k ≤ f m) × (f (cond b r.0 (first_to_apply rs)) ≤ f m)
    go true true h x y = let p = ap f (eqb-true m r.0 h) in let n = o.0 in omega arith
    go true false h x y = let z = y x in let n = o.0 in omega arith
    go false true h x y = let z = y x in let n = o.0 in omega arith
    go false false h x y = let z = y x in let n = o.0 in omega arith

-- n passes p, or it is 0 and none passes
abbrev PassesOrNone : (ℕ → Bool) → ℕ → Type 0
PassesOrNone p n = (p n ≡ true) ⊎ ((n ≡ 0) × ((m : ℕ) → p m ≡ false))

-- the first to apply does apply, or none does
first_applies : (rs : List (ℕ × Bool)) → PassesOrNone (λ n. applies n rs) (first_to_apply rs)
first_applies [] = inr (refl, λ n. refl)
first_applies (r ∷ rs) = go r.1 (first_applies rs)
  where
    go : (b : Bool) → PassesOrNone (λ n. applies n rs) (first_to_apply rs) → PassesOrNone (λ n. (eqb n r.0 && b) || applies n rs) (cond b r.0 (first_to_apply rs))
    go true x = inl (rw (eq-eqb r.0 r.0 refl))
    go false (inl x) = inl (or_true_right (eqb (first_to_apply rs) r.0 && false) (applies (first_to_apply rs) rs) x)
    go false (inr x) = inr (x.0, λ n. rw (and_false_right (eqb n r.0) false refl) (x.1 n))

-- a refused call returns a number that applies, by f the least of those that apply
least : (f : ℕ → ℕ) (a : List ℕ) (c : Call) → Rising f 0 (refusals a c) → is_refused (answer_on a c) ≡ true
    → (applies (status (answer_on a c)) (refusals a c) ≡ true) × ((n : ℕ) → applies n (refusals a c) ≡ true → f (status (answer_on a c)) ≤ f n)
least f a c o e =
    let g = gives a c in
    let z = eqb-false (first_to_apply (refusals a c)) 0 (not-true (eqb (first_to_apply (refusals a c)) 0) (sym g.1 ∙ e)) in
    (rw g.0 (elim (first_applies (refusals a c)) [ inl x ↦ x | inr x ↦ absurd (z x.0) ]), λ n h. rw g.0 (first_least f 0 (refusals a c) o n h).1)

-- the table has a row for each number of the order, in this order, and no other
pub rows_in_order : (a : List ℕ) (c : Call) → map (λ r. r.0) (refusals a c) ≡ order
unfolding refusals order
rows_in_order a c = refl

-- the place of the first number of the order is 0, that of the next 1, and so on
pub place_of_order : map (place order) order ≡ 0 ∷ 1 ∷ 2 ∷ 3 ∷ 4 ∷ 5 ∷ 6 ∷ 7 ∷ 8 ∷ 9 ∷ 10 ∷ 11 ∷ 12 ∷ 13 ∷ 14 ∷ 15 ∷ 16 ∷ 17 ∷ 18 ∷ []
unfolding order
place_of_order = refl

by_place : (a : List ℕ) (c : Call) → Rising (place order) 0 (refusals a c)
unfolding refusals order
by_place a c = omega arith

-- 21, which is for a tick alone, with 1
abbrev rank : ℕ → ℕ
rank n = cond (eqb n 21) 1 n

by_number : (a : List ℕ) (c : Call) → Rising rank 0 (refusals a c)
unfolding refusals
by_number a c = omega arith

other_rank : (a : List ℕ) (c : Call) → is_tick c ≡ false → (n : ℕ) → applies n (refusals a c) ≡ true → rank n ≡ n
unfolding refusals
other_rank a c t n h = rw (not_true_false (eqb n 21) (λ q. true_false (sym h ∙ ap (λ (m : ℕ). applies m (refusals a c)) (eqb-true n 21 q) ∙ rw t)))

-- Any call, any numbers and any area. A refused call returns the first in the order of those that apply.
pub first_in_order : (a : List ℕ) (c : Call) → is_refused (answer_on a c) ≡ true
    → (applies (status (answer_on a c)) (refusals a c) ≡ true) × ((n : ℕ) → applies n (refusals a c) ≡ true → place order (status (answer_on a c)) ≤ place order n)
first_in_order a c = least (place order) a c (by_place a c)

-- a refused call but a tick returns the smallest number of those that apply
pub smallest : (a : List ℕ) (c : Call) → is_tick c ≡ false → is_refused (answer_on a c) ≡ true
    → (applies (status (answer_on a c)) (refusals a c) ≡ true) × ((n : ℕ) → applies n (refusals a c) ≡ true → status (answer_on a c) ≤ n)
smallest a c t e =
    let p = least rank a c (by_number a c) e in
    (p.0, λ n h. let x = p.1 n h in let y = other_rank a c t _ p.0 in let z = other_rank a c t n h in omega arith)

-- a call is accepted where none applies, and nowhere else
pub accepted_none : (a : List ℕ) (c : Call) → is_refused (answer_on a c) ≡ false → (n : ℕ) → applies n (refusals a c) ≡ false
unfolding refusals
accepted_none a c e n =
    let z = eqb-true (first_to_apply (refusals a c)) 0 (not-false (eqb (first_to_apply (refusals a c)) 0) (sym (gives a c).1 ∙ e)) in
    elim (first_applies (refusals a c)) [
      | inl x ↦ true_false (sym x ∙ ap (λ (m : ℕ). applies m (refusals a c)) z)
      | inr x ↦ x.1 n
    ]

pub none_accepted : (a : List ℕ) (c : Call) → ((n : ℕ) → applies n (refusals a c) ≡ false) → is_refused (answer_on a c) ≡ false
none_accepted a c h = not_true_false (is_refused (answer_on a c)) (λ e. true_false (sym (first_in_order a c e).0 ∙ h (status (answer_on a c))))

-- a call returns 0 where it is accepted, and nowhere else
pub returned : (a : List ℕ) (c : Call) → is_refused (answer_on a c) ≡ not (eqb (status (answer_on a c)) 0)
returned a c = let g = gives a c in g.1 ∙ ap (λ (n : ℕ). not (eqb n 0)) (sym g.0)
