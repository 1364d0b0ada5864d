-- Begin, end, the three steps of a tick, look, view and count on two states alike for L, by a level up to L: the same answer, and alike states.
use mathlib.Core.Path.{◌≡◌, refl, sym, ◌∙◌, ap}
use mathlib.Core.Bool.{Bool, false}
use Prim.Native.Nat.{ℕ, ◌+◌, ◌<◌, ◌≤◌}
use native.Mathlib.Omega.{arith}
use lib.Dec.{eqb}
use Rattle.seq.specs.Below.{count_below}
use Rattle.seq.specs.declared.Found.{Found}
use Rattle.seq.specs.declared.Found.TheVariants.{At, Nowhere}
use lib.ListN.{set}
use Rattle.model.specs.declared.Answer.TheVariants.{Begun, Ended}
use Rattle.model.specs.declared.Cause.TheVariants.{Late}
use Rattle.model.specs.declared.Condition.TheVariants.{Idle}
use Rattle.model.specs.declared.Holding.{Holding}
use Rattle.model.specs.declared.Row.{Row}
use Rattle.model.specs.declared.State.{State}
use Rattle.model.specs.Parties.{row_of, level_of}
use Rattle.model.specs.State.{free_row, row_at, with_begun, put_row}
use Rattle.model.specs.Words.{is_held, seen, is_open, slot_of}
use Rattle.model.specs.Changes.{released, closed_up}
use Rattle.model.specs.Ranges.{Sized}
use Rattle.model.proofs.StateLaws.{sized_begun}
use Rattle.model.proofs.ChangeLaws.{sized_released}
use Rattle.model.proofs.SeenLaws.{no_dormant, none_seen}
use Rattle.rules.specs.Answers.{told}
use Rattle.rules.specs.Calls.{begun, ended, delivered_rows, is_late, late_killed, advanced, three_steps, looked, looked_at, viewed_in, viewed, counted, last_place, row_begun, row_ended}
use Rattle.rules.specs.Refusals.{begin_refusal, end_refusal, look_refusal, view_refusal, count_refusal}
use Rattle.rules.specs.SoundFacts.{Sound}
use Rattle.rules.specs.Alike.{holding_on, Alike, Same}
use Rattle.rules.proofs.Same.AlikeLaws.{alike_sym}
use Rattle.rules.proofs.Leaves.PageLaws.{on_slot, on_nowhere}
use Rattle.rules.proofs.Leaves.TickLaws.{later, sized_later, later_row}
use Rattle.rules.proofs.Leaves.RefusalFacts.{begin_taken, end_taken, look_taken}
use Rattle.rules.proofs.Same.SamePages.{same_seen, same_strongest, same_least, same_holding}
use Rattle.rules.proofs.Same.SameChanges.{same_unless, same_put_row, same_killed, same_released, same_places, same_placed, same_closed}
use Rattle.rules.proofs.Same.SameRefusals.{own_row, same_begin_refusal, same_end_refusal}

-- a page that the other state has in no slot is held by no row up to L
unseen : (L : ℕ) (s t : State) → Alike L s t → (page i : ℕ) → slot_of s page ≡ At i → slot_of t page ≡ Nowhere → (level : ℕ) → level ≤ L → seen s level i ≡ false
unseen L s t alike page i at-s at-t level up = none_seen s level i (λ r h l.
    ap (λ (x : Holding). is_held x.pin) (sym (on_slot s page i r at-s) ∙ alike.holding page r h (omega arith) ∙ on_nowhere t page r at-t))

-- the mark that a row has begun is no part of it
same_begun_mark : (L : ℕ) (s t : State) → Alike L s t → Alike L (with_begun s) (with_begun t)
unfolding holding_on slot_of
same_begun_mark L s t a = record { size = a.size; delay = a.delay; clock = a.clock; row = a.row; place = a.place; holding = a.holding }

-- ---- the three steps of a tick

same_delivered : (L : ℕ) (s t : State) → Sized s → Sized t → Alike L s t → Alike L (later s) (later t)
unfolding delivered_rows advanced holding_on slot_of
same_delivered L s t y z a = record {
  size = a.size;
  delay = a.delay;
  clock = ap (λ (n : ℕ). n + 1) a.clock;
  row = λ r h l. rw (later_row s y r h, later_row t z r h, a.row r h l, a.clock);
  place = a.place;
  holding = a.holding;
}

same_late : (L : ℕ) (s t : State) → Alike L s t → (r : ℕ) → r < 32 → level_of r ≤ L → is_late s r ≡ is_late t r
unfolding is_late
same_late L s t a r h l = rw (a.row r h l, a.clock)

delivered_most : (s : State) → s.size ≤ 64 → (later s).size ≤ 64
unfolding delivered_rows advanced
delivered_most s h = h

module _ (L : ℕ) (s t : State) (y : Sound s) (z : Sound t) (alike : Alike L s t) where
  pub same_steps : Alike L (three_steps s) (three_steps t)
  unfolding late_killed
  same_steps =
      let d = same_delivered L s t y.sized z.sized alike in
      same_killed L (later s) (later t) (sized_later s y.sized) (sized_later t z.sized) d
      (delivered_most s y.size_most) (delivered_most t z.size_most)
      (is_late (later s)) (is_late (later t))
      (same_late L (later s) (later t) d) Late

  module _ (two : L ≤ 2) (level : ℕ) (low : level ≤ L) where
    pub same_begun : (number deadline : ℕ) → Same L (begun s level number deadline) (begun t level number deadline)
    unfolding begun
    same_begun number deadline =
        let x : Row = record { condition = Idle; deadline = deadline } in
        let row = row_of level number in
        same_unless L s t (begin_refusal s level number deadline) (begin_refusal t level number deadline)
        (record { state = row_begun s row deadline; answer = Begun })
        (record { state = row_begun t row deadline; answer = Begun })
        alike (same_begin_refusal L s t alike two level number low deadline)
        (λ e.
        let n = (begin_taken s level number deadline e).names in (
          refl,
          same_places L (put_row (with_begun s) row x) (put_row (with_begun t) row x)
              (same_put_row L (with_begun s) (with_begun t) (sized_begun s y.sized) (sized_begun t z.sized) (same_begun_mark L s t alike) row x x n.row_is refl)
              (set s.places row (last_place s (level_of row))) (set t.places row (last_place t (level_of row)))
              (same_placed L s t y.sized z.sized alike row n.row_is (omega (arith, n.own_level))),
        ))

    pub same_ended : (number : ℕ) → Same L (ended s level number) (ended t level number)
    unfolding ended
    same_ended number =
        let own : ℕ → Bool = eqb (row_of level number) in
        same_unless L s t (end_refusal s level number) (end_refusal t level number)
        (record { state = row_ended s (row_of level number); answer = Ended })
        (record { state = row_ended t (row_of level number); answer = Ended })
        alike (same_end_refusal L s t alike two level number low)
        (λ e.
        let n = (end_taken s level number e).names in (
          refl,
          same_places L (put_row (released own s) (row_of level number) free_row) (put_row (released own t) (row_of level number) free_row)
              (same_put_row L (released own s) (released own t) (sized_released own s y.sized) (sized_released own t z.sized)
              (same_released L s t y.sized z.sized alike y.size_most z.size_most own own (λ r h l. refl))
              (row_of level number) free_row free_row n.row_is refl)
              (closed_up (row_of level number) s.places) (closed_up (row_of level number) t.places)
              (same_closed L s t y.sized z.sized alike (row_of level number) n.row_is (omega (arith, n.own_level))),
        ))

    pub same_looked : (number : ℕ) → Same L (looked_at s level number) (looked_at t level number)
    unfolding looked_at
    same_looked number =
        same_unless L s t (look_refusal level number) (look_refusal level number)
        (record { state = s; answer = looked (row_at s (row_of level number)).condition })
        (record { state = t; answer = looked (row_at t (row_of level number)).condition })
        alike refl
        (λ e. (ap (λ (x : Row). told (looked x.condition)) (own_row L s t alike two level number low (look_taken level number e).number_is), alike))

    same_view : (page : ℕ) → viewed_in (slot_of s page) s level ≡ viewed_in (slot_of t page) t level
    same_view page = go (slot_of s page) (slot_of t page) refl refl
      where
        both : (i j : ℕ) → slot_of s page ≡ At i → slot_of t page ≡ At j → viewed_in (At i) s level ≡ viewed_in (At j) t level
        both i j at-s at-t =
            let same = same_holding L s t alike page i j at-s at-t in
            rw (
              same_seen L s t alike i j same level low,
              same_strongest L s t alike i j same level low,
              same_least L s t alike i j same level low,
              no_dormant s level i (omega arith),
              no_dormant t level j (omega arith),
            )

        go : (f g : Found) → slot_of s page ≡ f → slot_of t page ≡ g → viewed_in (slot_of s page) s level ≡ viewed_in (slot_of t page) t level
        go Nowhere Nowhere p q = rw (p, q)
        go (At i) Nowhere p q = rw (p, q, unseen L s t alike page i p q level low, no_dormant s level i (omega arith))
        go Nowhere (At j) p q = rw (p, q, unseen L t s (alike_sym alike) page j q p level low, no_dormant t level j (omega arith))
        go (At i) (At j) p q = rw (p, q) (both i j p q)

    pub same_viewed : (page : ℕ) → Same L (viewed s level page) (viewed t level page)
    unfolding viewed
    same_viewed page =
        same_unless L s t (view_refusal level page) (view_refusal level page)
        (record { state = s; answer = viewed_in (slot_of s page) s level })
        (record { state = t; answer = viewed_in (slot_of t page) t level })
        alike refl (λ e. (ap told (same_view page), alike))

    pub same_counted : count_below s.size (is_open s level) ≡ count_below t.size (is_open t level) → Same L (counted s level) (counted t level)
    unfolding counted
    same_counted n = same_unless L s t (count_refusal level) (count_refusal level) _ _ alike refl (λ e. (cc, alike))
