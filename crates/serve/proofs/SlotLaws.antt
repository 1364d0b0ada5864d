-- What the steps read of the 32 holdings of a slot is what they read of the state.
use mathlib.Core.Path.{◌≡◌, refl, sym, ◌∙◌, ap}
use mathlib.Core.Bool.{Bool, true, false, ◌&&◌}
use mathlib.Core.List.{List}
use Prim.Native.Nat.{ℕ, ◌<◌}
use native.Mathlib.Omega.{arith}
use borrow.Author.Tests.{le-leb}
use lib.Dec.{leb, ltb}
use lib.Seq.{ext_get_or}
use lib.ListN.{length, get_or, replicate, length-replicate}
use Rattle.seq.specs.Below.{any_below}
use Rattle.seq.specs.Each.{each}
use Rattle.seq.proofs.Tests.{and_false_right}
use Rattle.seq.proofs.BelowLaws.{any_same}
use Rattle.seq.proofs.PickLaws.{picked_same}
use Rattle.seq.proofs.EachLaws.{each_length}
use Rattle.seq.proofs.BuildLaws.{build_at}
use Rattle.model.specs.declared.Cause.TheVariants.{Taken}
use Rattle.model.specs.declared.Holding.{Holding}
use Rattle.model.specs.declared.Mode.{Mode}
use Rattle.model.specs.declared.State.{State}
use Rattle.model.specs.Parties.{level_of, better}
use Rattle.model.specs.State.{slot_at, holding_at}
use Rattle.model.specs.Words.{is_held, holds, pins, seen_holder, seen, dormant, sees_dormant, outranks, least_arrival}
use Rattle.model.specs.Changes.{killed}
use Rattle.model.specs.Inner.Changed.{marked}
use Rattle.model.proofs.SlotHoldings.{at_row}
use Rattle.model.proofs.PriorityLaws.{level_outranks}
use Rattle.model.specs.Ranges.{Sized}
use Rattle.model.proofs.SameRows.{killed_same}
use Rattle.rules.specs.Calls.{conflicts, must_wait, pinners_killed}
use Rattle.choice.specs.Inner.Summary.{no_rank, ranks_of}
use Rattle.choice.proofs.SummaryLaws.{rank_at_lem}
use Rattle.serve.specs.Inner.SlotHoldings.{holdings_on, held_by, seen_test, seen_in, least_in, sees_dormant_in, pinning, conflicting, marks_of, must_wait_in}

module _ (s : State) (slot : ℕ) where
  pub held_by_lem : (row : ℕ) → row < 32 → held_by (holdings_on s slot) row ≡ holding_at s slot row
  held_by_lem row h = at_row s slot row h

  seen_test_lem : (level row : ℕ) → row < 32 → seen_test level row (held_by (holdings_on s slot) row) ≡ seen_holder s level slot row
  unfolding seen_test seen_holder
  seen_test_lem level row h = rw (held_by_lem row h)

  pub seen_in_lem : (level : ℕ) → seen_in (holdings_on s slot) level ≡ seen s level slot
  unfolding seen_in seen
  seen_in_lem level = any_same (λ row. seen_test level row (held_by (holdings_on s slot) row)) (seen_holder s level slot) 32 (seen_test_lem level)

  pub least_in_lem : (level : ℕ) → least_in (holdings_on s slot) level ≡ least_arrival s level slot
  unfolding least_in least_arrival
  least_in_lem level =
      picked_same (λ row. seen_test level row (held_by (holdings_on s slot) row)) (seen_holder s level slot)
      (λ row other. ltb (held_by (holdings_on s slot) row).arrival (held_by (holdings_on s slot) other).arrival)
      (λ row other. ltb (holding_at s slot row).arrival (holding_at s slot other).arrival)
      (λ row. (held_by (holdings_on s slot) row).arrival) (λ row. (holding_at s slot row).arrival) 0 32
      (seen_test_lem level)
      (λ i j h k _ _. rw (held_by_lem i h, held_by_lem j k))
      (λ i h _. rw (held_by_lem i h))

  pub dormant_in_lem : (level : ℕ) → sees_dormant_in (holdings_on s slot) (slot_at s slot) level ≡ sees_dormant s level slot
  unfolding sees_dormant_in sees_dormant dormant
  dormant_in_lem level = rw (any_same (λ row. is_held (held_by (holdings_on s slot) row).pin) (holds s slot) 32 (λ row h. rw (held_by_lem row h)))

  -- the rows that are killed
  marked_is : (test : ℕ → Holding → Bool) (row : ℕ) → row < 32 → marked (marks_of (holdings_on s slot) test) row ≡ test row (holding_at s slot row)
  unfolding marks_of
  marked_is test row h = build_at (λ r. test r (held_by (holdings_on s slot) r)) 32 false row false h ∙ ap (test row) (held_by_lem row h)

  pub conflicts_killed : Sized s → (row : ℕ) (mode : Mode) → killed (marked (marks_of (holdings_on s slot) (conflicting row mode))) Taken s ≡ killed (conflicts s row slot mode) Taken s
  unfolding conflicts
  conflicts_killed z row mode = killed_same (marked (marks_of (holdings_on s slot) (conflicting row mode))) (conflicts s row slot mode) s (marked_is (conflicting row mode)) z Taken

  pub pinners_killed_lem : Sized s → killed (marked (marks_of (holdings_on s slot) pinning)) Taken s ≡ pinners_killed s slot
  unfolding pinners_killed
  pinners_killed_lem z = killed_same (marked (marks_of (holdings_on s slot) pinning)) (pins s slot) s (marked_is pinning) z Taken

  -- a row of better priority is of the requester's level or a lower one
  pub must_wait_in_lem : (row : ℕ) (mode : Mode) → row < 32 → must_wait_in (marks_of (holdings_on s slot) (conflicting row mode)) (ranks_of s.rows s.places) row ≡ must_wait s row slot mode
  unfolding must_wait_in must_wait conflicts outranks
  must_wait_in_lem row mode h = any_same
      (λ other. marked (marks_of (holdings_on s slot) (conflicting row mode)) other && better (get_or (ranks_of s.rows s.places) other no_rank) (get_or (ranks_of s.rows s.places) row no_rank))
      (λ other. leb (level_of other) (level_of row) && conflicts s row slot mode other && outranks s other row) 32
      (λ other k. told other k ∙ go other (outranks s other row) refl)
    where
      told : (other : ℕ) → other < 32
          → marked (marks_of (holdings_on s slot) (conflicting row mode)) other && better (get_or (ranks_of s.rows s.places) other no_rank) (get_or (ranks_of s.rows s.places) row no_rank)
          ≡ conflicts s row slot mode other && outranks s other row
      told other k = rw (marked_is (conflicting row mode) other k, rank_at_lem s.rows s.places (ranks_of s.rows s.places) other refl k, rank_at_lem s.rows s.places (ranks_of s.rows s.places) row refl h)

      go : (other : ℕ) (b : Bool) → outranks s other row ≡ b
          → conflicts s row slot mode other && outranks s other row ≡ leb (level_of other) (level_of row) && conflicts s row slot mode other && outranks s other row
      go other true e = rw (le-leb (level_of other) (level_of row) (level_outranks s other row e))
      go other false e = and_false_right (conflicts s row slot mode other) _ e ∙ sym (and_false_right (leb (level_of other) (level_of row) && conflicts s row slot mode other) _ e)

-- every row is of level 3 or a lower one
pub seen_by_3 : (held : List Holding) → seen_in held 3 ≡ any_below 32 (λ row. is_held (held_by held row).pin)
unfolding seen_in seen_test
seen_by_3 held =
    any_same (λ row. leb (level_of row) 3 && is_held (held_by held row).pin) (λ row. is_held (held_by held row).pin) 32
    (λ row h. rw (le-leb (level_of row) 3 (omega arith)))

-- the marks of a test, row by row
pub marks_are : (held : List Holding) (test : ℕ → Holding → Bool) (marks : List Bool) → length marks ≡ 32
    → ((row : ℕ) → row < 32 → get_or marks row false ≡ test row (held_by held row)) → marks ≡ marks_of held test
unfolding marks_of
marks_are held test marks l h =
    let f : ℕ → Bool = λ row. test row (held_by held row) in
    ext_get_or false marks (each (λ k _. f k) (replicate 32 false)) (l ∙ sym (each_length (λ k _. f k) (replicate 32 false) ∙ length-replicate 32 false))
    (λ i b. let k : i < 32 = rw l at b in h i k ∙ sym (build_at f 32 false i false k))
