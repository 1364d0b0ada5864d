-- Places in the begin orders: once a row has taken one, and once a row has ended and its level's order is closed up; and how many rows of a level are not free.
use mathlib.Core.Path.{◌≡◌, ◌∙◌, ap}
use mathlib.Core.Bool.{cond, not}
use mathlib.Core.List.{List}
use Prim.Native.Nat.{ℕ, ◌*◌, ◌<◌, ◌≤◌}
use native.Mathlib.Omega.{arith}
use borrow.Author.Tests.{ne_eqb}
use lib.Dec.{eqb}
use lib.ListN.{length, get_or, set, take, drop, length-drop}
use lib.Seq.{length-take-le, get_or-drop, get_or-take}
use Rattle.std.specs.List.{count_by}
use Rattle.seq.proofs.BelowLaws.{count_same, count_at_most}
use Rattle.seq.proofs.EachLaws.{set_at, each_at, each_length}
use Rattle.model.specs.declared.Row.{Row}
use Rattle.model.specs.declared.State.{State}
use Rattle.model.specs.Parties.{row_of, level_of}
use Rattle.model.specs.State.{free_row, row_at, place_at}
use Rattle.model.specs.Words.{is_free}
use Rattle.model.specs.Changes.{rows_not_free, moved_up, closed_up}
use Rattle.model.specs.Ranges.{Sized}
use Rattle.model.proofs.ElementLaws.{count_is}

pub closed_long : (row : ℕ) (places : List ℕ) → length (closed_up row places) ≡ length places
unfolding closed_up
closed_long row places = each_length (moved_up row (get_or places row 0)) places

module _ (s : State) (z : Sized s) where
  pub placed_at_lem : (row place r : ℕ) → row < 32 → get_or (set s.places row place) r 0 ≡ cond (eqb r row) place (place_at s r)
  placed_at_lem row place r b = set_at s.places row r place 0 (rw z.places b)

  pub closed_at : (row r : ℕ) → r < 32 → get_or (closed_up row s.places) r 0 ≡ moved_up row (place_at s row) r (place_at s r)
  unfolding closed_up
  closed_at row r b = each_at (moved_up row (place_at s row)) s.places r 0 (rw z.places b)

-- the orders of other levels stay
pub moved_far : (row place r old : ℕ) → (level_of r ≡ level_of row → ⊥) → moved_up row place r old ≡ old
unfolding moved_up
moved_far row place r old m = rw (ne_eqb r row (λ e. m (ap level_of e)), ne_eqb (level_of r) (level_of row) m)

-- levels whose rows are free or not alike have equally many that are not
pub not_free_same : (s t : State) (level : ℕ) → ((n : ℕ) → n < 8 → is_free (row_at s (row_of level n)).condition ≡ is_free (row_at t (row_of level n)).condition) → rows_not_free s.rows level ≡ rows_not_free t.rows level
unfolding rows_not_free
not_free_same s t level f = count_same (λ n. not (is_free (row_at s (row_of level n)).condition)) (λ n. not (is_free (row_at t (row_of level n)).condition)) 8 (λ n g. ap not (f n g))

-- how many of the eight rows of a level, as they stand in the list, are not free
pub not_free_in : (rows : List Row) (level e : ℕ) → length rows ≡ 32 → level < 4 → e ≡ 8
    → (count_by (λ x. not (is_free x.condition)) (take e (drop (level * 8) rows)) ≡ rows_not_free rows level) × (rows_not_free rows level ≤ 8)
unfolding rows_not_free
not_free_in rows level e l b h =
    let part : List Row = take e (drop (level * 8) rows) in
    let n : length part ≡ 8 = length-take-le e (drop (level * 8) rows) (rw (length-drop, l, h) (omega arith)) ∙ h in (
      count_is (λ x. not (is_free x.condition)) part free_row
          ∙ rw n (count_same (λ k. not (is_free (get_or part k free_row).condition)) (λ k. not (is_free (get_or rows (row_of level k) free_row).condition)) 8
          (λ k m. ap (λ (x : Row). not (is_free x.condition)) (get_or-take e (drop (level * 8) rows) k free_row (rw h m) ∙ get_or-drop (level * 8) rows k free_row))),
      count_at_most (λ k. not (is_free (get_or rows (row_of level k) free_row).condition)) 8,
    )
