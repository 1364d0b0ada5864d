-- The rows that marks name, and what an end and a tick make of them.
use mathlib.Core.Path.{◌≡◌, refl, ◌∙◌, ap}
use mathlib.Core.Bool.{Bool, true, false, cond}
use mathlib.Core.List.{List}
use Prim.Native.Nat.{ℕ, ◌+◌, ◌<◌}
use lib.Dec.{eqb}
use lib.ListN.{get_or, set, replicate, length-replicate, get_or-replicate}
use Rattle.seq.specs.Each.{each}
use Rattle.seq.proofs.Tests.{eqb_sym}
use Rattle.seq.proofs.EachLaws.{set_at}
use Rattle.seq.proofs.BuildLaws.{build_at}
use Rattle.model.specs.declared.Row.{Row}
use Rattle.model.specs.declared.Cause.TheVariants.{Late}
use Rattle.model.specs.declared.State.{State}
use Rattle.model.specs.State.{free_row, with_clock, with_rows, put_row}
use Rattle.model.specs.Changes.{released, killed}
use Rattle.model.specs.Inner.Changed.{marked}
use Rattle.model.specs.Ranges.{Sized}
use Rattle.model.proofs.SameRows.{released_same, killed_same}
use Rattle.rules.specs.Calls.{delivered_row, delivered_rows, is_late, late_killed, advanced}
use Rattle.rules.proofs.Leaves.TickLaws.{later, sized_later}
use Rattle.calls.specs.Inner.Parts.{late_row, late_marks}

cond_self : (b : Bool) → cond b true false ≡ b
cond_self true = refl
cond_self false = refl

pub one_marked : (row other : ℕ) → row < 32 → other < 32 → marked (set (replicate 32 false) row true) other ≡ eqb row other
one_marked row other h k =
    set_at (replicate 32 false) row other true false (rw (length-replicate 32 false) h)
    ∙ rw (get_or-replicate 32 other false false k) (cond_self (eqb other row) ∙ eqb_sym other row)

pub late_marked : (clock : ℕ) (rows : List Row) (row : ℕ) → row < 32 → marked (late_marks clock rows) row ≡ late_row clock (get_or rows row free_row)
unfolding late_marks
late_marked clock rows row h = build_at (λ r. late_row clock (get_or rows r free_row)) 32 false row false h

-- end: the marked row is released, and free
pub ended_row : (s : State) (r row : ℕ) (x : Row) → r ≡ row → r < 32 → x ≡ free_row → put_row (released (marked (set (replicate 32 false) r true)) s) r x ≡ put_row (released (eqb row) s) row free_row
ended_row s r row x e h f =
    ap (λ (u : State). put_row u r x) (released_same (marked (set (replicate 32 false) r true)) (eqb r) s (λ other k. one_marked r other h k)) ∙ rw (e, f)

-- tick: the rows are delivered, and the late ones killed
pub ticked_rows : (s u : State) (rows : List Row) (marks : List Bool) → Sized s → rows ≡ each (λ row x. delivered_row (s.clock + 1) x) s.rows
    → ((row : ℕ) → row < 32 → marked marks row ≡ late_row (s.clock + 1) (get_or rows row free_row))
    → u ≡ killed (marked marks) Late (with_rows (with_clock s (s.clock + 1)) rows) → u ≡ late_killed (delivered_rows (advanced s))
unfolding late_killed delivered_rows advanced is_late
ticked_rows s u rows marks z e f q =
    q ∙ rw e (killed_same (marked marks) (is_late (later s)) (later s) (λ row h. rw e at (f row h)) (sized_later s z) Late)
