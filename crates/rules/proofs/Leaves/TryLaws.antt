-- The tries of a tick, one after another.
use mathlib.Core.Path.{◌≡◌, refl, ◌∙◌}
use mathlib.Core.Bool.{true, false}
use mathlib.Core.List.{List, [], ◌∷◌, ◌++◌}
use mathlib.Core.Logic.{inl, inr}
use Prim.Native.Nat.{ℕ, ◌<◌}
use Rattle.seq.proofs.Tests.{true_false}
use Rattle.seq.proofs.SortOrder.{Has, sorted_has}
use Rattle.seq.specs.Order.{Each}
use Rattle.seq.proofs.SortLaws.{each_weaker, sorted_each, none_sorted}
use Rattle.model.specs.declared.Condition.{Condition}
use Rattle.model.specs.declared.Condition.TheVariants.{Free, Idle, Fetching, Waiting, Killed}
use Rattle.model.specs.declared.Mode.{Mode}
use Rattle.model.specs.declared.State.{State}
use Rattle.model.specs.State.{row_at}
use Rattle.rules.specs.Calls.{served}
use Rattle.rules.specs.Refusals.{is_waiting}
use Rattle.rules.specs.Requests.{TriedOn}
use Rattle.rules.specs.Tries.{Tried, tried_as, try_row, tries, waiters, all_tried}
use Rattle.rules.proofs.Leaves.ServeCases.{Fixed, served_fixed}

-- a row is tried where it waits, and else skipped
pub by_try : {P : Type 0} (s : State) (row : ℕ) (x : Condition) → (is_waiting x ≡ false → try_row x s row ≡ record { state = s; fills = [] } → P)
    → ((page : ℕ) (mode : Mode) → x ≡ Waiting page mode → try_row x s row ≡ tried_as (served s row page mode) row page → P) → P
by_try s row Free skip serve = skip refl refl
by_try s row Idle skip serve = skip refl refl
by_try s row (Fetching due) skip serve = skip refl refl
by_try s row (Waiting page mode) skip serve = serve page mode refl refl
by_try s row (Killed cause) skip serve = skip refl refl

pub skipped : (x : Condition) (s : State) (row : ℕ) → is_waiting x ≡ false → (try_row x s row).state ≡ s
skipped Free s row e = refl
skipped Idle s row e = refl
skipped (Fetching due) s row e = refl
skipped (Waiting page mode) s row e = true_false e
skipped (Killed cause) s row e = refl

-- tries that begin with a row
abbrev pub and_then : Tried → Tried → Tried
and_then x y = record { state = y.state; fills = x.fills ++ y.fills }

-- what holds of no try, passes over a row that is skipped, and over a row that is served, holds of all tries
module _ (P : List ℕ → State → Tried → Type 0)
    (none : (s : State) → P [] s (record { state = s; fills = [] }))
    (skip : (row : ℕ) (rows : List ℕ) (s : State) (y : Tried) → is_waiting (row_at s row).condition ≡ false → P rows s y → P (row ∷ rows) s y)
    (serve : (row : ℕ) (rows : List ℕ) (s : State) (page : ℕ) (mode : Mode) (y : Tried) → (row_at s row).condition ≡ Waiting page mode
    → P rows (served s row page mode).state y → P (row ∷ rows) s (and_then (tried_as (served s row page mode) row page) y)) where
  pub by_tries : (rows : List ℕ) (s : State) → P rows s (tries rows s)
  unfolding tries
  by_tries [] s = none s
  by_tries (row ∷ rows) s = by_try s row (row_at s row).condition
      (λ w e. rw e (skip row rows s (tries rows s) w (by_tries rows s)))
      (λ page mode w e. rw e (serve row rows s page mode (tries rows (served s row page mode).state) w (by_tries rows (served s row page mode).state)))

-- the waiting rows
pub waiters_wait : (s : State) → Each (λ row. (row < 32) × (is_waiting (row_at s row).condition ≡ true)) (waiters s)
unfolding waiters
waiters_wait s = sorted_each (λ row. is_waiting (row_at s row).condition) _ 32

pub waiters_rows : (s : State) → Each (λ row. row < 32) (waiters s)
waiters_rows s = each_weaker (λ row. (row < 32) × (is_waiting (row_at s row).condition ≡ true)) (λ row. row < 32) (λ row h. h.0) (waiters s) (waiters_wait s)

-- each waiting row is among them, and is tried
pub waiters_have : (s : State) (row : ℕ) → row < 32 → is_waiting (row_at s row).condition ≡ true → Has row (waiters s)
unfolding waiters
waiters_have s row b w = sorted_has (λ row. is_waiting (row_at s row).condition) _ 32 row b w

pub has_tried : (rows : List ℕ) (s : State) (row : ℕ) → Has row rows → (u : State) × TriedOn rows s u row
has_tried [] s row h = absurd h
has_tried (r ∷ rows) s row (inl e) = (s, inl (refl, e))
has_tried (r ∷ rows) s row (inr h) = let x = has_tried rows (try_row (row_at s r).condition s r).state row h in (x.0, inr x.1)

-- the clock, the number of slots, the borders, the mark and the begin orders stay
pub tries_fixed : (rows : List ℕ) (s : State) → Fixed s (tries rows s).state
tries_fixed = by_tries (λ rows s y. Fixed s y.state)
    (λ s. record { clock = refl; size = refl; borders = refl; begun = refl; places = refl })
    (λ row rows s y w more. more)
    (λ row rows s page mode y w more.
    let x = served_fixed s row page mode in
    record { clock = more.clock ∙ x.clock; size = more.size ∙ x.size; borders = more.borders ∙ x.borders; begun = more.begun ∙ x.begun; places = more.places ∙ x.places })

pub tried_fixed : (s : State) → Fixed s (all_tried s).state
unfolding all_tried
tried_fixed s = tries_fixed (waiters s) s

-- where no row waits nothing is tried
pub none_tried : (s : State) → ((row : ℕ) → row < 32 → is_waiting (row_at s row).condition ≡ false) → all_tried s ≡ record { state = s; fills = [] }
unfolding all_tried waiters tries
none_tried s f = rw (none_sorted (λ row. is_waiting (row_at s row).condition) _ 32 f)

-- some rows and then others
pub tries_joined : (rows others : List ℕ) (s : State) → (tries (rows ++ others) s).state ≡ (tries others (tries rows s).state).state
unfolding tries
tries_joined [] others s = refl
tries_joined (row ∷ rows) others s = tries_joined rows others (try_row (row_at s row).condition s row).state
