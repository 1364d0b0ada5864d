-- What tries make of a row: it stays as it was, is killed, or, where it waited, becomes idle or fetching with its deadline.
use mathlib.Core.Path.{◌≡◌, refl, sym, ◌∙◌, ap}
use mathlib.Core.Bool.{true, false}
use mathlib.Core.List.{List, [], ◌∷◌, ◌++◌}
use mathlib.Core.Logic.{inl, inr}
use Prim.Native.Nat.{ℕ, ◌<◌}
use native.Mathlib.Omega.{arith}
use native.Mathlib.Decide.{ℕ_discrete}
use lib.Seq.{set-get_or}
use Rattle.seq.proofs.Tests.{true_false}
use Rattle.seq.specs.Order.{Each}
use Rattle.model.specs.declared.Answer.TheVariants.{Wait}
use Rattle.model.specs.declared.Cause.TheVariants.{Taken}
use Rattle.model.specs.declared.Condition.{Condition}
use Rattle.model.specs.declared.Condition.TheVariants.{Free, Idle, Fetching, Waiting, Killed}
use Rattle.model.specs.declared.Mode.{Mode}
use Rattle.model.specs.declared.Outcome.{Outcome}
use Rattle.model.specs.declared.Row.{Row}
use Rattle.model.specs.declared.State.{State}
use Rattle.model.specs.State.{free_row, row_at, with_rows, put_row}
use Rattle.model.specs.Words.{is_live}
use Rattle.model.specs.Changes.{killed_row}
use Rattle.rules.specs.Calls.{waiting, served}
use Rattle.rules.specs.Listed.{is_idle_or_fetching}
use Rattle.rules.specs.Refusals.{is_waiting}
use Rattle.rules.specs.Sound.{sound}
use Rattle.rules.specs.Tries.{Fill, Tried, filled_by, tries, waiters, all_tried}
use Rattle.rules.proofs.Leaves.TryLaws.{by_tries, waiters_rows}
use Rattle.rules.proofs.Promises.BetterSafe.{dead_safe}
use Rattle.rules.proofs.Promises.Granting.{never_waits}
use Rattle.rules.proofs.Promises.Serving.{Serving, waits, waits_g, joins, fills, serving}
use Rattle.rules.proofs.Promises.ServedRows.{SameOrTaken, Own, own_waits, own_ready, own_fetch, served_others, served_deadline, served_own}
use Rattle.rules.proofs.Stays.StaysTries.{stored_sound}

-- a row before and after
pub data AfterTries (x y : Row) : Type 0 where
  same : y ≡ x → AfterTries x y
  taken : y ≡ killed_row Taken → AfterTries x y
  made : is_waiting x.condition ≡ true → is_idle_or_fetching y.condition ≡ true → y.deadline ≡ x.deadline → AfterTries x y

-- a row that waits is neither idle nor fetching
pub waits_unmade : {P : Type 0} (x : Condition) → is_waiting x ≡ true → is_idle_or_fetching x ≡ true → P
waits_unmade Free e f = true_false (sym e)
waits_unmade Idle e f = true_false (sym e)
waits_unmade (Fetching due) e f = true_false (sym e)
waits_unmade (Waiting page mode) e f = true_false (sym f)
waits_unmade (Killed cause) e f = true_false (sym e)

pub waiting_live : (x : Condition) → is_waiting x ≡ true → is_live x ≡ true
waiting_live Free e = e
waiting_live Idle e = refl
waiting_live (Fetching due) e = refl
waiting_live (Waiting page mode) e = refl
waiting_live (Killed cause) e = e

-- a row that is live afterwards was live, and has its deadline
pub live_after : (x y : Row) → AfterTries x y → is_live y.condition ≡ true → (is_live x.condition ≡ true) × (y.deadline ≡ x.deadline)
live_after x y (same e) l = (rw (← e) l, ap (λ (r : Row). r.deadline) e)
live_after x y (taken e) l = true_false (sym (rw e at l))
live_after x y (made k i d) l = (waiting_live x.condition k, d)

after_trans : (x y w : Row) → AfterTries x y → AfterTries y w → AfterTries x w
after_trans x y w (same e) p = rw (← e) p
after_trans x y w (taken e) (same f) = taken (f ∙ e)
after_trans x y w (taken e) (taken f) = taken f
after_trans x y w (taken e) (made a b c) = true_false (sym (rw e at a))
after_trans x y w (made a b c) (same f) = rw f (made a b c)
after_trans x y w (made a b c) (taken f) = taken f
after_trans x y w (made a b c) (made d e f) = waits_unmade y.condition d b

-- a row that waits, served
module _ (s : State) (z : sound s ≡ true) (row : ℕ) (b : row < 32) (page : ℕ) (mode : Mode) (w : (row_at s row).condition ≡ Waiting page mode) where
  own_after : AfterTries (row_at s row) (row_at (served s row page mode).state row)
  own_after = go (served s row page mode) (served_own s z row b page mode) (served_deadline s z row b page mode)
    where
      go : (o : Outcome) → Own row page mode o → (row_at o.state row).deadline ≡ (row_at s row).deadline → AfterTries (row_at s row) (row_at o.state row)
      go o (own_waits a c) d = same (λ i. record { condition = (c ∙ sym w) i; deadline = d i })
      go o (own_ready slot back a c l) d = made (rw w) (rw c) d
      go o (own_fetch due slot back a c l) d = made (rw w) (rw c) d

  pub served_after : (q : ℕ) → q < 32 → AfterTries (row_at s q) (row_at (served s row page mode).state q)
  served_after q m = elim (ℕ_discrete q row) [
    | yes e ↦ rw e own_after
    | no n ↦ go (row_at s q) (row_at (served s row page mode).state q) (served_others s z row b page mode q m n)
  ]
    where
      go : (x y : Row) → SameOrTaken x y → AfterTries x y
      go x y (inl e) = same e
      go x y (inr e) = taken e

  -- a row that still waits is as it was
  pub still_waits : (q : ℕ) → q < 32 → is_waiting (row_at (served s row page mode).state q).condition ≡ true → row_at (served s row page mode).state q ≡ row_at s q
  still_waits q m = go (row_at s q) (row_at (served s row page mode).state q) (served_after q m)
    where
      go : (x y : Row) → AfterTries x y → is_waiting y.condition ≡ true → y ≡ x
      go x y (same e) k = e
      go x y (taken e) k = true_false (sym (rw e at k))
      go x y (made a c d) k = waits_unmade y.condition k c

pub tries_after : (rows : List ℕ) (s : State) → Each (λ row. row < 32) rows → sound s ≡ true → (q : ℕ) → q < 32 → AfterTries (row_at s q) (row_at (tries rows s).state q)
tries_after = by_tries (λ rows s y. Each (λ row. row < 32) rows → sound s ≡ true → (q : ℕ) → q < 32 → AfterTries (row_at s q) (row_at y.state q))
    (λ s h z q m. same refl)
    (λ row rows s y w more h z. more h.1 z)
    (λ row rows s page mode y w more h z q m.
    after_trans (row_at s q) (row_at (served s row page mode).state q) (row_at y.state q) (served_after s z row h.0 page mode w q m) (more h.1 (stored_sound s z row h.0 page mode w) q m))

-- a row that does not wait stays as it was, or is killed as taken
pub tries_others : (rows : List ℕ) (s : State) → Each (λ row. row < 32) rows → sound s ≡ true → (q : ℕ) → q < 32 → is_waiting (row_at s q).condition ≡ false
    → SameOrTaken (row_at s q) (row_at (tries rows s).state q)
tries_others rows s h z q m n = go (row_at s q) (row_at (tries rows s).state q) n (tries_after rows s h z q m)
  where
    go : (x y : Row) → is_waiting x.condition ≡ false → AfterTries x y → SameOrTaken x y
    go x y n (same e) = inl e
    go x y n (taken e) = inr e
    go x y n (made a c d) = true_false (sym a ∙ n)

-- a row that is free or killed stays as it was
tries_dead : (rows : List ℕ) (s : State) → Each (λ row. row < 32) rows → sound s ≡ true → (q : ℕ) → q < 32 → is_live (row_at s q).condition ≡ false → row_at (tries rows s).state q ≡ row_at s q
tries_dead = by_tries (λ rows s y. Each (λ row. row < 32) rows → sound s ≡ true → (q : ℕ) → q < 32 → is_live (row_at s q).condition ≡ false → row_at y.state q ≡ row_at s q)
    (λ s h z q m d. refl)
    (λ row rows s y w more h z. more h.1 z)
    (λ row rows s page mode y w more h z q m d.
    let e = (dead_safe s z row h.0 page mode q m d (rw w)).row_same in
    more h.1 (stored_sound s z row h.0 page mode w) q m (rw e d) ∙ e)

-- the same of all tries
module _ (s : State) (z : sound s ≡ true) (q : ℕ) (m : q < 32) where
  pub tried_after : AfterTries (row_at s q) (row_at (all_tried s).state q)
  unfolding all_tried
  tried_after = tries_after (waiters s) s (waiters_rows s) z q m

  pub tried_others : is_waiting (row_at s q).condition ≡ false → SameOrTaken (row_at s q) (row_at (all_tried s).state q)
  unfolding all_tried
  tried_others = tries_others (waiters s) s (waiters_rows s) z q m

  pub tried_dead : is_live (row_at s q).condition ≡ false → row_at (all_tried s).state q ≡ row_at s q
  unfolding all_tried
  tried_dead = tries_dead (waiters s) s (waiters_rows s) z q m

-- ---- tries in vain

-- a row that waits and is served in vain leaves the state
pub vain_still : (s : State) (row page : ℕ) (mode : Mode) → (row_at s row).condition ≡ Waiting page mode → (served s row page mode).answer ≡ Wait → (served s row page mode).state ≡ s
unfolding waiting
vain_still s row page mode w = go (served s row page mode) (serving s row page mode)
  where
    same_state : (waiting s row page mode).state ≡ s
    same_state = (λ i. put_row s row (record { condition = sym w i; deadline = (row_at s row).deadline })) ∙ ap (with_rows s) (set-get_or s.rows row free_row)

    go : (o : Outcome) → Serving s row page mode o → o.answer ≡ Wait → o.state ≡ s
    go o (waits slot e v m q) k = rw q same_state
    go o (waits_g e n q) k = rw q same_state
    go o (joins slot arrival some e n q) k = never_waits _ _ _ _ _ _ (rw q at k)
    go o (fills slot e n q) k = never_waits _ _ _ _ _ _ (rw q at k)

full : {x : Fill} {xs : List Fill} → x ∷ xs ≡ [] → ⊥
full q = let n : ◌≡◌ {A = ℕ} 1 0 = cc in omega arith

-- tries that fill nothing leave the state
pub none_filled : (s : State) → sound s ≡ true → (all_tried s).fills ≡ [] → (all_tried s).state ≡ s
unfolding all_tried
none_filled s z = by_tries (λ rows s y. Each (λ row. row < 32) rows → sound s ≡ true → y.fills ≡ [] → y.state ≡ s)
    (λ s b z e. refl)
    (λ row rows s y w more b. more b.1)
    (λ row rows s page mode y w more b z e.
    go row s page mode y (served_own s z row b.0 page mode) e
    (λ a k. let v = vain_still s row page mode w a in more b.1 (stored_sound s z row b.0 page mode w) k ∙ v))
    (waiters s) s (waiters_rows s) z
  where
    go : (row : ℕ) (s : State) (page : ℕ) (mode : Mode) (y : Tried) → Own row page mode (served s row page mode) → filled_by row page (served s row page mode).answer ++ y.fills ≡ []
        → ((served s row page mode).answer ≡ Wait → y.fills ≡ [] → y.state ≡ s) → y.state ≡ s
    go row s page mode y (own_waits a c) e f = f a (rw a at e)
    go row s page mode y (own_ready slot back a c l) e f = absurd (full (rw a at e))
    go row s page mode y (own_fetch due slot back a c l) e f = absurd (full (rw a at e))
