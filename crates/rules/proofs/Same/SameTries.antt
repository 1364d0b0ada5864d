-- The tries of a tick on two states alike for L leave alike states: rows up to L are tried before all others, since priority compares the level first.
use mathlib.Core.Path.{◌≡◌, refl, ap}
use mathlib.Core.Bool.{Bool, true, false, ◌&&◌, not}
use mathlib.Core.List.{List, [], ◌∷◌, ◌++◌}
use Prim.Native.Nat.{ℕ, ◌<◌, ◌≤◌}
use native.Mathlib.Omega.{arith}
use borrow.Author.Tests.{leb-true, leb-false, not-true}
use lib.Dec.{leb}
use Rattle.seq.specs.Below.{sorted_below}
use Rattle.seq.proofs.Tests.{and_right, not_true_false}
use Rattle.seq.specs.Order.{Each}
use Rattle.seq.proofs.SortLaws.{each_weaker, sorted_each, sorted_same}
use Rattle.seq.proofs.SortOrder.{sorted_apart}
use Rattle.model.specs.declared.Condition.{Condition}
use Rattle.model.specs.declared.Condition.TheVariants.{Free, Idle, Fetching, Waiting, Killed}
use Rattle.model.specs.declared.Row.{Row}
use Rattle.model.specs.declared.State.{State}
use Rattle.model.specs.Parties.{level_of}
use Rattle.model.specs.State.{row_at}
use Rattle.model.specs.Words.{outranks}
use Rattle.model.proofs.PriorityLaws.{outranks_level, level_outranks}
use Rattle.rules.specs.Refusals.{is_waiting}
use Rattle.rules.specs.Sound.{sound}
use Rattle.rules.specs.Tries.{try_row, tries, waiters, all_tried}
use Rattle.rules.proofs.Facts.SoundFacts.{facts}
use Rattle.rules.proofs.Leaves.TryLaws.{by_tries, tries_joined}
use Rattle.rules.specs.Alike.{Alike}
use Rattle.rules.proofs.Same.AlikeLaws.{alike_refl, alike_sym, alike_trans}
use Rattle.rules.proofs.Same.SamePages.{same_rank}
use Rattle.rules.proofs.Same.SameRequest.{same_request}
use Rattle.rules.proofs.Unseen.HiddenServed.{served_hidden}
use Rattle.rules.proofs.Stays.StaysTries.{stored_sound, try_sound, tries_sound}

module _ (L : ℕ) where
  -- rows above L
  tries_hidden : (rows : List ℕ) (s : State) → Each (λ r. (r < 32) × (L < level_of r)) rows → sound s ≡ true → Alike L s (tries rows s).state
  tries_hidden = by_tries (λ rows s y. Each (λ r. (r < 32) × (L < level_of r)) rows → sound s ≡ true → Alike L s y.state)
      (λ s h z. alike_refl L s)
      (λ row rows s y w more h z. more h.1 z)
      (λ row rows s page mode y w more h z.
      alike_trans (served_hidden L s (facts s z) row h.0.0 h.0.1 page mode) (more h.1 (stored_sound s z row h.0.0 page mode w)))

  -- one row up to L
  try_same : (s t : State) → L ≤ 2 → sound s ≡ true → sound t ≡ true → Alike L s t → (row : ℕ) → row < 32 → level_of row ≤ L → (x : Condition)
      → Alike L (try_row x s row).state (try_row x t row).state
  try_same s t two y z a row b l Free = a
  try_same s t two y z a row b l Idle = a
  try_same s t two y z a row b l (Fetching due) = a
  try_same s t two y z a row b l (Waiting page mode) = (same_request L s t row page mode two b l (facts s y) (facts t z) a).1
  try_same s t two y z a row b l (Killed cause) = a

  -- the same rows up to L
  tries_same : (rows : List ℕ) (s t : State) → Each (λ r. (r < 32) × (level_of r ≤ L)) rows → L ≤ 2 → sound s ≡ true → sound t ≡ true → Alike L s t → Alike L (tries rows s).state (tries rows t).state
  unfolding tries
  tries_same [] s t h two y z a = a
  tries_same (row ∷ rows) s t h two y z a =
      let b = h.0.0 in
      let e : (row_at s row).condition ≡ (row_at t row).condition = ap (λ (x : Row). x.condition) (a.row row b h.0.1) in
      tries_same rows (try_row (row_at s row).condition s row).state (try_row (row_at t row).condition t row).state h.1 two (try_sound s y row b) (try_sound t z row b)
      (rw (← e) (try_same s t two y z a row b h.0.1 (row_at s row).condition))

  -- the waiting rows up to L, and the others
  abbrev up_to : State → List ℕ
  up_to s = sorted_below 32 (λ r. is_waiting (row_at s r).condition && leb (level_of r) L) (outranks s)

  abbrev above : State → List ℕ
  above s = sorted_below 32 (λ r. is_waiting (row_at s r).condition && not (leb (level_of r) L)) (outranks s)

  waiters_apart : (s : State) → waiters s ≡ up_to s ++ above s
  unfolding waiters
  waiters_apart s = sorted_apart (λ r. is_waiting (row_at s r).condition) (λ r. leb (level_of r) L) (outranks s)
      (λ i j p q.
      let l = leb-true (level_of i) L p in
      let m = leb-false (level_of j) L q in
      (outranks_level s i j (omega arith), not_true_false (outranks s j i) (λ k. absurd (let n = level_outranks s j i k in omega arith))))
      32

  up_to_lem : (s : State) → Each (λ r. (r < 32) × (level_of r ≤ L)) (up_to s)
  up_to_lem s = each_weaker (λ r. (r < 32) × (is_waiting (row_at s r).condition && leb (level_of r) L ≡ true)) (λ r. (r < 32) × (level_of r ≤ L))
      (λ r h. (h.0, leb-true (level_of r) L (and_right (is_waiting (row_at s r).condition) (leb (level_of r) L) h.1))) (up_to s)
      (sorted_each (λ r. is_waiting (row_at s r).condition && leb (level_of r) L) (outranks s) 32)

  are_above : (s : State) → Each (λ r. (r < 32) × (L < level_of r)) (above s)
  are_above s = each_weaker (λ r. (r < 32) × (is_waiting (row_at s r).condition && not (leb (level_of r) L) ≡ true)) (λ r. (r < 32) × (L < level_of r))
      (λ r h. (h.0, leb-false (level_of r) L (not-true (leb (level_of r) L) (and_right (is_waiting (row_at s r).condition) (not (leb (level_of r) L)) h.1)))) (above s)
      (sorted_each (λ r. is_waiting (row_at s r).condition && not (leb (level_of r) L)) (outranks s) 32)

  -- the others leave a state alike
  tried_apart : (s : State) → sound s ≡ true → Alike L (tries (up_to s) s).state (all_tried s).state
  unfolding all_tried
  tried_apart s z =
      rw (waiters_apart s, tries_joined (up_to s) (above s) s)
      (tries_hidden (above s) (tries (up_to s) s).state (are_above s)
      (tries_sound (up_to s) s (each_weaker (λ r. (r < 32) × (level_of r ≤ L)) (λ r. r < 32) (λ r h. h.0) (up_to s) (up_to_lem s)) z))

  module _ (s t : State) (a : Alike L s t) where
    same_up_to : up_to s ≡ up_to t
    same_up_to = sorted_same (λ r. is_waiting (row_at s r).condition && leb (level_of r) L) (λ r. is_waiting (row_at t r).condition && leb (level_of r) L) (outranks s) (outranks t) 32
        (λ r b. go r b (leb (level_of r) L) refl)
        (λ i j b d p q. same_rank L s t a i j b d (low i p) (low j q))
      where
        low : (r : ℕ) → is_waiting (row_at s r).condition && leb (level_of r) L ≡ true → level_of r ≤ L
        low r p = leb-true (level_of r) L (and_right (is_waiting (row_at s r).condition) (leb (level_of r) L) p)

        none : (x y : Bool) → x && false ≡ y && false
        none true true = refl
        none true false = refl
        none false true = refl
        none false false = refl

        go : (r : ℕ) → r < 32 → (b : Bool) → leb (level_of r) L ≡ b → is_waiting (row_at s r).condition && leb (level_of r) L ≡ is_waiting (row_at t r).condition && leb (level_of r) L
        go r b true e = rw (a.row r b (leb-true (level_of r) L e))
        go r b false e = rw e (none (is_waiting (row_at s r).condition) (is_waiting (row_at t r).condition))

    pub same_tries : L ≤ 2 → sound s ≡ true → sound t ≡ true → Alike L (all_tried s).state (all_tried t).state
    same_tries two y z =
        alike_trans (alike_sym (tried_apart s y))
        (alike_trans (tries_same (up_to s) s t (up_to_lem s) two y z a)
        (rw same_up_to (tried_apart t z)))
