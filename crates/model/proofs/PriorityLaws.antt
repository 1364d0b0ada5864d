-- Priority is a strict order on rows, in which those of one level, one deadline and one place are equal; a lower level has better priority.
use mathlib.Core.Path.{◌≡◌, sym, ◌∙◌}
use mathlib.Core.Bool.{Bool, true, false}
use Prim.Native.Nat.{ℕ, ◌<◌, ◌≤◌}
use lib.Dec.{ltb}
use Rattle.seq.specs.Order.{lex_less}
use Rattle.seq.proofs.Tests.{true_false}
use Rattle.seq.proofs.OrderLaws.{lex_true, lex_next, less_lex, lex_strict, lex_trans, lex_weak, lex_total, ltb_strict, ltb_trans, ltb_weak, ltb_total}
use Rattle.model.specs.Parties.{level_of, better}
use Rattle.model.specs.State.{row_at, place_at}
use Rattle.model.specs.Words.{rank_at, outranks}
use Rattle.model.specs.declared.State.{State}
use Rattle.model.specs.declared.Rank.{Rank}

-- what decides between ranks of one level
abbrev later : Rank → Rank → Bool
later x y = lex_less x.deadline y.deadline (ltb x.place y.place)

pub better_strict : (x : Rank) → better x x ≡ false
unfolding better
better_strict x = lex_strict x.level (later x x) (lex_strict x.deadline (ltb x.place x.place) (ltb_strict x.place))

pub better_trans : (x y z : Rank) → better x y ≡ true → better y z ≡ true → better x z ≡ true
unfolding better
better_trans x y z =
    lex_trans x.level y.level z.level (later x y) (later y z) (later x z)
    (lex_trans x.deadline y.deadline z.deadline (ltb x.place y.place) (ltb y.place z.place) (ltb x.place z.place) (ltb_trans x.place y.place z.place))

-- a rank that another is not better than is better than all that the other is better than
pub better_weak : (x y z : Rank) → better x y ≡ false → better x z ≡ true → better y z ≡ true
unfolding better
better_weak x y z =
    lex_weak x.level y.level z.level (later x y) (later x z) (later y z)
    (lex_weak x.deadline y.deadline z.deadline (ltb x.place y.place) (ltb x.place z.place) (ltb y.place z.place) (ltb_weak x.place y.place z.place))

-- two ranks of which neither is better have one level and one place
pub better_total : (x y : Rank) → better x y ≡ false → better y x ≡ false → (x.level ≡ y.level) × (x.place ≡ y.place)
unfolding better
better_total x y p q =
    let a = lex_total x.level y.level (later x y) (later y x) p q in
    let b = lex_total x.deadline y.deadline (ltb x.place y.place) (ltb y.place x.place) a.1 a.2 in
    (a.0, ltb_total x.place y.place b.1 b.2)

pub better_level : (x y : Rank) → x.level < y.level → better x y ≡ true
unfolding better
better_level x y h = less_lex x.level y.level (later x y) h

pub level_better : (x y : Rank) → better x y ≡ true → x.level ≤ y.level
unfolding better
level_better x y h = lex_true x.level y.level (later x y) h

-- between ranks of one level and one deadline the place decides
pub place_better : (x y : Rank) → x.level ≡ y.level → x.deadline ≡ y.deadline → ltb x.place y.place ≡ better x y
unfolding better
place_better x y p q =
    sym (lex_next x.level y.level (later x y) p ∙ lex_next x.deadline y.deadline (ltb x.place y.place) q)

-- the same of the rows of a state
module _ (s : State) where
  pub outranks_strict : (row : ℕ) → outranks s row row ≡ false
  unfolding outranks
  outranks_strict row = better_strict (rank_at s row)

  pub outranks_trans : (a b c : ℕ) → outranks s a b ≡ true → outranks s b c ≡ true → outranks s a c ≡ true
  unfolding outranks
  outranks_trans a b c = better_trans (rank_at s a) (rank_at s b) (rank_at s c)

  pub outranks_weak : (a b c : ℕ) → outranks s a b ≡ false → outranks s a c ≡ true → outranks s b c ≡ true
  unfolding outranks
  outranks_weak a b c = better_weak (rank_at s a) (rank_at s b) (rank_at s c)

  pub outranks_total : (row other : ℕ) → outranks s row other ≡ false → outranks s other row ≡ false → (level_of row ≡ level_of other) × (place_at s row ≡ place_at s other)
  unfolding outranks
  outranks_total row other = better_total (rank_at s row) (rank_at s other)

  pub outranks_level : (row other : ℕ) → level_of row < level_of other → outranks s row other ≡ true
  unfolding outranks
  outranks_level row other = better_level (rank_at s row) (rank_at s other)

  pub level_outranks : (row other : ℕ) → outranks s row other ≡ true → level_of row ≤ level_of other
  unfolding outranks
  level_outranks row other = level_better (rank_at s row) (rank_at s other)

  -- no two rows outrank each other, and a row does not outrank itself
  pub outranks_once : {P : Type 0} (row other : ℕ) → outranks s row other ≡ true → outranks s other row ≡ true → P
  outranks_once row other p q = true_false (sym (outranks_trans row other row p q) ∙ outranks_strict row)

  pub outranks_other : (row other : ℕ) → outranks s row other ≡ true → row ≡ other → ⊥
  outranks_other row other p e = true_false (sym (rw e at p) ∙ outranks_strict other)

-- priority is by the deadlines and the places
pub outranks_same : (s t : State) (row other : ℕ) → (row_at s row).deadline ≡ (row_at t row).deadline → (row_at s other).deadline ≡ (row_at t other).deadline
    → place_at s row ≡ place_at t row → place_at s other ≡ place_at t other → outranks s row other ≡ outranks t row other
unfolding outranks
outranks_same s t row other p q f g = rw (p, q, f, g)

-- of states with the same begin orders
pub outranks_kept : (s t : State) (row other : ℕ) → s.places ≡ t.places → (row_at s row).deadline ≡ (row_at t row).deadline → (row_at s other).deadline ≡ (row_at t other).deadline
    → outranks s row other ≡ outranks t row other
outranks_kept s t row other e p q = outranks_same s t row other p q (rw e) (rw e)
