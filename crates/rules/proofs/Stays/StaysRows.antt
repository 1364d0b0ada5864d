-- What sound says of a row stays where the row and its pinned holdings stay, and its other holdings stay or go.
use mathlib.Core.Path.{◌≡◌, refl, ◌∙◌}
use mathlib.Core.Bool.{Bool, true, false, ◌&&◌}
use Prim.Native.Nat.{ℕ, ◌<◌, ◌≤◌}
use native.Mathlib.Omega.{arith}
use lib.Dec.{eqb}
use Rattle.seq.proofs.BelowLaws.{one_same}
use Rattle.model.specs.declared.Condition.{Condition}
use Rattle.model.specs.declared.Condition.TheVariants.{Free, Idle, Fetching, Waiting, Killed}
use Rattle.model.specs.declared.Holding.{Holding}
use Rattle.model.specs.declared.State.{State}
use Rattle.model.specs.State.{row_at, holding_at}
use Rattle.model.specs.Words.{is_live, is_pin, pins}
use Rattle.rules.specs.Sound.{awaits, in_time}
use Rattle.rules.specs.SoundFacts.{Settled, Awaiting, RowSound}
use Rattle.rules.proofs.Stays.StaysBase.{HoldingStays, same, gone, loose, still_held}

-- a holding that is not pinned is not pinned after
unpinned_stays : (h k : Holding) → HoldingStays h k → is_pin h.pin ≡ false → is_pin k.pin ≡ false
unpinned_stays h k (same e) w = rw e w
unpinned_stays h k (gone e) w = rw e
unpinned_stays h k (loose v e) w = rw e

module _ (s t : State) (r : ℕ) (old : (i : ℕ) → i < 64 → HoldingStays (holding_at s i r) (holding_at t i r)) where
  -- the holdings have arrived
  pub settled_stays : (d d' : ℕ) → s.clock ≤ t.clock → in_time t d' ≡ true → Settled s r d → Settled t r d'
  settled_stays d d' c b h = record {
    deadline = b;
    arrived = λ i a w.
        let k = still_held (holding_at s i r) (holding_at t i r) (old i a) w in
        omega (arith, k.arrival, h.arrived i a k.held);
  }

  module _ (pinned : (i : ℕ) → i < 64 → pins s i r ≡ true → holding_at t i r ≡ holding_at s i r) where
    awaits_stays : (due i : ℕ) → i < 64 → awaits s r due i ≡ awaits t r due i
    unfolding awaits
    awaits_stays due i a = go (pins s i r) refl
      where
        go : (b : Bool) → pins s i r ≡ b → pins s i r && eqb (holding_at s i r).arrival due ≡ pins t i r && eqb (holding_at t i r).arrival due
        go true e = rw (pinned i a e)
        go false e = rw (e, unpinned_stays (holding_at s i r) (holding_at t i r) (old i a) e)

    pub awaiting_stays : (due d : ℕ) → s.clock ≤ t.clock → in_time t d ≡ true → t.clock < due → Awaiting s r due d → Awaiting t r due d
    awaiting_stays due d c b u h = record {
      deadline = b;
      due = u;
      one = one_same (awaits s r due) (awaits t r due) 64 (awaits_stays due) h.one;
      others = λ i a w v.
          let k = still_held (holding_at s i r) (holding_at t i r) (old i a) w in
          omega (arith, k.arrival, h.others i a k.held (awaits_stays due i a ∙ v));
    }

    pub condition_stays : t.clock ≡ s.clock → (x : Condition) (d : ℕ) → (is_live x ≡ true → t.borders ≡ s.borders) → RowSound s r x d → RowSound t r x d
    condition_stays c Free d b h = h
    condition_stays c (Killed cause) d b h = h
    condition_stays c Idle d b h = settled_stays d d (omega arith) (rw c h.deadline) h
    condition_stays c (Fetching due) d b h = awaiting_stays due d (omega arith) (rw c h.deadline) (omega (arith, h.due)) h
    condition_stays c (Waiting page mode) d b h = (settled_stays d d (omega arith) (rw c h.0.deadline) h.0, h.1, rw (b refl) h.2)

    pub row_stays : t.clock ≡ s.clock → (is_live (row_at s r).condition ≡ true → t.borders ≡ s.borders) → row_at t r ≡ row_at s r → RowSound s r (row_at s r).condition (row_at s r).deadline → RowSound t r (row_at t r).condition (row_at t r).deadline
    row_stays c b e h = rw e (condition_stays c (row_at s r).condition (row_at s r).deadline b h)
