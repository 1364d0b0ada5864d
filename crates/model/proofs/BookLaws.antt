-- What was written to a page by a tick k, and is not written back, stays booked: by the write pin or by the slot's dirty mark.
use mathlib.Core.Path.{◌≡◌, refl, ◌∙◌}
use mathlib.Core.Bool.{Bool, true, false, cond, ◌&&◌}
use mathlib.Core.Logic.{◌⊎◌, inl, inr}
use Prim.Native.Nat.{ℕ, ◌<◌}
use Rattle.seq.proofs.Tests.{both_true}
use Rattle.seq.proofs.BelowLaws.{hit_any}
use Rattle.model.specs.State.{empty_holding, slot_at, holding_at}
use Rattle.model.specs.Words.{has_page, dirty_in}
use Rattle.model.specs.Changes.{written, dirtied, wrote_slot}
use Rattle.model.specs.declared.State.{State}
use Rattle.model.proofs.ContentLaws.{dirtied_page, dirtied_stays, dirtied_is}

-- from s to t the slot keeps the page and its dirty mark, and a write pin that had arrived stays or leaves the slot dirty
pub record Booked (k page : ℕ) (s t : State) (slot : ℕ) : Type 0 where
  pub has_it : has_page page (slot_at s slot).content ≡ true → has_page page (slot_at t slot).content ≡ true
  pub dirty : dirty_in (slot_at s slot).content ≡ true → dirty_in (slot_at t slot).content ≡ true
  pub wrote : has_page page (slot_at s slot).content ≡ true → (row : ℕ) → row < 32 → written k (holding_at s slot row) ≡ true
      → (written k (holding_at t slot row) ≡ true) ⊎ (dirty_in (slot_at t slot).content ≡ true)

pub booked_same : (k page : ℕ) (s t : State) (slot : ℕ) → slot_at t slot ≡ slot_at s slot → ((row : ℕ) → row < 32 → holding_at t slot row ≡ holding_at s slot row) → Booked k page s t slot
booked_same k page s t slot e f = record {
  has_it = λ h. rw e h;
  dirty = λ h. rw e h;
  wrote = λ h row b w. inl (rw (f row b) w);
}

pub booked_trans : {k page : ℕ} {s u t : State} {slot : ℕ} → Booked k page s u slot → Booked k page u t slot → Booked k page s t slot
booked_trans {k} {page} {s} {u} {t} {slot} a b = record {
  has_it = λ h. b.has_it (a.has_it h);
  dirty = λ h. b.dirty (a.dirty h);
  wrote = λ h row m w. go h row m (a.wrote h row m w);
}
  where
    go : has_page page (slot_at s slot).content ≡ true → (row : ℕ) → row < 32 → (written k (holding_at u slot row) ≡ true) ⊎ (dirty_in (slot_at u slot).content ≡ true)
        → (written k (holding_at t slot row) ≡ true) ⊎ (dirty_in (slot_at t slot).content ≡ true)
    go h row m (inl w) = b.wrote (a.has_it h) row m w
    go h row m (inr d) = inr (b.dirty d)

-- the holdings of some rows go
pub booked_dropped : (page : ℕ) (some : ℕ → Bool) (s t : State) (slot : ℕ) → slot_at t slot ≡ cond (wrote_slot some s slot) (dirtied (slot_at s slot)) (slot_at s slot)
    → ((row : ℕ) → row < 32 → holding_at t slot row ≡ cond (some row) empty_holding (holding_at s slot row)) → Booked s.clock page s t slot
booked_dropped page some s t slot e f = record {
  has_it = λ h. rw e (dirtied_page page (wrote_slot some s slot) (slot_at s slot) ∙ h);
  dirty = λ h. rw e (dirtied_stays (wrote_slot some s slot) (slot_at s slot) h);
  wrote = λ h row b w. go h row b w (some row) refl;
}
  where
    go : has_page page (slot_at s slot).content ≡ true → (row : ℕ) → row < 32 → written s.clock (holding_at s slot row) ≡ true → (gone : Bool) → some row ≡ gone
        → (written s.clock (holding_at t slot row) ≡ true) ⊎ (dirty_in (slot_at t slot).content ≡ true)
    go h row b w true q = inr (rw (e, hit_any (λ r. some r && written s.clock (holding_at s slot r)) 32 row b (both_true q w)) (dirtied_is page (slot_at s slot) h))
    go h row b w false q = inl (rw (f row b, q) w)
