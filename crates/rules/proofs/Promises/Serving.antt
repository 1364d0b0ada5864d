-- A served request waits, joins the slot that has the page, or fills a chosen slot: the steps without their order.
use mathlib.Core.Path.{◌≡◌, refl, sym, ◌∙◌, ap}
use mathlib.Core.Bool.{Bool, true, false, cond, ◌&&◌}
use Prim.Native.Nat.{ℕ, ◌+◌}
use Rattle.seq.specs.declared.Found.TheVariants.{At, Nowhere}
use Rattle.seq.proofs.BelowLaws.{none_any}
use Rattle.seq.proofs.EachLaws.{each_still}
use Rattle.std.specs.Prelude.{None}
use Rattle.model.specs.declared.Cause.TheVariants.{Taken}
use Rattle.model.specs.declared.Mode.{Mode}
use Rattle.model.specs.declared.Outcome.{Outcome}
use Rattle.model.specs.declared.State.{State}
use Rattle.model.specs.Parties.{level_of}
use Rattle.model.specs.State.{free_row, empty_slot, empty_holding, slot_at, holding_at, with_rows, with_slots, with_holdings}
use Rattle.model.specs.Words.{arrival_in, seen, least_arrival, slot_of}
use Rattle.model.specs.Changes.{written, dirtied, released, killed, wrote_slot}
use Rattle.rules.specs.Choice.{chosen}
use Rattle.rules.specs.Calls.{waiting, granted, conflicts, must_wait, step2, step3, pinners_killed, write_back, filled, served}
use Rattle.rules.proofs.Leaves.GrantLaws.{own_spared}
use Rattle.rules.proofs.Leaves.ServeCases.{Step, wait_1, grant_1, grant_2, grant_3, wait_g, fill, step}

-- a kill of no row
killed_none : (s : State) → killed (λ _. false) Taken s ≡ s
unfolding killed released
killed_none s = λ j.
    with_rows
    (with_holdings (with_slots s (each_still (λ i x. cond (wrote_slot (λ _. false) s i) (dirtied x) x) s.slots empty_slot (λ i h. rw (none_any (λ row. false && written s.clock (holding_at s i row)) 32 (λ q b. refl))) j))
    (each_still (λ k h. h) s.holdings empty_holding (λ i h. refl) j))
    (each_still (λ row x. x) s.rows free_row (λ i h. refl) j)

pub data Serving (s : State) (row page : ℕ) (mode : Mode) (o : Outcome) : Type 0 where
  waits : (slot : ℕ) → slot_of s page ≡ At slot → seen s (level_of row) slot ≡ true → must_wait s row slot mode ≡ true → o ≡ waiting s row page mode → Serving s row page mode o
  waits_g : slot_of s page ≡ Nowhere → chosen s row ≡ Nowhere → o ≡ waiting s row page mode → Serving s row page mode o
  joins : (slot arrival : ℕ) (some : ℕ → Bool) → slot_of s page ≡ At slot → some row ≡ false → o ≡ granted (killed some Taken s) row slot mode arrival None → Serving s row page mode o
  fills : (slot : ℕ) → slot_of s page ≡ Nowhere → chosen s row ≡ At slot
      → o ≡ granted (filled (pinners_killed s slot) slot page (level_of row)) row slot mode (s.clock + s.delay) (write_back (slot_at (pinners_killed s slot) slot)) → Serving s row page mode o

pub serving : (s : State) (row page : ℕ) (mode : Mode) → Serving s row page mode (served s row page mode)
unfolding step2 step3
serving s row page mode = go (served s row page mode) (step s row page mode)
  where
    go : (o : Outcome) → Step s row page mode o → Serving s row page mode o
    go o (wait_1 slot e v w q) = waits slot e v w q
    go o (grant_1 slot e v w q) = joins slot (least_arrival s (level_of row) slot) (conflicts s row slot mode) e (own_spared s row slot mode) q
    go o (grant_2 slot e d q) =
        joins slot (arrival_in (slot_at s slot).content) (λ _. false) e refl
        (q ∙ ap (λ (u : State). granted u row slot mode (arrival_in (slot_at s slot).content) None) (sym (killed_none s)))
    go o (grant_3 slot e v q) = joins slot (s.clock + s.delay) (conflicts s row slot mode) e (own_spared s row slot mode) q
    go o (wait_g e c q) = waits_g e c q
    go o (fill slot e c q) = fills slot e c q
