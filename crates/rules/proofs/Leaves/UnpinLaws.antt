-- What an unpin leaves at each slot and holding, and on each page.
use mathlib.Core.Path.{◌≡◌, refl}
use mathlib.Core.Bool.{cond, ◌&&◌}
use Prim.Native.Nat.{ℕ, ◌<◌}
use lib.Dec.{eqb}
use Rattle.seq.specs.declared.Found.TheVariants.{At}
use Rattle.model.specs.declared.Holding.{Holding}
use Rattle.model.specs.declared.Pin.TheVariants.{Unpinned}
use Rattle.model.specs.declared.Slot.{Slot}
use Rattle.model.specs.declared.State.{State}
use Rattle.model.specs.State.{slot_at, holding_at}
use Rattle.model.specs.Words.{slot_of}
use Rattle.model.specs.Changes.{written, dirtied}
use Rattle.model.specs.Ranges.{Sized}
use Rattle.model.proofs.StateLaws.{slot_put, holding_put}
use Rattle.model.proofs.ContentLaws.{dirtied_page}
use Rattle.rules.specs.Calls.{unpinned_at}
use Rattle.rules.specs.Alike.{holding_on}
use Rattle.rules.proofs.Leaves.PageLaws.{put_on_lem, put_slot_of}

-- the holding and the slot that an unpin puts
abbrev pub unpinned_holding : Holding → Holding
unpinned_holding h = record { pin = Unpinned; arrival = h.arrival; touch = h.touch }

abbrev pub unpinned_slot : State → ℕ → ℕ → Slot
unpinned_slot s row slot = cond (written s.clock (holding_at s slot row)) (dirtied (slot_at s slot)) (slot_at s slot)

module _ (s : State) (z : Sized s) (row slot : ℕ) (r : row < 32) (b : slot < 64) where
  pub unpinned_holding_lem : (i q : ℕ) → q < 32 → holding_at (unpinned_at s row slot) i q ≡ cond (eqb i slot && eqb q row) (unpinned_holding (holding_at s slot row)) (holding_at s i q)
  unfolding unpinned_at
  unpinned_holding_lem i q h = holding_put s z slot row (unpinned_holding (holding_at s slot row)) i q b r h

  pub unpinned_slot_lem : (i : ℕ) → slot_at (unpinned_at s row slot) i ≡ cond (eqb i slot) (unpinned_slot s row slot) (slot_at s i)
  unfolding unpinned_at
  unpinned_slot_lem i = slot_put s z slot (unpinned_slot s row slot) i b

  pub unpinned_slot_of : (page : ℕ) → slot_of (unpinned_at s row slot) page ≡ slot_of s page
  unfolding unpinned_at
  unpinned_slot_of page =
      put_slot_of s (unpinned_at s row slot) slot (unpinned_slot s row slot) refl unpinned_slot_lem page (dirtied_page page (written s.clock (holding_at s slot row)) (slot_at s slot))

  pub unpinned_on : (page : ℕ) → slot_of s page ≡ At slot → (other q : ℕ) → q < 32
      → holding_on (unpinned_at s row slot) other q ≡ cond (eqb other page && eqb q row) (unpinned_holding (holding_at s slot row)) (holding_on s other q)
  unpinned_on page found = put_on_lem s (unpinned_at s row slot) row slot page (unpinned_holding (holding_at s slot row)) found unpinned_slot_of unpinned_holding_lem
