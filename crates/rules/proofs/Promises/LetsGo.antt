-- What a call lets go of: a row that is killed or free holds nothing; a holding goes only so, or with its slot; what was written is dirty or reported.
use mathlib.Core.Path.{◌≡◌, refl, sym, ◌∙◌}
use mathlib.Core.Bool.{true, false, ◌&&◌}
use mathlib.Core.Logic.{◌⊎◌, inl, inr}
use Prim.Native.Nat.{ℕ, ◌<◌, ◌≤◌}
use native.Mathlib.Omega.{arith}
use borrow.Author.Tests.{le-leb}
use lib.Dec.{leb}
use Rattle.seq.proofs.Tests.{true_false, and_true, and_left, both_true, not_true_false}
use Rattle.model.specs.declared.Content.{Content}
use Rattle.model.specs.declared.Content.TheVariants.{Empty, Filled}
use Rattle.model.specs.declared.Outcome.{Outcome}
use Rattle.model.specs.declared.State.{State}
use Rattle.model.specs.State.{empty_holding, row_at, slot_at, holding_at}
use Rattle.model.specs.Words.{is_live, is_filled, page_in, dirty_in, has_page, is_write, holds}
use Rattle.model.specs.Changes.{written}
use Rattle.model.proofs.ContentLaws.{has_page_lem}
use Rattle.model.proofs.PinLaws.{write_held}
use Rattle.model.proofs.BookLaws.{Booked}
use Rattle.rules.specs.Sound.{sound}
use Rattle.rules.specs.Answers.{is_started}
use Rattle.model.specs.declared.Call.{Call}
use Rattle.rules.specs.Run.{outcome, fills_of}
use Rattle.rules.specs.Slots.{holds_page, Refilled, Dirty, Reported}
use Rattle.rules.proofs.Facts.SoundFacts.{facts, borders_facts}
use Rattle.rules.proofs.Leaves.CallEffects.{effect}
use Rattle.rules.proofs.Stays.StaysSound.{stays_sound}
use Rattle.rules.proofs.Promises.Drops.{drop}
use Rattle.rules.proofs.Promises.Booking.{Writes, stay, reported, Reports, writes}

-- ---- rows

-- after any call a row that is free or killed has no holding
pub not_live_unheld : (s : State) → sound s ≡ true → (c : Call) (row slot : ℕ) → row < 32 → slot < 64
    → is_live (row_at (outcome s c).state row).condition ≡ false → holding_at (outcome s c).state slot row ≡ empty_holding
not_live_unheld s z c row slot r b d =
    let t = facts (outcome s c).state (stays_sound s c z) in
    t.unheld slot row b r (not_true_false (holds (outcome s c).state slot row) (λ h. true_false (sym (t.held slot row b r h).live ∙ d)))

-- a row that was live and is ended or killed, by whatever call of whatever row, has let go of every page that it held
pub lets_go : (s : State) → sound s ≡ true → (c : Call) (row slot : ℕ) → row < 32 → slot < 64
    → is_live (row_at s row).condition ≡ true → is_live (row_at (outcome s c).state row).condition ≡ false → holds s slot row ≡ true → holds (outcome s c).state slot row ≡ false
lets_go s z c row slot r b l d h = rw (not_live_unheld s z c row slot r b d)

-- ---- holdings

-- a row no longer holds a page only where it is no longer live, or where it had no pin and a request that is served in the course of the call chose the slot for another page
pub drops_only : (s : State) → sound s ≡ true → (c : Call) (slot row page : ℕ) → slot < 64 → row < 32 → holds_page s slot row page ≡ true → holds_page (outcome s c).state slot row page ≡ false
    → (is_live (row_at (outcome s c).state row).condition ≡ false) ⊎ Refilled s c (outcome s c).state slot row
drops_only s z c slot row page b r h =
    let x = and_true (holds s slot row) (has_page page (slot_at s slot).content) h in
    drop s z slot row page b r x.0 x.1 c (outcome s c) refl (effect s c)

-- ---- writes

pub dirty_filled : (c : Content) → dirty_in c ≡ true → is_filled c ≡ true
dirty_filled Empty e = e
dirty_filled (Filled page arrival dirty lowest) e = refl

-- for every call but an accepted start
module _ (s : State) (z : sound s ≡ true) (c : Call) (again : is_started (outcome s c).answer ≡ false) (slot : ℕ) (b : slot < 64) where
  -- a dirty page stays dirty in its slot, or is reported for write-back from it
  pub dirty_not_lost : dirty_in (slot_at s slot).content ≡ true
      → Dirty (outcome s c).state slot (page_in (slot_at s slot).content) ⊎ Reported s c slot (page_in (slot_at s slot).content)
  unfolding fills_of
  dirty_not_lost d = go (outcome s c) (writes s (facts s z) (borders_facts s z) page slot b c (outcome s c) again (effect s c))
    where
      page : ℕ
      page = page_in (slot_at s slot).content

      has : has_page page (slot_at s slot).content ≡ true
      has = has_page_lem page (slot_at s slot).content (dirty_filled (slot_at s slot).content d) refl

      go : (o : Outcome) → Writes s o.state page slot (Reports s o slot page) → Dirty o.state slot page ⊎ Reports s o slot page
      go o (stay k e x) = inl (record { has_it = x.has_it has; dirty = x.dirty d })
      go o (reported k e u x n f) = inr (f (x.has_it has) (x.dirty d))

  -- when a write pin goes and its arrival ≤ clock, the slot becomes dirty, or the page is reported for write-back from it
  pub write_not_lost : (row : ℕ) → row < 32 → is_write (holding_at s slot row).pin ≡ true → (holding_at s slot row).arrival ≤ (outcome s c).state.clock
      → is_write (holding_at (outcome s c).state slot row).pin ≡ false
      → Dirty (outcome s c).state slot (page_in (slot_at s slot).content) ⊎ Reported s c slot (page_in (slot_at s slot).content)
  unfolding written fills_of
  write_not_lost row r w = go (outcome s c) (writes s (facts s z) (borders_facts s z) page slot b c (outcome s c) again (effect s c))
    where
      page : ℕ
      page = page_in (slot_at s slot).content

      has : has_page page (slot_at s slot).content ≡ true
      has = has_page_lem page (slot_at s slot).content ((facts s z).held slot row b r (write_held (holding_at s slot row).pin w)).filled refl

      -- the write pin is left, or the slot is dirty
      either : {P : Type 0} (k : ℕ) (u : State) → Booked k page s u slot → (holding_at s slot row).arrival ≤ k → is_write (holding_at u slot row).pin ≡ false
          → (has_page page (slot_at u slot).content ≡ true → dirty_in (slot_at u slot).content ≡ true → P) → P
      either {P} k u x a n f = last (x.wrote has row r (both_true w (le-leb (holding_at s slot row).arrival k a)))
        where
          last : (is_write (holding_at u slot row).pin && leb (holding_at u slot row).arrival k ≡ true) ⊎ (dirty_in (slot_at u slot).content ≡ true) → P
          last (inl v) = true_false (sym (and_left (is_write (holding_at u slot row).pin) (leb (holding_at u slot row).arrival k) v) ∙ n)
          last (inr d) = f (x.has_it has) d

      go : (o : Outcome) → Writes s o.state page slot (Reports s o slot page) → (holding_at s slot row).arrival ≤ o.state.clock → is_write (holding_at o.state slot row).pin ≡ false
          → Dirty o.state slot page ⊎ Reports s o slot page
      go o (stay k e x) a n = either k o.state x (omega arith) n (λ h d. inl (record { has_it = h; dirty = d }))
      go o (reported k e u x m f) a n = either k u x (omega arith) (m row r) (λ h d. inr (f h d))
