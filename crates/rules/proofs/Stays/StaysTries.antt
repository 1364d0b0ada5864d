-- The tries of a tick leave a sound state sound; and what a served request on a sound state tells the server fits.
use mathlib.Core.Path.{◌≡◌, refl}
use mathlib.Core.Bool.{Bool, true, false, cond}
use mathlib.Core.List.{List, []}
use Prim.Native.Nat.{ℕ, ◌+◌, ◌<◌, ◌≤◌}
use native.Mathlib.Omega.{arith}
use lib.Dec.{leb}
use Rattle.seq.specs.Order.{Each}
use Rattle.model.specs.declared.Answer.TheVariants.{Ready, Fetch}
use Rattle.std.specs.Prelude.{Option, None}
use Rattle.model.specs.declared.Cause.TheVariants.{Taken}
use Rattle.model.specs.declared.Condition.TheVariants.{Waiting}
use Rattle.model.specs.declared.Content.{Content}
use Rattle.model.specs.declared.Content.TheVariants.{Empty, Filled}
use Rattle.model.specs.declared.Mode.{Mode}
use Rattle.model.specs.declared.Outcome.{Outcome}
use Rattle.model.specs.declared.State.{State}
use Rattle.model.specs.Parties.{level_of}
use Rattle.model.specs.State.{row_at, slot_at, holding_at}
use Rattle.model.specs.Words.{pins}
use Rattle.model.proofs.PinLaws.{pin_held}
use Rattle.model.specs.Changes.{killed}
use Rattle.rules.specs.Answers.{page_back, slot_told, back_told}
use Rattle.rules.specs.Calls.{waiting, granted, pinners_killed, write_back, filled, served}
use Rattle.rules.specs.Sound.{sound}
use Rattle.rules.specs.Tries.{Tried, tried_as, try_row, tries, waiters, all_tried}
use Rattle.rules.specs.SoundFacts.{Sound, BordersSound}
use Rattle.rules.proofs.Facts.SoundFacts.{facts, borders_facts, held_taken}
use Rattle.rules.proofs.Facts.SoundBack.{back}
use Rattle.rules.proofs.Leaves.PageLaws.{found_below}
use Rattle.rules.proofs.Leaves.SettingLaws.{served_unset}
use Rattle.rules.proofs.Leaves.TryLaws.{by_try, and_then, by_tries, waiters_rows}
use Rattle.rules.proofs.Promises.Serving.{Serving, waits, waits_g, joins, fills, serving}
use Rattle.rules.proofs.Stays.StaysBegun.{row_begun_lem, begun_still}
use Rattle.rules.proofs.Stays.StaysChoice.{chosen_free}
use Rattle.rules.proofs.Stays.StaysDrop.{killed_sound}
use Rattle.rules.proofs.Stays.StaysServe.{served_sound}

-- a waiting row that is served leaves a sound state
stored_facts : (s : State) → Sound s → BordersSound s → (row : ℕ) → row < 32 → (page : ℕ) (mode : Mode) → (row_at s row).condition ≡ Waiting page mode
    → Sound (served s row page mode).state × BordersSound (served s row page mode).state
stored_facts s h y row b page mode e =
    let k = rw e at (h.row row b) in (
      served_sound s row page mode h (record { row_is = b; live = rw e; settled = k.0 }) k.1 k.2,
      begun_still s y (served s row page mode).state (served_unset s row page mode) (row_begun_lem s y row b (rw e)),
    )

pub tries_facts : (rows : List ℕ) (s : State) → Each (λ row. row < 32) rows → Sound s → BordersSound s → Sound (tries rows s).state × BordersSound (tries rows s).state
tries_facts = by_tries (λ rows s y. Each (λ row. row < 32) rows → Sound s → BordersSound s → Sound y.state × BordersSound y.state)
    (λ s b h z. (h, z))
    (λ row rows s y w more b. more b.1)
    (λ row rows s page mode y w more b h z. let x = stored_facts s h z row b.0 page mode w in more b.1 x.0 x.1)

pub tried_facts : (s : State) → Sound s → BordersSound s → Sound (all_tried s).state × BordersSound (all_tried s).state
unfolding all_tried
tried_facts s = tries_facts (waiters s) s (waiters_rows s)

-- what holds of no try and passes over each try on a sound state holds of the tries of a sound state
module _ (P : State → Tried → Type 0) (none : (s : State) → P s (record { state = s; fills = [] }))
    (serve : (s : State) (row page : ℕ) (mode : Mode) (y : Tried) → Sound s → row < 32 → (row_at s row).condition ≡ Waiting page mode → Sound (served s row page mode).state
    → P (served s row page mode).state y → P s (and_then (tried_as (served s row page mode) row page) y)) where
  pub by_sound_tries : (rows : List ℕ) (s : State) → Each (λ row. row < 32) rows → Sound s → BordersSound s → P s (tries rows s)
  by_sound_tries = by_tries (λ rows s y. Each (λ row. row < 32) rows → Sound s → BordersSound s → P s y)
      (λ s b h z. none s)
      (λ row rows s y w more b. more b.1)
      (λ row rows s page mode y w more b h z. let x = stored_facts s h z row b.0 page mode w in serve s row page mode y h b.0 w x.0 (more b.1 x.0 x.1))

  pub by_all_tried : (s : State) → Sound s → BordersSound s → P s (all_tried s)
  unfolding all_tried
  by_all_tried s = by_sound_tries (waiters s) s (waiters_rows s)

-- the same of the test
pub stored_sound : (s : State) → sound s ≡ true → (row : ℕ) → row < 32 → (page : ℕ) (mode : Mode) → (row_at s row).condition ≡ Waiting page mode → sound (served s row page mode).state ≡ true
stored_sound s z row b page mode e = let x = stored_facts s (facts s z) (borders_facts s z) row b page mode e in back (served s row page mode).state x.0 x.1

pub try_sound : (s : State) → sound s ≡ true → (row : ℕ) → row < 32 → sound (try_row (row_at s row).condition s row).state ≡ true
try_sound s z row b = by_try s row (row_at s row).condition (λ w e. rw e z) (λ page mode w e. rw e (stored_sound s z row b page mode w))

pub tries_sound : (rows : List ℕ) (s : State) → Each (λ row. row < 32) rows → sound s ≡ true → sound (tries rows s).state ≡ true
tries_sound rows s b z = let x = tries_facts rows s b (facts s z) (borders_facts s z) in back (tries rows s).state x.0 x.1

-- ---- what is told to the server

pub granted_told : (u : State) (row slot : ℕ) (mode : Mode) (arrival : ℕ) (back : Option ℕ)
    → (slot_told (granted u row slot mode arrival back).answer ≡ slot + 1) × (back_told (granted u row slot mode arrival back).answer ≡ page_back back)
unfolding granted slot_told back_told
granted_told u row slot mode arrival back = go (leb arrival u.clock)
  where
    go : (b : Bool) → (slot_told (cond b (Ready slot back) (Fetch arrival slot back)) ≡ slot + 1) × (back_told (cond b (Ready slot back) (Fetch arrival slot back)) ≡ page_back back)
    go true = (refl, refl)
    go false = (refl, refl)

back_most : (s : State) → Sound s → (slot : ℕ) → slot < 64 → page_back (write_back (slot_at s slot)) ≤ 4096
unfolding write_back
back_most s h slot b = go (slot_at s slot).content refl
  where
    go : (c : Content) → (slot_at s slot).content ≡ c → page_back (write_back (slot_at s slot)) ≤ 4096
    go Empty e = rw e (omega arith)
    go (Filled page arrival true lowest) e = let p : page ≤ 4095 = rw e at ((h.slot slot b).page (rw e)) in rw e (omega arith)
    go (Filled page arrival false lowest) e = rw e (omega arith)

-- a slot that is told is below 64, and a page to write back is a page
pub served_told : (s : State) → Sound s → (row page : ℕ) (mode : Mode) → row < 32 → (slot_told (served s row page mode).answer ≤ 64) × (back_told (served s row page mode).answer ≤ 4096)
unfolding waiting slot_told back_told pinners_killed
served_told s h row page mode b = go (served s row page mode) (serving s row page mode)
  where
    go : (o : Outcome) → Serving s row page mode o → (slot_told o.answer ≤ 64) × (back_told o.answer ≤ 4096)
    go o (waits slot e v w k) = rw k (omega arith, omega arith)
    go o (waits_g e n k) = rw k (omega arith, omega arith)
    go o (joins slot arrival some e n k) =
        let t = granted_told (killed some Taken s) row slot mode arrival None in
        let x = found_below s h page slot e in
        rw k (omega (arith, t.0), omega (arith, t.1))
    go o (fills slot e n k) =
        let x = (chosen_free s row b h slot n).0 in
        let w : slot < 64 = omega (arith, h.size_most) in
        let m = back_most (killed (pins s slot) Taken s) (killed_sound (pins s slot) Taken s h (λ r g v. held_taken s h slot r w g (pin_held (holding_at s slot r).pin v))) slot w in
        let t = granted_told (filled (pinners_killed s slot) slot page (level_of row)) row slot mode (s.clock + s.delay) (write_back (slot_at (pinners_killed s slot) slot)) in
        rw k (omega (arith, t.0), omega (arith, t.1))
