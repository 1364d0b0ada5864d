-- What is told to be ready or idle has arrived.
use mathlib.Core.Path.{◌≡◌, refl, ap}
use mathlib.Core.Bool.{true}
use mathlib.Core.Logic.{inl, inr}
use Prim.Native.Nat.{ℕ, zero, suc, ◌+◌, ◌<◌, ◌≤◌}
use native.Mathlib.Omega.{arith}
use Rattle.seq.proofs.Tests.{true_false}
use Rattle.model.specs.declared.Answer.TheVariants.{Ready, Clock}
use Rattle.std.specs.Prelude.{Option}
use Rattle.model.specs.declared.Cause.TheVariants.{Taken}
use Rattle.model.specs.declared.Condition.TheVariants.{Idle, Fetching}
use Rattle.model.specs.declared.Mode.{Mode}
use Rattle.model.specs.declared.Pin.{Pin}
use Rattle.model.specs.declared.Pin.TheVariants.{Absent, Unpinned, Read, Write}
use Rattle.model.specs.declared.Row.{Row}
use Rattle.model.specs.declared.State.{State}
use Rattle.model.specs.State.{row_at, holding_at}
use Rattle.model.specs.Words.{is_held, pin_of, strength}
use Rattle.model.specs.Changes.{killed_row}
use Rattle.model.specs.Ranges.{Sized}
use Rattle.rules.specs.Sound.{sound}
use Rattle.rules.specs.Refusals.{tick_refusal}
use Rattle.rules.specs.Calls.{unless, three_steps}
use Rattle.rules.specs.Tries.{all_tried, ticked}
use Rattle.model.specs.declared.Call.{Call}
use Rattle.model.specs.declared.Call.TheVariants.{Tick}
use Rattle.rules.specs.Run.{outcome}
use Rattle.rules.specs.Requests.{Asks}
use Rattle.rules.specs.Arrivals.{AllArrived, PinnedAndArrived}
use Rattle.rules.specs.SoundFacts.{Sound}
use Rattle.rules.proofs.Facts.SoundFacts.{facts}
use Rattle.rules.proofs.Leaves.RefusalFacts.{tick_taken}
use Rattle.rules.proofs.Leaves.TickLaws.{ticked_clock, ticked_idle, unwaiting}
use Rattle.rules.proofs.Leaves.TryLaws.{tried_fixed}
use Rattle.rules.proofs.Stays.StaysSound.{steps_sound, stays_sound}
use Rattle.rules.proofs.Promises.ServedRows.{SameOrTaken}
use Rattle.rules.proofs.Promises.TriedRows.{tried_others}
use Rattle.rules.proofs.Promises.CallCases.{is_served}
use Rattle.rules.proofs.Promises.Granting.{grant_ready}
use Rattle.rules.proofs.Promises.WaitFetch.{granted_alone}

pub idle_arrived : (s : State) → Sound s → (row : ℕ) → row < 32 → (row_at s row).condition ≡ Idle → AllArrived s row
idle_arrived s z row b e slot i h =
    let a = (rw e at (z.row row b)).arrived slot i h in
    (a, omega (arith, (z.held slot row i b h).after))

strength_held : (mode : Mode) (p : Pin) → strength (pin_of mode) ≤ strength p → is_held p ≡ true
strength_held Mode.Read Absent h = absurd (omega arith)
strength_held Mode.Write Absent h = absurd (omega arith)
strength_held mode Unpinned h = refl
strength_held mode Read h = refl
strength_held mode Write h = refl

-- ready comes only to a request; then the row pins the page asked for, which has arrived, and so has every holding of the row
pub ready_arrived : (s : State) → sound s ≡ true → (c : Call) (slot : ℕ) (back : Option ℕ) → (outcome s c).answer ≡ Ready slot back
    → (row : ℕ) × (page : ℕ) × (mode : Mode) × Asks c row page mode × PinnedAndArrived (outcome s c).state row page mode slot × AllArrived (outcome s c).state row
ready_arrived s z c slot back w =
    let x = granted_alone s z c (ap is_served w) (λ e. let n : ◌≡◌ {A = ℕ} 0 1 = cc in omega arith) in
    let row = x.0 in
    let page = x.1 in
    let mode = x.2 in
    let y = grant_ready s row page mode x.4 (outcome s c) x.5 slot back w in
    let t = facts (outcome s c).state (stays_sound s c z) in
    let all = idle_arrived (outcome s c).state t row x.4 y.1 in
    let h = strength_held mode (holding_at (outcome s c).state slot row).pin y.3 in
    let a = all slot y.0 h in (
      row,
      page,
      mode,
      x.3,
      record { slot_is = y.0; has_it = y.2; pinned = y.3; holding_arrived = a.0; slot_arrived = a.1 },
      all,
    )

-- a row that was fetching and is idle after a tick has reached its due tick, and every holding of it has arrived
pub tick_arrived : (s : State) → sound s ≡ true → (room row due : ℕ) → row < 32 → (row_at s row).condition ≡ Fetching due → (row_at (outcome s (Tick room)).state row).condition ≡ Idle
    → (due ≤ (outcome s (Tick room)).state.clock) × AllArrived (outcome s (Tick room)).state row
unfolding outcome ticked
tick_arrived s z room row due b f e =
    (go (tick_refusal s room) refl e, idle_arrived (outcome s (Tick room)).state (facts (outcome s (Tick room)).state (stays_sound s (Tick room) z)) row b e)
  where
    n : Sized s
    n = (facts s z).sized

    u : State
    u = three_steps s

    -- it was idle before the tries
    stepped : (x y : Row) → SameOrTaken x y → y.condition ≡ Idle → x.condition ≡ Idle
    stepped x y (inl k) q = rw k at q
    stepped x y (inr k) q = true_false (let w : (killed_row Taken).condition ≡ Idle = rw k at q in cc)

    go : (k : ℕ) → tick_refusal s room ≡ k → (row_at (unless k s (record { state = (all_tried u).state; answer = Clock (s.clock + 1) })).state row).condition ≡ Idle
        → due ≤ (unless k s (record { state = (all_tried u).state; answer = Clock (s.clock + 1) })).state.clock
    go zero t k =
        let y = steps_sound s z (tick_taken s room t).early in
        rw ((tried_fixed u).clock, ticked_clock s n)
        (ticked_idle s n row due b f (stepped (row_at u row) (row_at (all_tried u).state row) (tried_others u y row b (unwaiting s n row due b f)) k))
    go (suc j) t k = true_false (cc)
