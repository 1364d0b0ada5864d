-- What an answer wait or fetch says: wait comes by steps 1 and g, for the reasons of T-05; a fetch is due after the clock, and its row is fetching until then.
use mathlib.Core.Path.{◌≡◌, sym, ◌∙◌, ap}
use mathlib.Core.Bool.{true}
use mathlib.Core.List.{List, [], ◌∷◌}
use mathlib.Core.Logic.{inl, inr}
use Prim.Native.Nat.{ℕ, ◌<◌}
use native.Mathlib.Omega.{arith}
use Rattle.seq.proofs.Tests.{true_false}
use Rattle.seq.specs.Order.{Each}
use Rattle.model.specs.declared.Answer.TheVariants.{Fetch, Wait}
use Rattle.std.specs.Prelude.{Option}
use Rattle.model.specs.declared.Condition.TheVariants.{Fetching}
use Rattle.model.specs.declared.Mode.{Mode}
use Rattle.model.specs.declared.Outcome.{Outcome}
use Rattle.model.specs.declared.State.{State}
use Rattle.model.specs.State.{row_at}
use Rattle.rules.specs.Sound.{sound}
use Rattle.rules.specs.Calls.{three_steps, served}
use Rattle.model.specs.declared.Call.{Call}
use Rattle.rules.specs.Run.{outcome}
use Rattle.rules.specs.Requests.{Asks, TriedOn, Serves, own, stored}
use Rattle.rules.specs.Tries.{try_row, waiters}
use Rattle.rules.specs.Waits.{WaitReason}
use Rattle.rules.proofs.Facts.SoundFacts.{facts}
use Rattle.rules.proofs.Leaves.CallEffects.{Effect, unchanged, starts, begins, unpins, ends, ticks, sets, serves, effect}
use Rattle.rules.proofs.Leaves.RefusalFacts.{tick_taken}
use Rattle.rules.proofs.Leaves.TryLaws.{waiters_rows}
use Rattle.rules.proofs.Stays.StaysSound.{steps_sound}
use Rattle.rules.proofs.Stays.StaysTries.{try_sound}
use Rattle.rules.proofs.Promises.Serving.{serving}
use Rattle.rules.proofs.Promises.CallCases.{is_served, still_unserved}
use Rattle.rules.proofs.Promises.Granting.{Grant, grant, grant_fetch}
use Rattle.rules.proofs.Promises.Reasons.{waits_by, reason_waits}

-- ---- the calls that are served

-- no call but a request answers ready, fetch or wait
pub served_alone : (s : State) → sound s ≡ true → (c : Call) → is_served (outcome s c).answer ≡ true
    → (row : ℕ) × (page : ℕ) × (mode : Mode) × Asks c row page mode × (row < 32) × (outcome s c ≡ served s row page mode)
served_alone s z c = go (outcome s c) (effect s c)
  where
    go : (o : Outcome) → Effect s c o → is_served o.answer ≡ true → (row : ℕ) × (page : ℕ) × (mode : Mode) × Asks c row page mode × (row < 32) × (o ≡ served s row page mode)
    go o (unchanged a h e) k = true_false (sym (rw e at k) ∙ still_unserved s c a h)
    go o (starts slots delay q t e) k = true_false (sym (rw e at k))
    go o (begins level number deadline q t e) k = true_false (sym (rw e at k))
    go o (unpins level number page slot q t f p e) k = true_false (sym (rw e at k))
    go o (ends level number q n e) k = true_false (sym (rw e at k))
    go o (ticks room q w h e) k = true_false (sym (rw e at k))
    go o (sets b q t e) k = true_false (sym (rw e at k))
    go o (serves row page mode h a m e) k = (row, page, mode, a, h, e)

-- one that is not told to wait is granted
pub granted_alone : (s : State) → sound s ≡ true → (c : Call) → is_served (outcome s c).answer ≡ true → ((outcome s c).answer ≡ Wait → ⊥)
    → (row : ℕ) × (page : ℕ) × (mode : Mode) × Asks c row page mode × (row < 32) × Grant s row page mode (outcome s c)
granted_alone s z c e n =
    let x = served_alone s z c e in
    (x.0, x.1, x.2, x.3, x.4, grant s (facts s z) x.0 x.1 x.2 x.4 (outcome s c) (rw (← x.5) at (serving s x.0 x.1 x.2)) n)

-- ---- wait

-- wait as the answer of a call
pub wait_only : (s : State) → sound s ≡ true → (c : Call) → (outcome s c).answer ≡ Wait
    → (row : ℕ) × (page : ℕ) × (mode : Mode) × Asks c row page mode × WaitReason s row page mode
wait_only s z c w =
    let x = served_alone s z c (ap is_served w) in
    (x.0, x.1, x.2, x.3, waits_by s (facts s z) x.0 x.1 x.2 (outcome s c) (rw (← x.5) at (serving s x.0 x.1 x.2)) w)

tried_sound : (rows : List ℕ) (s u : State) (row : ℕ) → Each (λ r. r < 32) rows → sound s ≡ true → TriedOn rows s u row → (sound u ≡ true) × (row < 32)
tried_sound [] s u row b z h = absurd h
tried_sound (r ∷ rows) s u row b z (inl h) = (rw h.0 z, rw h.1 b.0)
tried_sound (r ∷ rows) s u row b z (inr h) = tried_sound rows (try_row (row_at s r).condition s r).state u row b.1 (try_sound s z r b.0) h

-- each request that is served in the course of a call is served on a sound state
pub course_sound : (s : State) → sound s ≡ true → (c : Call) (u : State) (row page : ℕ) (mode : Mode) → Serves s c u row page mode → (sound u ≡ true) × (row < 32)
course_sound s z c u row page mode (own e a o) = (rw e z, omega (arith, a.row_is, a.level_most, a.number_most))
course_sound s z c u row page mode (stored room k t h w) = tried_sound (waiters (three_steps s)) (three_steps s) u row (waiters_rows (three_steps s)) (steps_sound s z (tick_taken s room t).early) h

-- and waits there exactly for these reasons
pub course_waits : (s : State) → sound s ≡ true → (c : Call) (u : State) (row page : ℕ) (mode : Mode) → Serves s c u row page mode
    → (sound u ≡ true) × ((served u row page mode).answer ≡ Wait → WaitReason u row page mode) × (WaitReason u row page mode → (served u row page mode).answer ≡ Wait)
course_waits s z c u row page mode h =
    let y = course_sound s z c u row page mode h in
    (y.0, waits_by u (facts u y.0) row page mode (served u row page mode) (serving u row page mode), reason_waits u (facts u y.0) row page mode y.1)

-- ---- fetch

-- a fetch is due after the clock, and the row is fetching until then
pub fetch_due : (s : State) → sound s ≡ true → (c : Call) (due slot : ℕ) (back : Option ℕ) → (outcome s c).answer ≡ Fetch due slot back
    → (row : ℕ) × (page : ℕ) × (mode : Mode) × Asks c row page mode × (s.clock < due) × ((row_at (outcome s c).state row).condition ≡ Fetching due)
fetch_due s z c due slot back w =
    let x = granted_alone s z c (ap is_served w) (λ e. let n : ◌≡◌ {A = ℕ} 0 1 = cc in omega arith) in
    let y = grant_fetch s x.0 x.1 x.2 x.4 (outcome s c) x.5 due slot back w in
    (x.0, x.1, x.2, x.3, y.0, y.1)
