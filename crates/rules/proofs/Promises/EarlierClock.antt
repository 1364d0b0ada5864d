-- Document 02, T-07: a call made before an earlier last tick of the clock does what it does now, and leaves the clock at that tick or before it.
use mathlib.Core.Path.{◌≡◌, refl}
use mathlib.Core.Bool.{true}
use Prim.Native.Nat.{ℕ, ◌≤◌}
use native.Mathlib.Omega.{arith}
use borrow.Author.Tests.{lt-leb}
use Rattle.model.specs.declared.Call.{Call}
use Rattle.model.specs.declared.Call.TheVariants.{Start, Begin, Request, Unpin, End, Tick, Look, View, Count, Borders}
use Rattle.model.specs.declared.Outcome.{Outcome}
use Rattle.model.specs.declared.State.{State}
use Rattle.model.specs.Parties.{last_clock}
use Rattle.model.specs.State.{fresh}
use Rattle.model.specs.Changes.{released}
use Rattle.rules.specs.Calls.{unpinned_at, three_steps}
use Rattle.rules.specs.EarlierClock.{tick_refusal_until, ticked_until, outcome_until, MadeBefore}
use Rattle.rules.specs.Refusals.{tick_refusal}
use Rattle.rules.specs.Run.{outcome}
use Rattle.rules.specs.Sound.{sound}
use Rattle.rules.specs.Tries.{ticked}
use Rattle.rules.proofs.Facts.SoundFacts.{facts}
use Rattle.rules.proofs.Leaves.CallEffects.{Effect, unchanged, starts, begins, unpins, ends, ticks, sets, serves, effect}
use Rattle.rules.proofs.Leaves.ServeCases.{served_fixed}
use Rattle.rules.proofs.Leaves.TickLaws.{ticked_clock}
use Rattle.rules.proofs.Leaves.TryLaws.{tried_fixed}

-- every call but a tick, and a tick before that last tick
pub same_until : (last : ℕ) → last ≤ last_clock → (s : State) (c : Call) → MadeBefore last s c → outcome_until last s c ≡ outcome s c
unfolding outcome_until ticked_until tick_refusal_until outcome ticked tick_refusal
same_until last h s (Start slots delay) early = refl
same_until last h s (Begin level number deadline) early = refl
same_until last h s (Request level number page mode) early = refl
same_until last h s (Unpin level number page) early = refl
same_until last h s (End level number) early = refl
same_until last h s (Tick room) early = rw (lt-leb last s.clock (omega (arith, early refl)), lt-leb last_clock s.clock (omega (arith, early refl)))
same_until last h s (Look level number) early = refl
same_until last h s (View level page) early = refl
same_until last h s (Count level) early = refl
same_until last h s (Borders first second third) early = refl

-- the clock that a call leaves: a tick adds one, a start begins at 0, any other call leaves it
pub clock_below : (last : ℕ) (s : State) (c : Call) → sound s ≡ true → s.clock ≤ last → MadeBefore last s c → (outcome s c).state.clock ≤ last
unfolding fresh unpinned_at released
clock_below last s c z h early = go (outcome s c) (effect s c)
  where
    go : (o : Outcome) → Effect s c o → o.state.clock ≤ last
    go o (unchanged a q e) = rw e h
    go o (starts slots delay q t e) = rw e (omega arith)
    go o (begins level number deadline q t e) = rw e h
    go o (unpins level number page slot q t f p e) = rw e h
    go o (ends level number q m e) = rw e h
    go o (ticks room q w x e) = rw (e, (tried_fixed (three_steps s)).clock, ticked_clock s (facts s z).sized) (omega (arith, early (rw q)))
    go o (sets b q t e) = rw e h
    go o (serves row page mode b a m e) = rw (e, (served_fixed s row page mode).clock) h
