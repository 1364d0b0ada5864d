-- What a call makes of the borders and of the mark that a row has begun: a start makes them anew, a begin sets the mark, borders are set before that, and every other call leaves both.
use mathlib.Core.Path.{◌≡◌, refl, sym, ◌∙◌}
use mathlib.Core.Bool.{true, false}
use Prim.Native.Nat.{ℕ}
use Rattle.seq.proofs.Tests.{true_false}
use Rattle.model.specs.declared.Call.{Call}
use Rattle.model.specs.declared.Mode.{Mode}
use Rattle.model.specs.declared.Outcome.{Outcome}
use Rattle.model.specs.declared.State.{State}
use Rattle.model.specs.Changes.{released, killed}
use Rattle.rules.specs.Answers.{word, is_started}
use Rattle.rules.specs.Calls.{unpinned_at, advanced, delivered_rows, late_killed, three_steps, served}
use Rattle.rules.specs.Run.{outcome}
use Rattle.rules.specs.Secrecy.{is_kept}
use Rattle.rules.specs.Tries.{all_tried}
use Rattle.rules.proofs.Leaves.CallEffects.{Effect, unchanged, starts, begins, unpins, ends, ticks, sets, serves, effect}
use Rattle.rules.proofs.Leaves.ServeCases.{served_fixed}
use Rattle.rules.proofs.Leaves.TryLaws.{tried_fixed}

-- the borders and the mark stay
abbrev pub Unset : State → State → Type 0
Unset s t = (t.borders ≡ s.borders) × (t.begun ≡ s.begun)

pub served_unset : (s : State) (row page : ℕ) (mode : Mode) → Unset s (served s row page mode).state
served_unset s row page mode = let x = served_fixed s row page mode in (x.borders, x.begun)

-- a tick leaves both
pub ticked_unset : (s : State) → Unset s (all_tried (three_steps s)).state
unfolding all_tried late_killed delivered_rows advanced killed released
ticked_unset s = let x = tried_fixed (three_steps s) in (x.borders, x.begun)

-- once a row has begun, both stay until a start
pub frozen : (s : State) (c : Call) → s.begun ≡ true → is_started (outcome s c).answer ≡ false → Unset s (outcome s c).state
unfolding word unpinned_at released late_killed delivered_rows advanced killed
frozen s c b r = go (outcome s c) r (effect s c)
  where
    go : (o : Outcome) → is_started o.answer ≡ false → Effect s c o → Unset s o.state
    go o n (unchanged a q e) = rw e (refl, refl)
    go o n (starts slots delay q t e) = true_false (rw e at n)
    go o n (begins level number deadline q t e) = rw e (refl, sym b)
    go o n (unpins level number page slot q t f p e) = rw e (refl, refl)
    go o n (ends level number q m e) = rw e (refl, refl)
    go o n (ticks room q w h e) = rw e (ticked_unset s)
    go o n (sets x q t e) = true_false (sym b ∙ t.unbegun)
    go o n (serves row page mode h a m e) = rw e (served_unset s row page mode)

-- a kept call sets no borders
pub kept_borders : (L : ℕ) (s : State) (c : Call) → is_kept L c ≡ true → (outcome s c).state.borders ≡ s.borders
unfolding is_kept unpinned_at released late_killed delivered_rows advanced killed
kept_borders L s c k = go (outcome s c) (effect s c)
  where
    go : (o : Outcome) → Effect s c o → o.state.borders ≡ s.borders
    go o (unchanged a q e) = rw e
    go o (starts slots delay q t e) = true_false (sym (rw q at k))
    go o (begins level number deadline q t e) = rw e
    go o (unpins level number page slot q t f p e) = rw e
    go o (ends level number q m e) = rw e
    go o (ticks room q w h e) = rw e (ticked_unset s).0
    go o (sets x q t e) = true_false (sym (rw q at k))
    go o (serves row page mode h a m e) = rw e (served_unset s row page mode).0
