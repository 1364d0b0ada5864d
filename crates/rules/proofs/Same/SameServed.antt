-- A page that some row up to L holds, requested by a row up to L in two states alike for L.
use mathlib.Core.Path.{◌≡◌, ◌∙◌}
use mathlib.Core.Bool.{Bool, true, false, cond}
use Prim.Native.Nat.{ℕ, ◌+◌, ◌<◌, ◌≤◌}
use native.Mathlib.Omega.{arith}
use Rattle.seq.specs.declared.Found.TheVariants.{At}
use Rattle.std.specs.Prelude.{None}
use Rattle.model.specs.declared.Cause.TheVariants.{Taken}
use Rattle.model.specs.declared.Mode.{Mode}
use Rattle.model.specs.declared.State.{State}
use Rattle.model.specs.Parties.{level_of}
use Rattle.model.specs.State.{holding_at}
use Rattle.model.specs.Words.{is_held, seen, least_arrival, slot_of}
use Rattle.model.specs.Changes.{killed}
use Rattle.model.proofs.ChangeLaws.{sized_killed}
use Rattle.rules.specs.Calls.{conflicts, must_wait, waiting, granted, step1, step3, unseen_at, served_at, served}
use Rattle.rules.specs.SoundFacts.{Sound}
use Rattle.rules.specs.Alike.{holding_on, Alike, Same}
use Rattle.rules.proofs.Leaves.PageLaws.{found_slot, killed_slot_of, on_held}
use Rattle.rules.proofs.Same.SamePages.{no_hit, same_conflicts, same_seen, same_least, same_must_wait, same_holding}
use Rattle.rules.proofs.Same.SameChanges.{same_waiting, same_granted, same_killed}

module _ (L : ℕ) (s t : State) (y : Sound s) (z : Sound t) (alike : Alike L s t) (me page : ℕ) (mode : Mode) (h : me < 32) (l : level_of me ≤ L) where
  module _ (i j : ℕ) (at-s : slot_of s page ≡ At i) (at-t : slot_of t page ≡ At j) where
    same : (r : ℕ) → r < 32 → level_of r ≤ L → holding_at s i r ≡ holding_at t j r
    same = same_holding L s t alike page i j at-s at-t

    -- the other rows with a conflicting pin are killed, and the page is granted
    same_taken : (arrival arrival' : ℕ) → arrival ≡ arrival'
        → Same L (granted (killed (conflicts s me i mode) Taken s) me i mode arrival None) (granted (killed (conflicts t me j mode) Taken t) me j mode arrival' None)
    same_taken arrival arrival' e =
        rw e
        (same_granted L (killed (conflicts s me i mode) Taken s) (killed (conflicts t me j mode) Taken t)
        (sized_killed (conflicts s me i mode) s y.sized Taken) (sized_killed (conflicts t me j mode) t z.sized Taken)
        (same_killed L s t y.sized z.sized alike y.size_most z.size_most (conflicts s me i mode) (conflicts t me j mode) (same_conflicts L s t alike i j same me mode) Taken)
        me page i j h l (omega (arith, (found_slot s page i at-s).0, y.size_most)) (omega (arith, (found_slot t page j at-t).0, z.size_most))
        (killed_slot_of (conflicts s me i mode) s y.sized y.size_most Taken page ∙ at-s)
        (killed_slot_of (conflicts t me j mode) t z.sized z.size_most Taken page ∙ at-t)
        mode arrival' None None)

    same_step1 : Same L (step1 s me i page mode) (step1 t me j page mode)
    unfolding step1
    same_step1 = rw (same_must_wait L s t alike i j same me mode h l) (go (must_wait t me j mode))
      where
        go : (b : Bool)
            → Same L (cond b (waiting s me page mode) (granted (killed (conflicts s me i mode) Taken s) me i mode (least_arrival s (level_of me) i) None))
            (cond b (waiting t me page mode) (granted (killed (conflicts t me j mode) Taken t) me j mode (least_arrival t (level_of me) j) None))
        go true = same_waiting L s t y.sized z.sized alike me page mode h l
        go false = same_taken (least_arrival s (level_of me) i) (least_arrival t (level_of me) j) (same_least L s t alike i j same (level_of me) l)

    same_step3 : Same L (unseen_at (At i) s me page mode) (unseen_at (At j) t me page mode)
    unfolding step3
    same_step3 = same_taken (s.clock + s.delay) (t.clock + t.delay) (rw (alike.clock, alike.delay))

    same_served_at : L ≤ 2 → Same L (served_at (At i) s me page mode) (served_at (At j) t me page mode)
    same_served_at two =
        rw (same_seen L s t alike i j same (level_of me) l, no_hit s me i (omega arith), no_hit t me j (omega arith))
        (go (seen t (level_of me) j))
      where
        go : (b : Bool) → Same L (cond b (step1 s me i page mode) (unseen_at (At i) s me page mode)) (cond b (step1 t me j page mode) (unseen_at (At j) t me page mode))
        go true = same_step1
        go false = same_step3

  pub same_served : L ≤ 2 → (r : ℕ) → r < 32 → level_of r ≤ L → is_held (holding_on s page r).pin ≡ true → Same L (served s me page mode) (served t me page mode)
  unfolding served
  same_served two r k m e =
      let fs = on_held s page r e in
      let ft = on_held t page r (rw (alike.holding page r k m) at e) in
      rw (fs.1, ft.1) (same_served_at fs.0 ft.0 fs.1 ft.1 two)
