-- Every call leaves a sound state sound, and so does every list of calls.
use mathlib.Core.Path.{◌≡◌}
use mathlib.Core.Bool.{true}
use mathlib.Core.List.{List, [], ◌∷◌}
use Prim.Native.Nat.{◌<◌}
use Rattle.model.specs.declared.Call.{Call}
use Rattle.model.specs.declared.Outcome.{Outcome}
use Rattle.model.specs.declared.State.{State}
use Rattle.model.specs.Parties.{row_of, last_clock}
use Rattle.model.specs.State.{holding_at}
use Rattle.model.proofs.PinLaws.{pin_held}
use Rattle.rules.specs.Calls.{three_steps}
use Rattle.rules.specs.Run.{outcome, after}
use Rattle.rules.specs.Sound.{sound}
use Rattle.rules.specs.SoundFacts.{Sound, BordersSound}
use Rattle.rules.proofs.Facts.SoundFacts.{facts, borders_facts}
use Rattle.rules.proofs.Facts.SoundBack.{back}
use Rattle.rules.proofs.Leaves.PageLaws.{found_below}
use Rattle.rules.proofs.Leaves.CallEffects.{Effect, unchanged, starts, begins, unpins, ends, ticks, sets, serves, effect}
use Rattle.rules.proofs.Stays.StaysFresh.{fresh_facts}
use Rattle.rules.proofs.Stays.StaysSetting.{bordered_sound}
use Rattle.rules.proofs.Stays.StaysBorders.{ticked_borders, stays_borders}
use Rattle.rules.proofs.Stays.StaysDrop.{ended_sound}
use Rattle.rules.proofs.Stays.StaysOwn.{begun_sound, unpinned_sound}
use Rattle.rules.proofs.Stays.StaysTick.{ticked_sound}
use Rattle.rules.proofs.Stays.StaysServe.{served_sound}
use Rattle.rules.proofs.Stays.StaysTries.{tried_facts}

pub stays_facts : (s : State) (c : Call) → Sound s → BordersSound s → Sound (outcome s c).state
stays_facts s c h y = go (outcome s c) (effect s c)
  where
    go : (o : Outcome) → Effect s c o → Sound o.state
    go o (unchanged a q e) = rw e h
    go o (starts slots delay q t e) = rw e (fresh_facts slots delay t.slots_least t.slots_most t.delay_least t.delay_most)
    go o (begins level number deadline q t e) = rw e (begun_sound s (row_of level number) deadline t.names.row_is h t.free t.in_time_lem)
    go o (unpins level number page slot q t f p e) =
        let row = row_of level number in
        rw e (unpinned_sound s row slot t.names.row_is (found_below s h page slot f) h t.idle (pin_held (holding_at s slot row).pin p))
    go o (ends level number q n e) = rw e (ended_sound s (row_of level number) n.names.row_is h n.taken)
    go o (ticks room q w k e) = rw e (tried_facts (three_steps s) (ticked_sound s h k) (ticked_borders s h y)).0
    go o (sets b q t e) = rw e (bordered_sound s b h y t.unbegun)
    go o (serves row page mode b a i e) =
        rw e (served_sound s row page mode h (record { row_is = b; live = rw i.0; settled = rw i.0 at (h.row row b) }) i.1 i.2)

-- the three steps of a tick
pub steps_sound : (s : State) → sound s ≡ true → s.clock < last_clock → sound (three_steps s) ≡ true
steps_sound s e k =
    let h = facts s e in
    back (three_steps s) (ticked_sound s h k) (ticked_borders s h (borders_facts s e))

pub stays_sound : (s : State) (c : Call) → sound s ≡ true → sound (outcome s c).state ≡ true
stays_sound s c e =
    let h = facts s e in
    let o = borders_facts s e in
    back (outcome s c).state (stays_facts s c h o) (stays_borders s c h o)

pub run_sound : (s : State) (cs : List Call) → sound s ≡ true → sound (after s cs) ≡ true
unfolding after
run_sound s [] e = e
run_sound s (c ∷ cs) e = run_sound (outcome s c).state cs (stays_sound s c e)
