-- A grant to a row that does not hold the slot, due after the delay; the grant of step 3 on a slot that has the page.
use mathlib.Core.Path.{◌≡◌, refl, ◌∙◌, ap}
use mathlib.Core.Bool.{Bool, false, cond, ◌&&◌}
use Prim.Native.Nat.{ℕ, ◌<◌, ◌≤◌}
use native.Mathlib.Omega.{arith}
use borrow.Author.Tests.{lt-leb}
use lib.Dec.{leb, eqb}
use Rattle.seq.specs.declared.Found.TheVariants.{At}
use Rattle.model.specs.declared.Mode.{Mode}
use Rattle.model.specs.declared.Cause.TheVariants.{Taken}
use Rattle.std.specs.Prelude.{Option, None}
use Rattle.model.specs.declared.Answer.TheVariants.{Fetch}
use Rattle.model.specs.declared.Condition.TheVariants.{Idle, Fetching}
use Rattle.model.specs.declared.Holding.{Holding}
use Rattle.model.specs.declared.State.{State}
use Rattle.model.specs.Parties.{level_of}
use Rattle.model.specs.State.{empty_holding, row_at, holding_at}
use Rattle.model.specs.Words.{is_held, pin_of, holds, seen, slot_of}
use Rattle.model.specs.Changes.{killed, killed_row}
use Rattle.model.specs.Ranges.{Sized}
use Rattle.model.proofs.ChangeLaws.{killed_row_lem, killed_holding, sized_killed, killed_clock, killed_delay, killed_size, killed_places}
use Rattle.model.proofs.SeenLaws.{not_seen}
use Rattle.rules.specs.Answers.{told, word, value}
use Rattle.rules.specs.Calls.{held_with, granted, conflicts, step3}
use Rattle.rules.specs.SoundFacts.{Sound}
use Rattle.rules.specs.Alike.{holding_on}
use Rattle.rules.proofs.Leaves.PageLaws.{found_slot, killed_slot_of, killed_on}
use Rattle.rules.proofs.Leaves.GrantLaws.{granted_holding, granted_row_lem, granted_on, granted_size, granted_delay, granted_clock, unheld_spared}
use Rattle.rules.proofs.Choosing.IntoGain.{due_tick, new_holding, Gains, gains_as}

-- the slot and the page to write back are not told
pub fetch_told : (due slot : ℕ) (back : Option ℕ) → told (Fetch due slot back) ≡ told (Fetch due 0 None)
unfolding told word value
fetch_told due slot back = refl

granted_told : (s : State) (me slot : ℕ) (mode : Mode) (due : ℕ) (back : Option ℕ) → leb due s.clock ≡ false → told (granted s me slot mode due back).answer ≡ told (Fetch due 0 None)
unfolding granted
granted_told s me slot mode due back e = rw e (fetch_told due slot back)

granted_places : (s : State) (me slot : ℕ) (mode : Mode) (due : ℕ) (back : Option ℕ) → (granted s me slot mode due back).state.places ≡ s.places
unfolding granted
granted_places s me slot mode due back = refl

-- u is what the kills and the clearing left of s
pub granted_gains : (L : ℕ) (s u : State) → u.size ≡ s.size → u.delay ≡ s.delay → u.clock ≡ s.clock → u.places ≡ s.places → Sized u → (me slot page : ℕ) → me < 32 → slot < 64
    → slot_of u page ≡ At slot → holds u slot me ≡ false → 1 ≤ s.delay → (mode : Mode) (back : Option ℕ)
    → Gains L s me page mode (row_at u) (holding_on u) (granted u me slot mode (due_tick s) back)
granted_gains L s u size delay clock places z me slot page r b found none least mode back =
    let late : leb (due_tick s) u.clock ≡ false = lt-leb (due_tick s) u.clock (omega arith) in
    record {
      answer = granted_told u me slot mode (due_tick s) back late;
      size = granted_size u z me slot r b mode (due_tick s) back ∙ size;
      delay = granted_delay u z me slot r b mode (due_tick s) back ∙ delay;
      clock = granted_clock u z me slot r b mode (due_tick s) back ∙ clock;
      places = granted_places u me slot mode (due_tick s) back ∙ places;
      row = λ q h l.
          granted_row_lem u z me slot r b mode (due_tick s) back q
          ∙ ap (λ (x : Bool). cond (eqb q me) (record { condition = cond x Idle (Fetching (due_tick s)); deadline = (row_at u me).deadline }) (row_at u q)) late;
      holding = λ other q h l.
          granted_on u z me slot page r b found mode (due_tick s) back other q h
          ∙ ap (λ (x : Holding). cond (eqb other page && eqb q me) x (holding_on u other q)) new;
    }
  where
    new : granted_holding u me slot mode (due_tick s) ≡ new_holding s mode
    new =
        ap (λ (x : Bool). held_with x (holding_at u slot me) (pin_of mode) (due_tick s) u.clock) none
        ∙ ap {B = Holding} (λ (n : ℕ). record { pin = pin_of mode; arrival = due_tick s; touch = n }) clock

-- step 3 on a slot that no row up to L holds
module _ (L : ℕ) (s : State) (z : Sound s) (me slot page : ℕ) (r : me < 32) (low : level_of me ≤ L) (found : slot_of s page ≡ At slot) (hidden : seen s L slot ≡ false) (mode : Mode) where
  spared : (q : ℕ) → q < 32 → level_of q ≤ L → conflicts s me slot mode q ≡ false
  spared q h l = unheld_spared s me slot mode q (not_seen s L slot q hidden h l)

  pub hidden_gains : Gains L s me page mode (row_at s) (holding_on s) (step3 s me slot mode)
  unfolding step3
  hidden_gains =
      let u = killed (conflicts s me slot mode) Taken s in
      let b = (found_slot s page slot found).0 in
      gains_as L s me page mode (row_at u) (row_at s) (holding_on u) (holding_on s) (step3 s me slot mode) r low
      (λ q h l. killed_row_lem (conflicts s me slot mode) s z.sized Taken q h ∙ ap (λ (x : Bool). cond x (killed_row Taken) (row_at s q)) (spared q h l))
      (λ other q h l. killed_on (conflicts s me slot mode) s z.sized z.size_most Taken other q h ∙ ap (λ (x : Bool). cond x empty_holding (holding_on s other q)) (spared q h l))
      (granted_gains L s u (killed_size (conflicts s me slot mode) Taken s) (killed_delay (conflicts s me slot mode) Taken s) (killed_clock (conflicts s me slot mode) Taken s) (killed_places (conflicts s me slot mode) Taken s)
      (sized_killed (conflicts s me slot mode) s z.sized Taken) me slot page r (omega (arith, z.size_most))
      (killed_slot_of (conflicts s me slot mode) s z.sized z.size_most Taken page ∙ found)
      (ap (λ (x : Holding). is_held x.pin) (killed_holding (conflicts s me slot mode) s z.sized Taken slot me r ∙ ap (λ (x : Bool). cond x empty_holding (holding_at s slot me)) (spared me r low))
      ∙ not_seen s L slot me hidden r low)
      z.delay_least mode None)
