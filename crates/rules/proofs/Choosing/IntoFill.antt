-- A slot that is taken for a new page: what is left of the rows and of the holdings on each page, and the grant on it.
use mathlib.Core.Path.{◌≡◌, refl, ◌∙◌, ap}
use mathlib.Core.Bool.{Bool, true, false, cond, ◌||◌}
use Prim.Native.Nat.{ℕ, ◌<◌, ◌≤◌}
use native.Mathlib.Omega.{arith}
use Rattle.seq.specs.declared.Found.TheVariants.{At, Nowhere}
use Rattle.seq.proofs.Tests.{cond_same}
use Rattle.model.specs.declared.Mode.{Mode}
use Rattle.model.specs.declared.Cause.TheVariants.{Taken}
use Rattle.model.specs.declared.Row.{Row}
use Rattle.model.specs.declared.Holding.{Holding}
use Rattle.model.specs.declared.State.{State}
use Rattle.model.specs.Parties.{level_of}
use Rattle.model.specs.State.{empty_holding, row_at, slot_at}
use Rattle.model.specs.Words.{has_page, is_held, pins, slot_of}
use Rattle.model.specs.Changes.{killed, killed_row}
use Rattle.model.proofs.ChangeLaws.{killed_row_lem, killed_size, killed_delay, killed_clock, killed_places}
use Rattle.rules.specs.Calls.{pinners_killed, write_back, filled, into_slot}
use Rattle.rules.specs.SoundFacts.{Sound}
use Rattle.rules.specs.Alike.{holding_on}
use Rattle.rules.proofs.Leaves.PageLaws.{killed_slot_of, killed_page, killed_on}
use Rattle.rules.proofs.Leaves.FillLaws.{sized_filled, filled_size, filled_delay, filled_clock, filled_places, filled_row, filled_empty, filled_new, filled_on, Freed, freed}
use Rattle.rules.proofs.Choosing.IntoGain.{Gains, gains_as}
use Rattle.rules.proofs.Choosing.IntoGrant.{granted_gains}

-- what is left of a row, and of its holding on a page, when a slot is taken
abbrev pub left_row : State → ℕ → ℕ → Row
left_row s slot r = cond (pins s slot r) (killed_row Taken) (row_at s r)

abbrev pub left_holding : State → ℕ → ℕ → ℕ → Holding
left_holding s slot other r = cond (pins s slot r || has_page other (slot_at s slot).content) empty_holding (holding_on s other r)

-- first the holdings on the slot's page go and then those of its pinners, or all at once
both_left : (a b : Bool) (x : Holding) → cond b empty_holding (cond a empty_holding x) ≡ cond (a || b) empty_holding x
both_left true b x = cond_same b empty_holding
both_left false b x = refl

pub into_gains : (L : ℕ) (s : State) (z : Sound s) (me slot page : ℕ) → me < 32 → level_of me ≤ L → slot < s.size → slot_of s page ≡ Nowhere → (mode : Mode)
    → Gains L s me page mode (left_row s slot) (left_holding s slot) (into_slot (At slot) s me page mode)
unfolding pinners_killed
into_gains L s z me slot page r low there absent mode =
    gains_as L s me page mode (row_at u) (left_row s slot) (holding_on u) (left_holding s slot) (into_slot (At slot) s me page mode) r low
    (λ q h l. filled_row k f.sized f.most slot page (level_of me) f.there q ∙ killed_row_lem (pins s slot) s z.sized Taken q h)
    left
    (granted_gains L s u
    (filled_size k f.sized f.most slot page (level_of me) f.there ∙ killed_size (pins s slot) Taken s)
    (filled_delay k f.sized f.most slot page (level_of me) f.there ∙ killed_delay (pins s slot) Taken s)
    (filled_clock k f.sized f.most slot page (level_of me) f.there ∙ killed_clock (pins s slot) Taken s)
    (filled_places k f.sized f.most slot page (level_of me) f.there ∙ killed_places (pins s slot) Taken s)
    (sized_filled k f.sized f.most slot page (level_of me) f.there) me slot page r b
    (filled_new k f.sized f.most slot page (level_of me) f.there f.one nowhere)
    (ap (λ (x : Holding). is_held x.pin) (filled_empty k f.sized f.most slot page (level_of me) f.there me r))
    z.delay_least mode (write_back (slot_at k slot)))
  where
    -- the state without its pinners, and then with the page in the slot
    k : State
    k = killed (pins s slot) Taken s

    u : State
    u = filled k slot page (level_of me)

    f : Freed s slot
    f = freed s z slot there

    b : slot < 64
    b = omega (arith, z.size_most)

    nowhere : slot_of k page ≡ Nowhere
    nowhere = killed_slot_of (pins s slot) s z.sized z.size_most Taken page ∙ absent

    left : (other q : ℕ) → q < 32 → level_of q ≤ L → holding_on u other q ≡ left_holding s slot other q
    left other q h _ =
        filled_on k f.sized f.most slot page (level_of me) f.there f.one nowhere other q h
        ∙ ap (λ (x : Bool). cond x empty_holding (holding_on k other q)) (killed_page (pins s slot) s z.sized z.size_most Taken other slot b)
        ∙ ap (λ (x : Holding). cond (has_page other (slot_at s slot).content) empty_holding x) (killed_on (pins s slot) s z.sized z.size_most Taken other q h)
        ∙ both_left (pins s slot q) (has_page other (slot_at s slot).content) (holding_on s other q)
