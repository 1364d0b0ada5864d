-- Other borders where no row is live, and the mark that a row has begun, leave what sound says of slots, rows and holdings.
use mathlib.Core.Path.{◌≡◌, refl, sym}
use mathlib.Core.Bool.{Bool, true, false}
use Prim.Native.Nat.{ℕ, ◌<◌}
use native.Mathlib.Omega.{arith}
use Rattle.seq.proofs.Tests.{true_false}
use Rattle.model.specs.declared.Borders.{Borders}
use Rattle.model.specs.declared.State.{State}
use Rattle.model.specs.State.{row_at, slot_at, with_borders}
use Rattle.model.specs.Words.{is_live}
use Rattle.rules.specs.SoundFacts.{Sound, BordersSound}
use Rattle.rules.proofs.Stays.StaysBase.{base, whole, slot_stays, same}
use Rattle.rules.proofs.Stays.StaysOrder.{order_stays}
use Rattle.rules.proofs.Stays.StaysChange.{old_slot, old_holding, base_change}
use Rattle.rules.proofs.Stays.StaysRows.{row_stays}

-- the state with these borders and this mark
abbrev set_to : State → Borders → Bool → State
set_to s b mark = record { size = s.size; delay = s.delay; clock = s.clock; rows = s.rows; slots = s.slots; holdings = s.holdings; borders = b; begun = mark; places = s.places }

pub set_sound : (s : State) (b : Borders) (mark : Bool) → Sound s → ((r : ℕ) → r < 32 → is_live (row_at s r).condition ≡ true → b ≡ s.borders) → Sound (set_to s b mark)
set_sound s b mark h f =
    whole (set_to s b mark) (base_change s (set_to s b mark) (base s h) (record {
      sized = record { rows = h.sized.rows; slots = h.sized.slots; holdings = h.sized.holdings; places = h.sized.places };
      size = refl;
      delay = refl;
      clock = omega arith;
      clock_most = h.clock_most;
      borders = f;
      slot = λ i g. old_slot (slot_stays (slot_at s i) (slot_at s i) refl) (h.slot i g).touch;
      holding = λ i r g k. old_holding (same refl);
      live = λ i r g k w. (h.held i r g k w).live;
    }))
    (λ r g. row_stays s (set_to s b mark) r (λ i _. same refl) (λ i _ _. refl) refl (f r g) refl (h.row r g))
    (order_stays s (set_to s b mark) h.order refl (λ _ _. refl))

-- before a row has begun every row is free
pub bordered_sound : (s : State) (b : Borders) → Sound s → BordersSound s → s.begun ≡ false → Sound (with_borders s b)
bordered_sound s b h o u = set_sound s b s.begun h (λ r g l. true_false (sym (rw (o.free u r g) at l)))
