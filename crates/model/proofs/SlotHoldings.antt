-- The 32 holdings of a slot are those from its first on.
use mathlib.Core.Path.{◌≡◌, ◌∙◌, sym}
use mathlib.Core.Bool.{Bool, ◌&&◌}
use Prim.Native.Nat.{ℕ, ◌*◌, ◌<◌}
use native.Mathlib.Omega.{arith}
use lib.ListN.{length, take, drop, get_or, length-replicate, length-drop}
use lib.Seq.{ext_get_or, length-take-le, get_or-drop, get_or-take}
use Rattle.seq.specs.Below.{any_below}
use Rattle.seq.proofs.BelowLaws.{any_same}
use Rattle.seq.proofs.EachLaws.{each_at, each_length}
use Rattle.model.specs.State.{empty_holding, holding_at, with_clock}
use Rattle.model.specs.Inner.Holdings.{holdings_on}
use Rattle.model.specs.Changes.{written, wrote_slot}
use Rattle.model.specs.declared.State.{State}

pub long_lem : (s : State) (slot : ℕ) → length (holdings_on s slot) ≡ 32
unfolding holdings_on
long_lem s slot = each_length _ _ ∙ length-replicate 32 empty_holding

pub at_row : (s : State) (slot row : ℕ) → row < 32 → get_or (holdings_on s slot) row empty_holding ≡ holding_at s slot row
unfolding holdings_on
at_row s slot row b = each_at _ _ row empty_holding (rw (length-replicate 32 empty_holding) b)

pub part_is : (s : State) (slot n : ℕ) → length s.holdings ≡ 2048 → slot < 64 → n ≡ 32 → take n (drop (slot * 32) s.holdings) ≡ holdings_on s slot
part_is s slot n o b e =
    let long : length (take n (drop (slot * 32) s.holdings)) ≡ n = length-take-le n (drop (slot * 32) s.holdings) (rw (length-drop, o) (omega arith)) in
    ext_get_or empty_holding (take n (drop (slot * 32) s.holdings)) (holdings_on s slot) (long ∙ e ∙ sym (long_lem s slot))
    (λ r h.
    let m : r < n = rw long at h in
    get_or-take n (drop (slot * 32) s.holdings) r empty_holding m ∙ get_or-drop (slot * 32) s.holdings r empty_holding ∙ sym (at_row s slot r (omega arith)))

pub wrote_lem : (s : State) (slot clock : ℕ) (some : ℕ → Bool) → any_below 32 (λ row. some row && written clock (get_or (holdings_on s slot) row empty_holding)) ≡ wrote_slot some (with_clock s clock) slot
wrote_lem s slot clock some =
    any_same (λ row. some row && written clock (get_or (holdings_on s slot) row empty_holding)) (λ row. some row && written clock (holding_at s slot row)) 32 (λ row b. rw (at_row s slot row b))
