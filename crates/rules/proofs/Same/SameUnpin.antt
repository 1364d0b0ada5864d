-- Unpin on two states alike for L, by a level up to L.
use mathlib.Core.Path.{◌≡◌, refl, sym, ◌∙◌}
use mathlib.Core.Bool.{true}
use Prim.Native.Nat.{ℕ, ◌<◌, ◌≤◌}
use native.Mathlib.Omega.{arith}
use Rattle.seq.specs.Below.{at_found}
use Rattle.seq.specs.declared.Found.TheVariants.{At}
use Rattle.model.specs.declared.Answer.TheVariants.{Unpinned}
use Rattle.model.specs.declared.State.{State}
use Rattle.model.specs.Parties.{row_of, level_of}
use Rattle.model.specs.Words.{is_held, slot_of}
use Rattle.model.proofs.PinLaws.{pin_held}
use Rattle.rules.specs.Calls.{unpinned_at, unpinned}
use Rattle.rules.specs.Refusals.{unpin_refusal}
use Rattle.rules.specs.SoundFacts.{Sound}
use Rattle.rules.specs.Alike.{holding_on, Alike, Same}
use Rattle.rules.proofs.Leaves.PageLaws.{found_slot, on_held}
use Rattle.rules.proofs.Leaves.UnpinLaws.{unpinned_on}
use Rattle.rules.proofs.Leaves.RefusalFacts.{UnpinTaken, unpin_taken}
use Rattle.rules.proofs.Same.SamePages.{same_holding}
use Rattle.rules.proofs.Same.SameChanges.{same_unless}
use Rattle.rules.proofs.Same.SameRefusals.{pins_on, same_unpin_refusal}

same_unpinned_at : (L : ℕ) (s t : State) → Sound s → Sound t → Alike L s t → (row page i j : ℕ) → row < 32 → level_of row ≤ L → slot_of s page ≡ At i → slot_of t page ≡ At j
    → Alike L (unpinned_at s row i) (unpinned_at t row j)
unfolding unpinned_at
same_unpinned_at L s t y z alike row page i j r l at-s at-t =
    let bi : i < 64 = omega (arith, (found_slot s page i at-s).0, y.size_most) in
    let bj : j < 64 = omega (arith, (found_slot t page j at-t).0, z.size_most) in
    record {
      size = alike.size;
      delay = alike.delay;
      clock = alike.clock;
      row = alike.row;
      place = alike.place;
      holding = λ other q h m.
          rw (
            unpinned_on s y.sized row i r bi page at-s other q h,
            unpinned_on t z.sized row j r bj page at-t other q h,
            alike.holding other q h m,
            same_holding L s t alike page i j at-s at-t row r l,
          );
    }

pub same_unpinned : (L : ℕ) (s t : State) → L ≤ 2 → Sound s → Sound t → Alike L s t → (level number page : ℕ) → level ≤ L → Same L (unpinned s level number page) (unpinned t level number page)
unfolding unpinned
same_unpinned L s t two y z alike level number page low =
    same_unless L s t (unpin_refusal s level number page) (unpin_refusal t level number page)
    (record { state = at_found (slot_of s page) (unpinned_at s (row_of level number)) s; answer = Unpinned })
    (record { state = at_found (slot_of t page) (unpinned_at t (row_of level number)) t; answer = Unpinned })
    alike (same_unpin_refusal L s t alike two level number low page)
    (λ e. (refl, go (unpin_taken s level number page e)))
  where
    go : UnpinTaken s level number page
        → Alike L (at_found (slot_of s page) (unpinned_at s (row_of level number)) s) (at_found (slot_of t page) (unpinned_at t (row_of level number)) t)
    go h =
        let r : row_of level number < 32 = h.names.row_is in
        let l : level_of (row_of level number) ≤ L = omega (arith, h.names.own_level) in
        let p : is_held (holding_on s page (row_of level number)).pin ≡ true = pin_held (holding_on s page (row_of level number)).pin (sym (pins_on s (row_of level number) page) ∙ h.pinned) in
        let q : is_held (holding_on t page (row_of level number)).pin ≡ true = rw (alike.holding page (row_of level number) r l) at p in
        let fs = on_held s page (row_of level number) p in
        let ft = on_held t page (row_of level number) q in
        rw (fs.1, ft.1) (same_unpinned_at L s t y z alike (row_of level number) page fs.0 ft.0 r l fs.1 ft.1)
