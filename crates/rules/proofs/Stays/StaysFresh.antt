-- A fresh state is sound.
use mathlib.Core.Path.{◌≡◌, refl, sym, ap}
use mathlib.Core.Bool.{true}
use Prim.Native.Nat.{ℕ, ◌≤◌}
use native.Mathlib.Omega.{arith}
use Rattle.seq.proofs.Tests.{true_false}
use Rattle.seq.proofs.EachLaws.{replicate_at}
use Rattle.model.specs.declared.Row.{Row}
use Rattle.model.specs.declared.Slot.{Slot}
use Rattle.model.specs.Parties.{are_borders}
use Rattle.model.specs.State.{fresh, slot_at}
use Rattle.model.specs.Words.{is_filled, conflict}
use Rattle.model.proofs.StateLaws.{fresh_row, fresh_slot, fresh_holding, fresh_sized}
use Rattle.rules.specs.Sound.{sound}
use Rattle.rules.specs.SoundFacts.{Sound, BordersSound}
use Rattle.rules.proofs.Facts.SoundBack.{back}

module _ (slots delay : ℕ) where
  empty : (i : ℕ) → is_filled (slot_at (fresh slots delay) i).content ≡ true → ⊥
  empty i e = true_false (sym (rw (fresh_slot slots delay i) at e))

  pub fresh_facts : 1 ≤ slots → slots ≤ 64 → 1 ≤ delay → delay ≤ 255 → Sound (fresh slots delay)
  unfolding fresh conflict
  fresh_facts a b c d = record {
    sized = fresh_sized slots delay;
    size_least = a;
    size_most = b;
    delay_least = c;
    delay_most = d;
    clock_most = omega arith;
    slot = λ i _. record {
      empty = λ _. ap (λ (x : Slot). x.touch) (fresh_slot slots delay i);
      page = λ e. absurd (empty i e);
      lowest = λ e. absurd (empty i e);
      touch = omega (arith, ap (λ (x : Slot). x.touch) (fresh_slot slots delay i));
      arrival = λ e. absurd (empty i e);
      started = λ e. absurd (empty i e);
    };
    one_slot = λ i j _ _ e _ _. absurd (empty i e);
    row = λ r _. rw (fresh_row slots delay r) refl;
    order = record {
      none = λ r _ _. replicate_at {A = ℕ} 32 r 0;
      least = λ r _ e. true_false (rw (fresh_row slots delay r) at e);
      most = λ r _ e. true_false (rw (fresh_row slots delay r) at e);
      once = λ r q _ _ _ p _. absurd (omega (arith, replicate_at {A = ℕ} 32 r 0, p));
    };
    held = λ i r _ _ e. true_false (sym (rw (fresh_holding slots delay i r) at e));
    unheld = λ i r _ _ _. fresh_holding slots delay i r;
    no_conflict = λ i r q _ _ _ _. rw (fresh_holding slots delay i r) refl;
  }

  pub fresh_borders : BordersSound (fresh slots delay)
  unfolding fresh are_borders
  fresh_borders = record {
    valid = refl;
    free = λ _ r _. ap (λ (x : Row). x.condition) (fresh_row slots delay r);
    empty = λ _ i _. ap (λ (x : Slot). is_filled x.content) (fresh_slot slots delay i);
  }

  pub fresh_sound : 1 ≤ slots → slots ≤ 64 → 1 ≤ delay → delay ≤ 255 → sound (fresh slots delay) ≡ true
  fresh_sound a b c d = back (fresh slots delay) (fresh_facts a b c d) fresh_borders
