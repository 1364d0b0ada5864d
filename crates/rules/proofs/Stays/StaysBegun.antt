-- A row that is not free has begun, and from then on nothing is asked of free rows and empty slots.
use mathlib.Core.Path.{◌≡◌, refl, sym, ◌∙◌}
use mathlib.Core.Bool.{Bool, true, false}
use Prim.Native.Nat.{ℕ, ◌<◌}
use Rattle.seq.proofs.Tests.{true_false}
use Rattle.model.specs.declared.State.{State}
use Rattle.model.specs.State.{row_at}
use Rattle.model.specs.Words.{is_free}
use Rattle.rules.specs.SoundFacts.{BordersSound}
use Rattle.rules.proofs.Leaves.SettingLaws.{Unset}

module _ (s : State) (h : BordersSound s) where
  -- a row that is not free has begun
  pub row_begun_lem : (r : ℕ) → r < 32 → is_free (row_at s r).condition ≡ false → s.begun ≡ true
  row_begun_lem r b f = go s.begun refl
    where
      go : (x : Bool) → s.begun ≡ x → s.begun ≡ true
      go true e = e
      go false e = true_false (rw (h.free e r b) at f)

  -- so a call of such a row has nothing to keep
  pub begun_still : (t : State) → Unset s t → s.begun ≡ true → BordersSound t
  begun_still t u b = record {
    valid = rw u.0 h.valid;
    free = λ e. true_false (sym (u.1 ∙ b) ∙ e);
    empty = λ e. true_false (sym (u.1 ∙ b) ∙ e);
  }
