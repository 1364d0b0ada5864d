-- A tick: its three steps as a change of the state, and then the tries.
use mathlib.Core.Path.{◌≡◌, ◌∙◌, ap}
use mathlib.Core.Bool.{Bool, cond}
use mathlib.Core.List.{List, ◌++◌}
use Prim.Native.Nat.{ℕ, ◌+◌, ◌<◌}
use lib.ListN.{drop, get_or}
use Rattle.seq.specs.Each.{each}
use Rattle.model.specs.declared.Answer.TheVariants.{Clock}
use Rattle.model.specs.declared.Call.TheVariants.{Tick}
use Rattle.model.specs.declared.Cause.TheVariants.{Late}
use Rattle.model.specs.declared.Change.{Change}
use Rattle.model.specs.declared.Outcome.{Outcome}
use Rattle.model.specs.declared.Row.{Row}
use Rattle.model.specs.declared.Setting.TheVariants.{Left}
use Rattle.model.specs.declared.Slot.{Slot}
use Rattle.model.specs.declared.State.{State}
use Rattle.model.specs.State.{free_row, with_clock}
use Rattle.model.specs.Changes.{killed_row, killed, released}
use Rattle.model.specs.Inner.Changed.{marked, changed, LeavesSetting, outcome_of, holdings_dropped}
use Rattle.model.specs.Ranges.{Sized}
use Rattle.rules.specs.Answers.{word, is_clock}
use Rattle.rules.specs.Calls.{delivered_row, three_steps, late_killed, delivered_rows, advanced}
use Rattle.rules.specs.Refusals.{tick_refusal}
use Rattle.rules.specs.Run.{outcome, fills_of}
use Rattle.rules.specs.Tries.{list_bytes, all_tried, ticked}
use Rattle.calls.specs.Inner.Parts.{late_row}
use Rattle.calls.proofs.ReplyLaws.{drop_after, rows_killed}
use Rattle.calls.proofs.MarkLaws.{ticked_rows}

module _ (s : State) where
  pub steps_made : Sized s → (rows live : List Row) (late : List Bool) (slots : List Slot) (c : Change)
      → rows ≡ each (λ row x. delivered_row (s.clock + 1) x) s.rows → ((row : ℕ) → row < 32 → marked late row ≡ late_row (s.clock + 1) (get_or rows row free_row))
      → live ≡ each (λ row x. cond (marked late row) (killed_row Late) x) rows → slots ≡ (released (marked late) (with_clock s (s.clock + 1))).slots
      → c ≡ holdings_dropped (s.clock + 1) live slots late Left → changed s c ≡ three_steps s
  unfolding outcome_of
  steps_made z rows live late slots c e f k l d =
      ap (λ (o : Outcome). o.state) (drop_after s z c (s.clock + 1) live slots late Left (Clock (s.clock + 1)) d l)
      ∙ ticked_rows s _ rows late z e f (rows_killed s z (s.clock + 1) rows live late Late k)

  pub steps_leave : (c : Change) → changed s c ≡ three_steps s → LeavesSetting s c
  unfolding changed late_killed delivered_rows advanced killed released
  steps_leave c e = (ap (λ (u : State). u.borders) e, ap (λ (u : State). u.begun) e, ap (λ (u : State). u.places) e)

  module _ (room : ℕ) (l : List ℕ) where
    abbrev Told : Outcome → List ℕ → Type 0
    Told o m = (o ≡ outcome s (Tick room)) × (m ≡ cond (is_clock o.answer) (list_bytes (fills_of s (Tick room)) ++ drop 256 l) l)

    pub tick_made : tick_refusal s room ≡ 0 → (t : State) (m : List ℕ) → t ≡ (all_tried (three_steps s)).state → m ≡ list_bytes (all_tried (three_steps s)).fills ++ drop 256 l
        → Told (record { state = t; answer = Clock (s.clock + 1) }) m
    unfolding outcome ticked fills_of word
    tick_made k t m p q = (rw (k, p), rw k q)
