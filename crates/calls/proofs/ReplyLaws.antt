-- What the replies of the calls come to: those in which some rows lose all their holdings, or none does.
use mathlib.Core.Path.{◌≡◌, ◌∙◌, ap}
use mathlib.Core.Bool.{Bool, false, cond}
use mathlib.Core.List.{List}
use Prim.Native.Nat.{ℕ, ◌%◌}
use lib.ListN.{replicate}
use Rattle.seq.specs.Each.{each}
use Rattle.seq.proofs.EachLaws.{replicate_at}
use Rattle.model.specs.declared.Answer.{Answer}
use Rattle.model.specs.declared.Cause.{Cause}
use Rattle.model.specs.declared.Row.{Row}
use Rattle.model.specs.declared.Slot.{Slot}
use Rattle.model.specs.declared.Setting.{Setting}
use Rattle.model.specs.declared.Setting.TheVariants.{Left}
use Rattle.model.specs.declared.Change.{Change}
use Rattle.model.specs.declared.Reply.{Reply}
use Rattle.model.specs.declared.State.{State}
use Rattle.model.specs.State.{empty_holding, with_clock, with_rows}
use Rattle.model.specs.Changes.{released, killed, killed_row}
use Rattle.model.specs.Inner.Changed.{marked, borders_after, begun_after, places_after, with_setting, changed, outcome_of, holdings_dropped}
use Rattle.model.specs.Ranges.{Sized}
use Rattle.model.proofs.ChangedLaws.{changed_dropped, changed_none}
use Rattle.calls.specs.Inner.Parts.{setting_made}

module _ (s : State) (z : Sized s) where
  -- no holding changes
  pub set_after : (r : Reply) (rows : List Row) (x : Setting) (a : Answer) → r ≡ setting_made s.clock rows s.slots x a
      → outcome_of s r ≡ record { state = with_setting (with_rows s rows) x; answer = a }
  unfolding setting_made outcome_of
  set_after r rows x a e =
      ap (outcome_of s) e
      ∙ (λ j. record { state = changed_none s z s.clock rows s.slots (replicate 32 false) x (λ row _. replicate_at 32 row false) j; answer = a })

  -- nor do the borders
  pub left_after : (r : Reply) (rows : List Row) (a : Answer) → r ≡ setting_made s.clock rows s.slots Left a → outcome_of s r ≡ record { state = with_rows s rows; answer = a }
  left_after r rows a e = set_after r rows Left a e

  -- some rows do
  pub drop_after : (c : Change) (clock : ℕ) (rows : List Row) (slots : List Slot) (gone : List Bool) (x : Setting) (a : Answer) → c ≡ holdings_dropped clock rows slots gone x
      → slots ≡ (released (marked gone) (with_clock s clock)).slots
      → outcome_of s (record { change = c; answer = a }) ≡ record { state = with_setting (with_rows (released (marked gone) (with_clock s clock)) rows) x; answer = a }
  unfolding outcome_of released
  drop_after c clock rows slots gone x a e f =
      let t : changed s c ≡ with_setting (with_rows (released (marked gone) (with_clock s clock)) rows) x =
      ap (changed s) e
      ∙ changed_dropped s z clock rows slots gone x
      ∙ (λ j. record {
        size = s.size;
        delay = s.delay;
        clock = clock;
        rows = rows;
        slots = f j;
        holdings = each (λ k h. cond (marked gone (k % 32)) empty_holding h) s.holdings;
        borders = borders_after x s.borders;
        begun = begun_after x s.begun;
        places = places_after x s.places;
      }) in
      λ j. record { state = t j; answer = a }

  -- they are killed
  pub rows_killed : (clock : ℕ) (rows live : List Row) (gone : List Bool) (cause : Cause) → live ≡ each (λ row x. cond (marked gone row) (killed_row cause) x) rows
      → with_rows (released (marked gone) (with_clock s clock)) live ≡ killed (marked gone) cause (with_rows (with_clock s clock) rows)
  unfolding killed released
  rows_killed clock rows live gone cause e = ap (with_rows (released (marked gone) (with_clock s clock))) e
