-- What the three steps of a tick leave at each row, slot and holding.
use mathlib.Core.Path.{◌≡◌, refl, sym, ◌∙◌, ap}
use mathlib.Core.Bool.{Bool, true, false, cond}
use Prim.Native.Nat.{ℕ, ◌+◌, ◌<◌, ◌≤◌}
use borrow.Author.Tests.{leb-true}
use lib.Dec.{leb}
use Rattle.seq.proofs.Tests.{true_false}
use Rattle.seq.proofs.EachLaws.{each_at, each_length}
use Rattle.model.specs.declared.Cause.TheVariants.{Late}
use Rattle.model.specs.declared.Condition.{Condition}
use Rattle.model.specs.declared.Condition.TheVariants.{Free, Idle, Fetching, Waiting, Killed}
use Rattle.model.specs.declared.Mode.{Mode}
use Rattle.model.specs.declared.Row.{Row}
use Rattle.model.specs.declared.State.{State}
use Rattle.model.specs.State.{free_row, empty_holding, row_at, slot_at, holding_at}
use Rattle.model.specs.Words.{is_free, is_live}
use Rattle.model.specs.Changes.{dirtied, killed_row, killed, released, wrote_slot}
use Rattle.model.specs.Ranges.{Sized}
use Rattle.model.proofs.ChangeLaws.{killed_row_lem, killed_slot, killed_holding, killed_clock, killed_size}
use Rattle.rules.specs.Calls.{delivered, delivered_row, delivered_rows, is_late, late_killed, advanced}
use Rattle.rules.specs.Refusals.{is_waiting}

-- the clock and the rows before the late ones are killed
abbrev pub later : State → State
later s = delivered_rows (advanced s)

-- what does not tell a fetching row from an idle one holds of a delivered row as before
delivered_as : (p : Condition → Bool) → ((due : ℕ) → p (Fetching due) ≡ p Idle) → (clock : ℕ) (x : Condition) → p (delivered clock x) ≡ p x
delivered_as p e clock Free = refl
delivered_as p e clock Idle = refl
delivered_as p e clock (Waiting page mode) = refl
delivered_as p e clock (Killed cause) = refl
delivered_as p e clock (Fetching due) = go (leb due clock)
  where
    go : (b : Bool) → p (cond b Idle (Fetching due)) ≡ p (Fetching due)
    go true = sym (e due)
    go false = refl

-- a delivered row is live, and free, as before
pub delivered_live : (clock : ℕ) (x : Condition) → is_live (delivered clock x) ≡ is_live x
delivered_live = delivered_as is_live (λ _. refl)

pub delivered_free : (clock : ℕ) (x : Condition) → is_free (delivered clock x) ≡ is_free x
delivered_free = delivered_as is_free (λ _. refl)

-- a row that waits is delivered nothing
pub delivered_waiting : (clock : ℕ) (x : Row) (page : ℕ) (mode : Mode) → x.condition ≡ Waiting page mode → delivered_row clock x ≡ x
unfolding delivered_row
delivered_waiting clock x page mode w = let e : delivered clock x.condition ≡ x.condition = rw w in λ i. record { condition = e i; deadline = x.deadline }

module _ (s : State) (z : Sized s) where
  pub sized_later : Sized (later s)
  unfolding delivered_rows advanced
  sized_later = record { rows = each_length _ s.rows ∙ z.rows; slots = z.slots; holdings = z.holdings; places = z.places }

  pub later_row : (row : ℕ) → row < 32 → row_at (later s) row ≡ delivered_row (s.clock + 1) (row_at s row)
  unfolding delivered_rows advanced
  later_row row b = each_at (λ _ x. delivered_row (s.clock + 1) x) s.rows row free_row (rw z.rows b)

  pub ticked_row : (row : ℕ) → row < 32 → row_at (late_killed (later s)) row ≡ cond (is_late (later s) row) (killed_row Late) (delivered_row (s.clock + 1) (row_at s row))
  unfolding late_killed
  ticked_row row b = killed_row_lem (is_late (later s)) (later s) sized_later Late row b ∙ rw (later_row row b)

  pub ticked_slot : (slot : ℕ) → slot < 64 → slot_at (late_killed (later s)) slot ≡ cond (wrote_slot (is_late (later s)) (later s) slot) (dirtied (slot_at s slot)) (slot_at s slot)
  unfolding late_killed delivered_rows advanced
  ticked_slot slot b = killed_slot (is_late (later s)) (later s) sized_later Late slot b

  pub ticked_holding : (slot row : ℕ) → row < 32 → holding_at (late_killed (later s)) slot row ≡ cond (is_late (later s) row) empty_holding (holding_at s slot row)
  unfolding late_killed delivered_rows advanced
  ticked_holding slot row b = killed_holding (is_late (later s)) (later s) sized_later Late slot row b

  pub ticked_size : (late_killed (later s)).size ≡ s.size
  unfolding late_killed delivered_rows advanced
  ticked_size = killed_size (is_late (later s)) Late (later s)

  pub ticked_clock : (late_killed (later s)).clock ≡ s.clock + 1
  unfolding late_killed delivered_rows advanced
  ticked_clock = killed_clock (is_late (later s)) Late (later s)

  -- no begin order changes
  pub ticked_places : (late_killed (later s)).places ≡ s.places
  unfolding late_killed delivered_rows advanced killed released
  ticked_places = refl

  -- a row that is live was live before, and has its deadline
  pub ticked_live : (row : ℕ) → row < 32 → is_live (row_at (late_killed (later s)) row).condition ≡ true
      → (is_live (row_at s row).condition ≡ true) × ((row_at (late_killed (later s)) row).deadline ≡ (row_at s row).deadline)
  unfolding delivered_row
  ticked_live row b = rw (ticked_row row b) (go (is_late (later s) row))
    where
      go : (late : Bool) → is_live (cond late (killed_row Late) (delivered_row (s.clock + 1) (row_at s row))).condition ≡ true
          → (is_live (row_at s row).condition ≡ true) × ((cond late (killed_row Late) (delivered_row (s.clock + 1) (row_at s row))).deadline ≡ (row_at s row).deadline)
      go true l = true_false (sym l)
      go false l = (sym (delivered_live (s.clock + 1) (row_at s row).condition) ∙ l, refl)

  -- a row that was fetching becomes idle when its tick is reached
  pub ticked_idle : (row due : ℕ) → row < 32 → (row_at s row).condition ≡ Fetching due → (row_at (late_killed (later s)) row).condition ≡ Idle → due ≤ s.clock + 1
  unfolding delivered_row
  ticked_idle row due b f e = go (is_late (later s) row) (leb due (s.clock + 1)) refl (sym (ap (λ (x : Row). x.condition) (ticked_row row b)) ∙ e)
    where
      go : (late reached : Bool) → leb due (s.clock + 1) ≡ reached → (cond late (killed_row Late) (delivered_row (s.clock + 1) (row_at s row))).condition ≡ Idle → due ≤ s.clock + 1
      go true r q k = true_false (cc)
      go false true q k = leb-true due (s.clock + 1) q
      go false false q k = let n : Fetching due ≡ Idle = rw (f, q) at k in true_false (cc)

  -- a row that was fetching does not wait
  pub unwaiting : (row due : ℕ) → row < 32 → (row_at s row).condition ≡ Fetching due → is_waiting (row_at (late_killed (later s)) row).condition ≡ false
  unfolding delivered_row
  unwaiting row due b f = rw (ticked_row row b) (go (is_late (later s) row))
    where
      go : (late : Bool) → is_waiting (cond late (killed_row Late) (record { condition = delivered (s.clock + 1) (row_at s row).condition; deadline = (row_at s row).deadline })).condition ≡ false
      go true = refl
      go false = rw f (last (leb due (s.clock + 1)))
        where
          last : (x : Bool) → is_waiting (cond x Idle (Fetching due)) ≡ false
          last true = refl
          last false = refl
