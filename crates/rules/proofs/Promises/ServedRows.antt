-- What a served request makes of the rows: every other row stays as it was or is killed; its own keeps its deadline, and waits, or has the page in the slot that the answer names.
use mathlib.Core.Path.{◌≡◌, refl, sym, ap}
use mathlib.Core.Bool.{Bool, true, false, cond}
use mathlib.Core.Logic.{◌⊎◌, inl, inr}
use Prim.Native.Nat.{ℕ, ◌+◌, ◌<◌, ◌≤◌}
use native.Mathlib.Omega.{arith}
use borrow.Author.Tests.{eq-eqb, ne_eqb}
use Rattle.model.specs.declared.Answer.TheVariants.{Ready, Fetch, Wait}
use Rattle.std.specs.Prelude.{Option, None}
use Rattle.model.specs.declared.Cause.TheVariants.{Taken}
use Rattle.model.specs.declared.Condition.TheVariants.{Idle, Fetching, Waiting}
use Rattle.model.specs.declared.Mode.{Mode}
use Rattle.model.specs.declared.Outcome.{Outcome}
use Rattle.model.specs.declared.Pin.{Pin}
use Rattle.model.specs.declared.Pin.TheVariants.{Absent, Unpinned, Read, Write}
use Rattle.model.specs.declared.Row.{Row}
use Rattle.model.specs.declared.State.{State}
use Rattle.model.specs.Parties.{level_of}
use Rattle.model.specs.State.{row_at, slot_at, holding_at}
use Rattle.model.specs.Words.{is_pin, pin_of, strength, pins}
use Rattle.model.specs.Changes.{killed, killed_row}
use Rattle.model.specs.Ranges.{Sized}
use Rattle.model.proofs.PutLaws.{row_same, row_other}
use Rattle.model.proofs.ChangeLaws.{killed_row_lem}
use Rattle.rules.specs.Calls.{waiting, granted, pinners_killed, write_back, filled, served}
use Rattle.rules.specs.Listed.{is_idle_or_fetching, PinnedFor}
use Rattle.rules.specs.Sound.{sound}
use Rattle.rules.specs.SoundFacts.{Sound}
use Rattle.rules.proofs.Facts.SoundFacts.{facts}
use Rattle.rules.proofs.Leaves.FillLaws.{filled_row, freed}
use Rattle.rules.proofs.Leaves.GrantLaws.{granted_row_lem}
use Rattle.rules.proofs.Promises.Serving.{Serving, waits, waits_g, joins, fills, serving}
use Rattle.rules.proofs.Promises.Granting.{Grant, grant, granted_answer_lem, never_waits, own_page, own_pin, grant_ready, grant_fetch, killed_ground, filled_ground}
use Rattle.rules.proofs.Stays.StaysChoice.{chosen_free}

-- ---- the rows

-- a row is as it was, or killed as taken
abbrev pub SameOrTaken : Row → Row → Type 0
SameOrTaken x y = (y ≡ x) ⊎ (y ≡ killed_row Taken)

record Rows (s t : State) (row : ℕ) : Type 0 where
  pub others : (q : ℕ) → q < 32 → (q ≡ row → ⊥) → SameOrTaken (row_at s q) (row_at t q)
  pub deadline : (row_at t row).deadline ≡ (row_at s row).deadline

wait_rows : (s : State) → Sized s → (row : ℕ) → row < 32 → (page : ℕ) (mode : Mode) → Rows s (waiting s row page mode).state row
unfolding waiting
wait_rows s z row b page mode =
    let x : Row = record { condition = Waiting page mode; deadline = (row_at s row).deadline } in
    record { others = λ q m n. inl (row_other s z row x q n); deadline = ap (λ (y : Row). y.deadline) (row_same s z row x b) }

-- a grant on a state with the rows that a kill of others left
module _ (s : State) (z : Sound s) (some : ℕ → Bool) (row slot : ℕ) (b : row < 32) (c : slot < 64) (u : State) (y : Sized u) (same : (q : ℕ) → row_at u q ≡ row_at (killed some Taken s) q) (mode : Mode) (arrival : ℕ) (back : Option ℕ) where
  pub other_row : (q : ℕ) → q < 32 → (q ≡ row → ⊥) → row_at (granted u row slot mode arrival back).state q ≡ cond (some q) (killed_row Taken) (row_at s q)
  other_row q m n = rw (granted_row_lem u y row slot b c mode arrival back q, ne_eqb q row n, same q, killed_row_lem some s z.sized Taken q m)

  grant_rows : some row ≡ false → Rows s (granted u row slot mode arrival back).state row
  grant_rows mine = record {
    others = λ q m n. rw (other_row q m n) (go q (some q));
    deadline = rw (granted_row_lem u y row slot b c mode arrival back row, eq-eqb row row refl, same row, killed_row_lem some s z.sized Taken row b, mine);
  }
    where
      go : (q : ℕ) (gone : Bool) → SameOrTaken (row_at s q) (cond gone (killed_row Taken) (row_at s q))
      go q true = inr refl
      go q false = inl refl

-- ---- the row that asks

-- a pin that is at least as strong as one that is asked for
strength_pin : (mode : Mode) (p : Pin) → strength (pin_of mode) ≤ strength p → is_pin p ≡ true
strength_pin Mode.Read Absent h = absurd (omega arith)
strength_pin Mode.Write Absent h = absurd (omega arith)
strength_pin Mode.Read Unpinned h = absurd (omega arith)
strength_pin Mode.Write Unpinned h = absurd (omega arith)
strength_pin mode Read h = refl
strength_pin mode Write h = refl

-- what a served request answers, and what its row then is and has
pub data Own (row page : ℕ) (mode : Mode) (o : Outcome) : Type 0 where
  own_waits : o.answer ≡ Wait → (row_at o.state row).condition ≡ Waiting page mode → Own row page mode o
  own_ready : (slot : ℕ) (back : Option ℕ) → o.answer ≡ Ready slot back → (row_at o.state row).condition ≡ Idle
      → PinnedFor o.state mode (record { row = row; slot = slot; page = page; back = back }) → Own row page mode o
  own_fetch : (due slot : ℕ) (back : Option ℕ) → o.answer ≡ Fetch due slot back → (row_at o.state row).condition ≡ Fetching due
      → PinnedFor o.state mode (record { row = row; slot = slot; page = page; back = back }) → Own row page mode o

wait_own : (s : State) → Sized s → (row : ℕ) → row < 32 → (page : ℕ) (mode : Mode) → Own row page mode (waiting s row page mode)
unfolding waiting
wait_own s z row b page mode =
    own_waits refl (ap (λ (y : Row). y.condition) (row_same s z row (record { condition = Waiting page mode; deadline = (row_at s row).deadline }) b))

grant_own : (s : State) (row page : ℕ) (mode : Mode) → row < 32 → (o : Outcome) → Grant s row page mode o → Own row page mode o
grant_own s row page mode b o g =
    granted_answer_lem g.before row g.slot mode g.arrival g.back o.answer (ap (λ (x : Outcome). x.answer) (sym g.same))
    (λ q k. let i = (grant_ready s row page mode b o g g.slot g.back k).1 in own_ready g.slot g.back k i (listed (rw i)))
    (λ q k. let i = (grant_fetch s row page mode b o g g.arrival g.slot g.back k).1 in own_fetch g.arrival g.slot g.back k i (listed (rw i)))
  where
    listed : is_idle_or_fetching (row_at o.state row).condition ≡ true → PinnedFor o.state mode (record { row = row; slot = g.slot; page = page; back = g.back })
    listed i =
        let p = own_pin s row page mode b o g in (
          record {
            row_is = b;
            condition_is = i;
            slot_is = g.ground.slot_is;
            pins_it = strength_pin mode (holding_at o.state g.slot row).pin p;
            has_it = own_page s row page mode b o g;
          },
          p,
        )

-- ---- of a sound state

module _ (s : State) (sound-state : sound s ≡ true) (row : ℕ) (b : row < 32) (page : ℕ) (mode : Mode) where
  z : Sound s
  z = facts s sound-state

  served_rows : Rows s (served s row page mode).state row
  unfolding pinners_killed
  served_rows = go (served s row page mode) (serving s row page mode)
    where
      go : (o : Outcome) → Serving s row page mode o → Rows s o.state row
      go o (waits slot e v w q) = rw q (wait_rows s z.sized row b page mode)
      go o (waits_g e c q) = rw q (wait_rows s z.sized row b page mode)
      go o (joins slot arrival some e mine q) =
          let g = killed_ground s z some page slot e in
          rw q (grant_rows s z some row slot b g.slot_is (killed some Taken s) g.sized (λ r. refl) mode arrival None mine)
      go o (fills slot e c q) =
          let x = chosen_free s row b z slot c in
          let k : State = killed (pins s slot) Taken s in
          let f = freed s z slot x.0 in
          let g = filled_ground s z page slot (level_of row) x.0 in
          rw q (grant_rows s z (pins s slot) row slot b g.slot_is (filled k slot page (level_of row)) g.sized
          (filled_row k f.sized f.most slot page (level_of row) f.there) mode (s.clock + s.delay) (write_back (slot_at (pinners_killed s slot) slot)) x.1)

  -- every other row stays as it was, or is killed as taken
  pub served_others : (q : ℕ) → q < 32 → (q ≡ row → ⊥) → SameOrTaken (row_at s q) (row_at (served s row page mode).state q)
  served_others = served_rows.others

  -- its own row keeps its deadline
  pub served_deadline : (row_at (served s row page mode).state row).deadline ≡ (row_at s row).deadline
  served_deadline = served_rows.deadline

  -- and waits, or is idle or fetching and has the page pinned in the slot that the answer names
  pub served_own : Own row page mode (served s row page mode)
  served_own = go (served s row page mode) (serving s row page mode)
    where
      go : (o : Outcome) → Serving s row page mode o → Own row page mode o
      go o (waits slot e v w q) = rw q (wait_own s z.sized row b page mode)
      go o (waits_g e c q) = rw q (wait_own s z.sized row b page mode)
      go o (joins slot arrival some e mine q) = grant_own s row page mode b o (grant s z row page mode b o (joins slot arrival some e mine q) (λ k. never_waits _ _ _ _ _ _ (rw q at k)))
      go o (fills slot e c q) = grant_own s row page mode b o (grant s z row page mode b o (fills slot e c q) (λ k. never_waits _ _ _ _ _ _ (rw q at k)))
