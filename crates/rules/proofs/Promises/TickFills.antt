-- What the list of an accepted tick says of the states before and after the tick.
use mathlib.Core.Path.{◌≡◌, refl, sym, ◌∙◌, ap}
use mathlib.Core.Bool.{Bool, true, false, cond}
use Prim.Native.Nat.{ℕ, ◌+◌, ◌<◌}
use lib.Dec.{leb}
use Rattle.seq.proofs.Tests.{true_false}
use Rattle.model.specs.declared.Answer.TheVariants.{Clock}
use Rattle.model.specs.declared.Call.TheVariants.{Tick}
use Rattle.model.specs.declared.Cause.TheVariants.{Late}
use Rattle.model.specs.declared.Condition.{Condition}
use Rattle.model.specs.declared.Condition.TheVariants.{Free, Idle, Fetching, Waiting, Killed}
use Rattle.model.specs.declared.Mode.{Mode}
use Rattle.model.specs.declared.Row.{Row}
use Rattle.model.specs.declared.State.{State}
use Rattle.model.specs.State.{row_at}
use Rattle.model.specs.Words.{outranks}
use Rattle.model.specs.Changes.{killed_row}
use Rattle.model.proofs.PriorityLaws.{outranks_kept}
use Rattle.rules.specs.Answers.{word}
use Rattle.rules.specs.Calls.{delivered, delivered_row, is_late, three_steps}
use Rattle.rules.specs.Listed.{is_idle_or_fetching, Listed, GrantedFor, WaitedFor, EachFill, HasRow, OnceEach, RankedFills}
use Rattle.rules.specs.Refusals.{is_waiting}
use Rattle.rules.specs.Run.{outcome, fills_of}
use Rattle.rules.specs.Sound.{sound}
use Rattle.rules.specs.Tries.{Fill, all_tried}
use Rattle.rules.proofs.Facts.SoundFacts.{facts}
use Rattle.rules.proofs.Leaves.TickLaws.{later, ticked_row, ticked_places, ticked_live}
use Rattle.rules.proofs.Promises.Deadlines.{ticked_is, stepped, late_stays}
use Rattle.rules.proofs.Promises.FillLists.{each_fill, each_later}
use Rattle.rules.proofs.Promises.Filled.{fills_granted, fills_in_order, fills_once, fills_all}

-- a row that waits after the steps waited before them
delivered_waits : (clock : ℕ) (x : Condition) (page : ℕ) (mode : Mode) → delivered clock x ≡ Waiting page mode → x ≡ Waiting page mode
delivered_waits clock Free page mode e = e
delivered_waits clock Idle page mode e = true_false (cc)
delivered_waits clock (Fetching due) page mode e = go (leb due clock) e
  where
    go : (b : Bool) → cond b Idle (Fetching due) ≡ Waiting page mode → Fetching due ≡ Waiting page mode
    go true q = true_false (cc)
    go false q = q
delivered_waits clock (Waiting p m) page mode e = e
delivered_waits clock (Killed cause) page mode e = e

pub late_waits : (late : Bool) (clock : ℕ) (x : Row) (page : ℕ) (mode : Mode) → (cond late (killed_row Late) (delivered_row clock x)).condition ≡ Waiting page mode → x.condition ≡ Waiting page mode
unfolding delivered_row
late_waits true clock x page mode e = true_false (cc)
late_waits false clock x page mode e = delivered_waits clock x.condition page mode e

-- a waiting row waits after the steps, or is late
still_waits : (late : Bool) (clock : ℕ) (x : Row) → is_waiting x.condition ≡ true → late ≡ false → is_waiting (cond late (killed_row Late) (delivered_row clock x)).condition ≡ true
unfolding delivered_row
still_waits true clock x w e = true_false e
still_waits false clock x w e = go x.condition w
  where
    go : (c : Condition) → is_waiting c ≡ true → is_waiting (delivered clock c) ≡ true
    go Free h = h
    go Idle h = h
    go (Fetching due) h = true_false (sym h)
    go (Waiting page mode) h = refl
    go (Killed cause) h = h

module _ (s : State) (z : sound s ≡ true) (room clock : ℕ) (accepted : (outcome s (Tick room)).answer ≡ Clock clock) where
  abbrev u : State
  u = three_steps s

  y : sound u ≡ true
  y = stepped s z room clock accepted

  pub listed : fills_of s (Tick room) ≡ (all_tried u).fills
  unfolding fills_of word
  listed = rw accepted

  after : (outcome s (Tick room)).state ≡ (all_tried u).state
  after = (ticked_is s z room clock accepted).0

  -- each entry's row waited for the entry's page before the tick, and is granted it after the tick
  pub listed_granted : EachFill (GrantedFor s (outcome s (Tick room)).state) (fills_of s (Tick room))
  listed_granted = rw (listed, after)
      (each_fill (GrantedFor u (all_tried u).state) (GrantedFor s (all_tried u).state)
      (λ f h. (
        h.0,
        late_waits (is_late (later s) f.row) (s.clock + 1) (row_at s f.row) f.page h.0
            (sym (ap (λ (x : Row). x.condition) (ticked_row s (facts s z).sized f.row h.2.0.row_is)) ∙ h.1),
        h.2,
      ))
      (all_tried u).fills (fills_granted u y))

  -- so it is idle or fetching, and pins the slot of the entry, which has its page
  pub listed_holds : EachFill (Listed (outcome s (Tick room)).state) (fills_of s (Tick room))
  listed_holds = each_fill (GrantedFor s (outcome s (Tick room)).state) (Listed (outcome s (Tick room)).state) (λ f h. h.2.0) (fills_of s (Tick room)) listed_granted

  pub listed_waited : EachFill (WaitedFor s) (fills_of s (Tick room))
  listed_waited = each_fill (GrantedFor s (outcome s (Tick room)).state) (WaitedFor s) (λ f h. (h.0, h.1)) (fills_of s (Tick room)) listed_granted

  -- the row of every entry had better priority before the tick than the row of each later one
  pub listed_in_order : RankedFills (outranks s) (fills_of s (Tick room))
  listed_in_order = rw listed
      (each_later (GrantedFor u (all_tried u).state) (λ f g. outranks u f.row g.row ≡ true) (λ f g. outranks s f.row g.row ≡ true)
      (λ f g h k o. outranks_kept s u f.row g.row (sym (ticked_places s (facts s z).sized)) (deadline f h) (deadline g k) ∙ o)
      (all_tried u).fills (fills_granted u y) (fills_in_order u y))
    where
      deadline : (f : Fill) → GrantedFor u (all_tried u).state f → (row_at s f.row).deadline ≡ (row_at u f.row).deadline
      deadline f h = sym (ticked_live s (facts s z).sized f.row h.2.0.row_is (rw h.1)).1

  -- no row has two entries
  pub listed_once : OnceEach (fills_of s (Tick room))
  listed_once = rw listed (fills_once u y)

  -- every row that the tick took from waiting to idle or fetching has an entry
  pub listed_all : (row : ℕ) → row < 32 → is_waiting (row_at s row).condition ≡ true → is_idle_or_fetching (row_at (outcome s (Tick room)).state row).condition ≡ true
      → HasRow row (fills_of s (Tick room))
  listed_all row b w i = rw listed (go (is_late (later s) row) refl)
    where
      go : (late : Bool) → is_late (later s) row ≡ late → HasRow row (all_tried u).fills
      go true q = true_false (sym (rw (late_stays s z room clock accepted row b q) at i))
      go false q =
          fills_all u y row b
          (ap (λ (x : Row). is_waiting x.condition) (ticked_row s (facts s z).sized row b) ∙ still_waits (is_late (later s) row) (s.clock + 1) (row_at s row) w q) (rw after at i)
