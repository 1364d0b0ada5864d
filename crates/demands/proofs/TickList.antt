-- Document 02, T-04, over lent areas: the bytes of the list that a call leaves, and what the entries of an accepted tick's list say.
use mathlib.Core.Path.{◌≡◌, refl, sym, ◌∙◌}
use mathlib.Core.Bool.{Bool, true, false, cond}
use mathlib.Core.List.{List, ◌++◌}
use Prim.Native.Nat.{ℕ, ◌<◌}
use native.Mathlib.Omega.{arith}
use borrow.Author.Tests.{eqb-true}
use lib.ListN.{drop}
use lib.Seq.{drop_at}
use Rattle.seq.specs.Order.{Ranked}
use Rattle.seq.proofs.Tests.{not_true_false}
use Rattle.model.specs.declared.Answer.TheVariants.{Clock}
use Rattle.model.specs.declared.Call.{Call}
use Rattle.model.specs.declared.Call.TheVariants.{Tick}
use Rattle.model.specs.declared.State.{State}
use Rattle.model.specs.State.{row_at}
use Rattle.model.specs.Words.{outranks}
use Rattle.rules.specs.Answers.{word, is_clock}
use Rattle.rules.specs.Listed.{is_idle_or_fetching, Listed, GrantedFor, WaitedFor, EachFill, HasRow, OnceEach, RankedFills}
use Rattle.rules.specs.ListRead.{fills_in}
use Rattle.rules.specs.Refusals.{is_waiting}
use Rattle.rules.specs.Calls.{three_steps}
use Rattle.rules.specs.Requests.{TriedOn}
use Rattle.rules.specs.Run.{fills_of}
use Rattle.rules.specs.Tries.{waiters, list_bytes}
use Rattle.rules.proofs.Leaves.ListLaws.{fills_most, list_long, list_read}
use Rattle.rules.proofs.Leaves.TryLaws.{waiters_have, has_tried}
use Rattle.rules.proofs.Promises.Filled.{ranked}
use Rattle.rules.proofs.Promises.Deadlines.{stepped}
use Rattle.rules.proofs.Promises.TickFills as States
use Rattle.area.specs.Layout.{decoded}
use Rattle.sabre.specs.Lent.{answer_on, is_refused, area_after, list_after}
use Rattle.demands.proofs.Steps.{tick_on}

-- ---- the bytes

-- a refused call leaves every byte of the list
pub refused_list : (a : List ℕ) (c : Call) (list : List ℕ) → is_refused (answer_on a c) ≡ true → list_after a c list ≡ list
unfolding list_after
refused_list a c list e = rw (not_true_false (is_clock (answer_on a c)) (λ k. let n = sym (eqb-true (word (answer_on a c)) 0 e) ∙ eqb-true (word (answer_on a c)) 8 k in absurd (omega arith)))

-- the bytes past 256 stay, whatever the call
pub past_list : (a : List ℕ) (c : Call) (list : List ℕ) → drop 256 (list_after a c list) ≡ drop 256 list
unfolding list_after
past_list a c list = go (is_clock (answer_on a c))
  where
    go : (b : Bool) → drop 256 (cond b (list_bytes (fills_of (decoded a) c) ++ drop 256 list) list) ≡ drop 256 list
    go true = drop_at (list_bytes (fills_of (decoded a) c)) (drop 256 list) 256 (list_long (fills_of (decoded a) c) (fills_most (decoded a) c))
    go false = refl

-- ---- the tries of a tick on any area, after its three steps

-- each row that then waits is tried
pub tried_all : (a : List ℕ) (row : ℕ) → row < 32 → is_waiting (row_at (three_steps (decoded a)) row).condition ≡ true
    → (u : State) × TriedOn (waiters (three_steps (decoded a))) (three_steps (decoded a)) u row
tried_all a row b w = let s = three_steps (decoded a) in has_tried (waiters s) s row (waiters_have s row b w)

-- ---- an accepted tick

module _ (a : List ℕ) (room clock : ℕ) (e : answer_on a (Tick room) ≡ Clock clock) where
  -- a row is tried a single time, best priority first: each row outranks every later one
  pub tried_in_order : Ranked (outranks (three_steps (decoded a))) (waiters (three_steps (decoded a)))
  tried_in_order =
      let x = tick_on a room clock e in
      ranked (three_steps (decoded a)) (stepped (decoded a) x.sound_state room clock x.answer)

  -- the first 256 bytes of the list are those of the entries, and zero after them
  pub list_left : (list : List ℕ) → list_after a (Tick room) list ≡ list_bytes (fills_of (decoded a) (Tick room)) ++ drop 256 list
  unfolding list_after word
  list_left list = rw e

  -- read back, the bytes of the list say the fills of the tick, in turn
  pub list_says : (list : List ℕ) → fills_in (list_after a (Tick room) list) ≡ fills_of (decoded a) (Tick room)
  list_says list = rw (list_left list) (list_read (fills_of (decoded a) (Tick room)) (drop 256 list) (fills_most (decoded a) (Tick room)))

  -- the row of every entry had better priority before the tick than the row of each later one
  pub listed_in_order : RankedFills (outranks (decoded a)) (fills_of (decoded a) (Tick room))
  listed_in_order = let x = tick_on a room clock e in States.listed_in_order (decoded a) x.sound_state room clock x.answer

  -- after the tick each entry's row is idle or fetching and pins the slot that the entry names, which has the entry's page
  pub listed_holds : EachFill (Listed (decoded (area_after a (Tick room)))) (fills_of (decoded a) (Tick room))
  listed_holds = let x = tick_on a room clock e in rw x.left (States.listed_holds (decoded a) x.sound_state room clock x.answer)

  -- and its pin is the one that it waited for, or a stronger one
  pub listed_granted : EachFill (GrantedFor (decoded a) (decoded (area_after a (Tick room)))) (fills_of (decoded a) (Tick room))
  listed_granted = let x = tick_on a room clock e in rw x.left (States.listed_granted (decoded a) x.sound_state room clock x.answer)

  -- no row has two entries
  pub listed_once : OnceEach (fills_of (decoded a) (Tick room))
  listed_once = let x = tick_on a room clock e in States.listed_once (decoded a) x.sound_state room clock x.answer

  -- each entry's row waited for the entry's page before the tick
  pub listed_waited : EachFill (WaitedFor (decoded a)) (fills_of (decoded a) (Tick room))
  listed_waited = let x = tick_on a room clock e in States.listed_waited (decoded a) x.sound_state room clock x.answer

  -- every row that the tick took from waiting to idle or fetching has an entry
  pub listed_all : (row : ℕ) → row < 32 → is_waiting (row_at (decoded a) row).condition ≡ true → is_idle_or_fetching (row_at (decoded (area_after a (Tick room))) row).condition ≡ true
      → HasRow row (fills_of (decoded a) (Tick room))
  listed_all row b w = let x = tick_on a room clock e in rw x.left (States.listed_all (decoded a) x.sound_state room clock x.answer row b w)
