-- What the accessors of a call say of each other.
use mathlib.Core.Path.{◌≡◌, refl, sym}
use mathlib.Core.Bool.{true, false}
use Prim.Native.Nat.{ℕ, ◌<◌}
use native.Mathlib.Omega.{arith}
use borrow.Author.Tests.{eqb-true, leb-false}
use Rattle.seq.proofs.Tests.{true_false, and_right, or_false, or_true_right}
use Rattle.model.specs.declared.Call.{Call}
use Rattle.model.specs.declared.Call.TheVariants.{Start, Begin, Request, Unpin, End, Tick, Look, View, Count, Borders}
use Rattle.model.specs.declared.Mode.{Mode}
use Rattle.model.specs.Parties.{level_of}
use Rattle.rules.specs.Content.{fields, is_start, is_request, is_tick, is_reading, is_servers, is_made_up_to}
use Rattle.rules.specs.Requests.{Asks, Names}
use Rattle.rules.specs.Secrecy.{is_kept, is_question}

-- a question is kept
pub question_kept : (L : ℕ) (c : Call) → is_question L c ≡ true → is_kept L c ≡ true
unfolding is_question is_kept
question_kept L c e = or_true_right (is_tick c) (is_made_up_to L c) (and_right (is_reading c) (is_made_up_to L c) e)

-- a call that is not kept is no tick, and if it is not the server's, its level is above the clearance
pub unkept : (L : ℕ) (c : Call) → is_kept L c ≡ false → (is_tick c ≡ false) × (is_servers c ≡ false → L < (fields c).level)
unfolding is_kept
unkept L c k =
    let p = or_false (is_tick c) (is_made_up_to L c) k in
    (p.0, λ e. leb-false (fields c).level L (rw e at p.1))

-- a start is known by its kind
pub start_is : (c : Call) → is_start c ≡ true → c ≡ Start (fields c).slots (fields c).delay
start_is (Start slots delay) e = refl
start_is (Begin level number deadline) e = true_false (sym e)
start_is (Request level number page mode) e = true_false (sym e)
start_is (Unpin level number page) e = true_false (sym e)
start_is (End level number) e = true_false (sym e)
start_is (Tick room) e = true_false (sym e)
start_is (Look level number) e = true_false (sym e)
start_is (View level page) e = true_false (sym e)
start_is (Count level) e = true_false (sym e)
start_is (Borders first second third) e = true_false (sym e)

-- a request is not the server's, and changes the state
pub request_own : (c : Call) → is_request c ≡ true → (is_servers c ≡ false) × (is_reading c ≡ false)
request_own c q = rw (eqb-true (fields c).kind 2 q) (refl, refl)

module _ (c : Call) (row page : ℕ) (mode : Mode) where
  pub asks_names : Asks c row page mode → Names c row
  asks_names a = record { kind = rw a.kind; row_is = a.row_is }

  -- the row of a request that is not kept is above the clearance
  pub asks_above : (L : ℕ) → is_kept L c ≡ false → Asks c row page mode → L < level_of row
  asks_above L k a = omega (arith, (unkept L c k).1 (request_own c a.kind).0, a.number_most, a.row_is)
