-- A change made in place: the holdings of the marked rows go, and then those of one slot are put.
use mathlib.Core.Path.{◌≡◌, ◌∙◌, sym, ap}
use mathlib.Core.Bool.{Bool, cond, ◌&&◌}
use mathlib.Core.List.{List}
use Prim.Native.Nat.{ℕ, ◌/◌, ◌%◌, ◌<◌}
use lib.Dec.{eqb, ltb}
use lib.ListN.{length, get_or}
use lib.Seq.{ext_get_or}
use Rattle.seq.specs.Each.{each}
use Rattle.seq.proofs.EachLaws.{each_length, each_at}
use Rattle.model.proofs.ElementLaws.{each_is}
use Rattle.model.specs.State.{empty_holding}
use Rattle.model.specs.Inner.Changed.{marked, rows_dropped, held_put, holding_after, changed, LeavesSetting}
use Rattle.model.specs.declared.Holding.{Holding}
use Rattle.model.specs.declared.Change.{Change}
use Rattle.model.specs.declared.State.{State}

-- each of the 2,048 holdings is replaced by a function of its place and itself
pub record Replaced (f : ℕ → Holding → Holding) (old new : List Holding) : Type 0 where
  pub long : length new ≡ 2048
  pub at : (k : ℕ) → k < 2048 → get_or new k empty_holding ≡ f k (get_or old k empty_holding)

-- without those of a row on the slots below i, and without those of the marked rows below r
abbrev pub row_dropping : ℕ → ℕ → ℕ → Holding → Holding
row_dropping row i k h = cond (eqb (k % 32) row && ltb (k / 32) i) empty_holding h

abbrev pub rows_dropping : List Bool → ℕ → ℕ → Holding → Holding
rows_dropping gone r k h = cond (ltb (k % 32) r && marked gone (k % 32)) empty_holding h

module _ (f : ℕ → Holding → Holding) (old new : List Holding) (long : length old ≡ 2048) where
  pub replaced_each : Replaced f old new → new ≡ each f old
  replaced_each e = each_is f old new empty_holding 2048 long e.long e.at

  pub each_replaced : new ≡ each f old → Replaced f old new
  each_replaced e = record {
    long = rw e (each_length f old ∙ long);
    at = λ k b. rw e (each_at f old k empty_holding (rw long b));
  }

-- one replacement after another
each_each : (f g : ℕ → Holding → Holding) (l : List Holding) → each g (each f l) ≡ each (λ k h. g k (f k h)) l
each_each f g l =
    ext_get_or empty_holding (each g (each f l)) (each (λ k h. g k (f k h)) l) (each_length g (each f l) ∙ each_length f l ∙ sym (each_length (λ k h. g k (f k h)) l))
    (λ j h.
    let m : j < length l = rw (each_length, each_length) at h in
    each_at g (each f l) j empty_holding (rw each_length m) ∙ ap (g j) (each_at f l j empty_holding m) ∙ sym (each_at (λ k x. g k (f k x)) l j empty_holding m))

pub changed_is : (s : State) (c : Change) (mid new : List Holding) → LeavesSetting s c → mid ≡ each (rows_dropped c.gone) s.holdings → new ≡ each (held_put c.slot c.held) mid
    → record { size = s.size; delay = s.delay; clock = c.clock; rows = c.rows; slots = c.slots; holdings = new; borders = s.borders; begun = s.begun; places = s.places } ≡ changed s c
unfolding changed holding_after
changed_is s c mid new g d e =
    let h : new ≡ each (holding_after c) s.holdings = e ∙ ap (each (held_put c.slot c.held)) d ∙ each_each (rows_dropped c.gone) (held_put c.slot c.held) s.holdings in
    rw (h, g.0, g.1, g.2)
