-- What a value's type says of it, as `.good` and `.ok` have it, read as ranges.
use mathlib.Core.List.{List, [], ◌∷◌}
use Prim.Native.Nat.{ℕ, zero, suc, ◌<◌, ◌^◌}
use lib.Dec.{lit<}
use lib.ListN.{get_or}
use mir.Val.{Val}
use denote.Laws.{Is}
use denote.Array.{each}
use denote.Shadow.{shadow}
use denote.RattleType.{RattleType}
use denote.Builtin as builtin
use Rattle.model.specs.Ranges.{ConditionOk, ContentOk, HoldingOk, RowOk, SlotOk, BordersOk, StateOk}
use Rattle.model.specs.State.{free_row, empty_slot, empty_holding}
use Rattle.model.specs.declared.Condition as Condition'
use Rattle.model.specs.declared.Condition.TheVariants.{Free, Idle, Fetching, Waiting, Killed}
use Rattle.model.specs.declared.Content as Content'
use Rattle.model.specs.declared.Content.TheVariants.{Empty, Filled}
use Rattle.model.specs.declared.Holding as Holding'
use Rattle.model.specs.declared.Row as Row'
use Rattle.model.specs.declared.Slot as Slot'
use Rattle.model.specs.declared.Borders as Borders'
use Rattle.model.specs.declared.State as State'
use Rattle.model.specs.contracts.Condition
use Rattle.model.specs.contracts.Content
use Rattle.model.specs.contracts.Holding
use Rattle.model.specs.contracts.Row
use Rattle.model.specs.contracts.Slot
use Rattle.model.specs.contracts.Borders
use Rattle.model.specs.contracts.State

-- what holds of each element by its type, holds of the element at an index, or of the default
module _ (R : RattleType) (P : R.Denot → Type 0) (ok : (x : R.Denot) (u : Val) → Is R x (u ∷ []) → P x) (d : R.Denot) (pd : P d) where
  pub element_ok : (xs : List R.Denot) (us : List Val) (i : ℕ) → shadow (each R.Denot R.own_val xs us) → P (get_or xs i d)
  element_ok [] us i h = pd
  element_ok (x ∷ xs) [] i h = absurd h
  element_ok (x ∷ xs) (u ∷ us) zero h = ok x u h.0
  element_ok (x ∷ xs) (u ∷ us) (suc i) h = element_ok xs us i h.1

pub condition_ok : (c : Condition'.Condition) (vs : List Val) → Is Condition.the_row c vs → ConditionOk c
condition_ok Free vs h = tt
condition_ok Idle vs h = tt
condition_ok (Fetching due) vs h = h.1.1.1.1.0.1
condition_ok (Waiting page mode) vs h = h.1.1.1.1.0.1
condition_ok (Killed cause) vs h = tt

pub content_ok : (c : Content'.Content) (vs : List Val) → Is Content.the_row c vs → ContentOk c
content_ok Empty vs h = tt
content_ok (Filled page arrival dirty lowest) vs h = (h.1.1.1.1.0.1, h.1.1.1.1.1.0.1, h.1.1.1.1.1.1.1.0.1)

pub holding_ok : (h : Holding'.Holding) (vs : List Val) → Is Holding.the_row h vs → HoldingOk h
holding_ok h vs p = record { arrival = p.1.1.1.0.1; touch = p.1.1.1.1.0.1 }

pub row_ok : (r : Row'.Row) (vs : List Val) → Is Row.the_row r vs → RowOk r
row_ok r vs p = record { condition = condition_ok r.condition p.0.0 p.1.1.0; deadline = p.1.1.1.0.1 }

pub slot_ok : (t : Slot'.Slot) (vs : List Val) → Is Slot.the_row t vs → SlotOk t
slot_ok t vs p = record { content = content_ok t.content p.0.0 p.1.1.0; touch = p.1.1.1.0.1 }

pub borders_ok : (b : Borders'.Borders) (vs : List Val) → Is Borders.the_row b vs → BordersOk b
borders_ok b vs p = record { first = p.1.1.0.1; second = p.1.1.1.0.1; third = p.1.1.1.1.0.1 }

pub state_ok : (s : State'.State) (vs : List Val) → Is State.the_row s vs → StateOk s
state_ok s vs p = record {
  size = p.1.1.0.1;
  delay = p.1.1.1.0.1;
  clock = p.1.1.1.1.0.1;
  sized = record {
    rows = p.1.1.1.1.1.0.1.0.1;
    slots = p.1.1.1.1.1.1.1.0.1.0.1;
    holdings = p.1.1.1.1.1.1.1.1.0.1.0.1;
    places = p.1.1.1.1.1.1.0.1.0.1;
  };
  row = λ i. element_ok Row.the_row RowOk (λ x u. row_ok x (u ∷ [])) free_row (record { condition = tt; deadline = lit< tt }) s.rows _ i p.1.1.1.1.1.0.1.1;
  slot = λ i. element_ok Slot.the_row SlotOk (λ x u. slot_ok x (u ∷ [])) empty_slot (record { content = tt; touch = lit< tt }) s.slots _ i p.1.1.1.1.1.1.1.0.1.1;
  holding = λ i. element_ok Holding.the_row HoldingOk (λ x u. holding_ok x (u ∷ [])) empty_holding (record { arrival = lit< tt; touch = lit< tt }) s.holdings _ i p.1.1.1.1.1.1.1.1.0.1.1;
  borders = borders_ok s.borders _ p.1.1.1.1.1.1.1.1.1.0;
  place = λ i. element_ok builtin.usize (λ n. n < 2 ^ 64) (λ x u h. h.1) 0 (lit< tt) s.places _ i p.1.1.1.1.1.1.0.1.1;
}
