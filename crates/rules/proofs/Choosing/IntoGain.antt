-- What a clearance sees of a fetch: the requester's row and its new holding, beside what the rows and holdings were left as.
use mathlib.Core.Path.{◌≡◌, sym, ◌∙◌, ap}
use mathlib.Core.Bool.{cond, ◌&&◌}
use mathlib.Core.List.{List}
use lib.ListN.{get_or}
use Prim.Native.Nat.{ℕ, ◌+◌, ◌<◌, ◌≤◌}
use lib.Dec.{eqb}
use Rattle.model.specs.declared.Mode.{Mode}
use Rattle.std.specs.Prelude.{None}
use Rattle.model.specs.declared.Answer.TheVariants.{Fetch}
use Rattle.model.specs.declared.Condition.TheVariants.{Fetching}
use Rattle.model.specs.declared.Outcome.{Outcome}
use Rattle.model.specs.declared.Row.{Row}
use Rattle.model.specs.declared.Holding.{Holding}
use Rattle.model.specs.declared.State.{State}
use Rattle.model.specs.Parties.{level_of}
use Rattle.model.specs.State.{row_at}
use Rattle.model.specs.Words.{pin_of}
use Rattle.rules.specs.Answers.{told}
use Rattle.rules.specs.Alike.{holding_on, Alike, Same}

-- the tick when a page not seen arrives
abbrev pub due_tick : State → ℕ
due_tick s = s.clock + s.delay

abbrev pub fetching_row : ℕ → Row → Row
fetching_row due x = record { condition = Fetching due; deadline = x.deadline }

abbrev pub new_holding : State → Mode → Holding
new_holding s mode = record { pin = pin_of mode; arrival = due_tick s; touch = s.clock }

-- rows and held are what the kills and the clearing left, by row and by page and row
pub record Gains (L : ℕ) (s : State) (me page : ℕ) (mode : Mode) (rows : ℕ → Row) (held : ℕ → ℕ → Holding) (o : Outcome) : Type 0 where
  pub answer : told o.answer ≡ told (Fetch (due_tick s) 0 None)
  pub size : o.state.size ≡ s.size
  pub delay : o.state.delay ≡ s.delay
  pub clock : o.state.clock ≡ s.clock
  pub row : (r : ℕ) → r < 32 → level_of r ≤ L → row_at o.state r ≡ cond (eqb r me) (fetching_row (due_tick s) (rows me)) (rows r)
  pub places : o.state.places ≡ s.places
  pub holding : (other r : ℕ) → r < 32 → level_of r ≤ L → holding_on o.state other r ≡ cond (eqb other page && eqb r me) (new_holding s mode) (held other r)

-- two such fetches are told alike and leave alike states
pub gains_same : (L : ℕ) (s t : State) (me page : ℕ) (mode : Mode) (rows rows' : ℕ → Row) (held held' : ℕ → ℕ → Holding) (o o' : Outcome) → me < 32 → level_of me ≤ L → Alike L s t
    → ((r : ℕ) → r < 32 → level_of r ≤ L → rows r ≡ rows' r)
    → ((other r : ℕ) → r < 32 → level_of r ≤ L → held other r ≡ held' other r)
    → Gains L s me page mode rows held o → Gains L t me page mode rows' held' o'
    → Same L o o'
gains_same L s t me page mode rows rows' held held' o o' b low a f g x y =
    let due : due_tick s ≡ due_tick t = rw (a.clock, a.delay) in
    let new : new_holding s mode ≡ new_holding t mode = (λ j. record { pin = pin_of mode; arrival = due j; touch = a.clock j }) in (
      x.answer ∙ ap (λ (n : ℕ). told (Fetch n 0 None)) due ∙ sym y.answer,
      record {
        size = x.size ∙ a.size ∙ sym y.size;
        delay = x.delay ∙ a.delay ∙ sym y.delay;
        clock = x.clock ∙ a.clock ∙ sym y.clock;
        row = λ r h l.
            x.row r h l
            ∙ ap (λ (n : ℕ). cond (eqb r me) (fetching_row n (rows me)) (rows r)) due
            ∙ ap (λ (w : Row). cond (eqb r me) (fetching_row (due_tick t) w) (rows r)) (f me b low)
            ∙ ap (λ (w : Row). cond (eqb r me) (fetching_row (due_tick t) (rows' me)) w) (f r h l)
            ∙ sym (y.row r h l);
        place = λ r h l. ap (λ (p : List ℕ). get_or p r 0) x.places ∙ a.place r h l ∙ ap (λ (p : List ℕ). get_or p r 0) (sym y.places);
        holding = λ other r h l.
            x.holding other r h l
            ∙ ap (λ (w : Holding). cond (eqb other page && eqb r me) w (held other r)) new
            ∙ ap (λ (w : Holding). cond (eqb other page && eqb r me) (new_holding t mode) w) (g other r h l)
            ∙ sym (y.holding other r h l);
      },
    )

-- the same rows and holdings said otherwise
pub gains_as : (L : ℕ) (s : State) (me page : ℕ) (mode : Mode) (rows rows' : ℕ → Row) (held held' : ℕ → ℕ → Holding) (o : Outcome) → me < 32 → level_of me ≤ L
    → ((r : ℕ) → r < 32 → level_of r ≤ L → rows r ≡ rows' r)
    → ((other r : ℕ) → r < 32 → level_of r ≤ L → held other r ≡ held' other r)
    → Gains L s me page mode rows held o → Gains L s me page mode rows' held' o
gains_as L s me page mode rows rows' held held' o b low f g x = record {
  answer = x.answer;
  size = x.size;
  delay = x.delay;
  clock = x.clock;
  places = x.places;
  row = λ r h l.
      x.row r h l
      ∙ ap (λ (w : Row). cond (eqb r me) (fetching_row (due_tick s) w) (rows r)) (f me b low)
      ∙ ap (λ (w : Row). cond (eqb r me) (fetching_row (due_tick s) (rows' me)) w) (f r h l);
  holding = λ other r h l.
      x.holding other r h l
      ∙ ap (λ (w : Holding). cond (eqb other page && eqb r me) (new_holding s mode) w) (g other r h l);
}
