-- States alike for L stay so under the same change: a row put, rows killed or released, a page granted.
use mathlib.Core.Path.{◌≡◌, refl, sym, ◌∙◌, ap}
use mathlib.Core.Bool.{Bool, true, false, cond}
use Prim.Native.Nat.{ℕ, zero, suc, ◌<◌, ◌≤◌, ◌+◌}
use lib.Dec.{leb}
use Rattle.seq.specs.declared.Found.TheVariants.{At}
use mathlib.Core.List.{List}
use lib.ListN.{get_or, set}
use Rattle.model.proofs.PlaceLaws.{placed_at_lem, closed_at, not_free_same}
use native.Mathlib.Omega.{arith}
use Rattle.model.specs.declared.Answer.TheVariants.{Ready, Fetch}
use Rattle.std.specs.Prelude.{Option}
use Rattle.model.specs.declared.Cause.{Cause}
use Rattle.model.specs.declared.Condition.TheVariants.{Waiting}
use Rattle.model.specs.declared.Mode.{Mode}
use Rattle.model.specs.declared.Outcome.{Outcome}
use Rattle.model.specs.declared.Row.{Row}
use Rattle.model.specs.declared.State.{State}
use Rattle.model.specs.Parties.{level_of, row_of}
use Rattle.model.specs.State.{row_at, put_row, with_places}
use Rattle.model.specs.Words.{slot_of, is_free}
use Rattle.model.specs.Changes.{released, killed, closed_up}
use Rattle.model.specs.Ranges.{Sized}
use Rattle.model.proofs.StateLaws.{row_put}
use Rattle.model.proofs.ChangeLaws.{killed_row_lem}
use Rattle.rules.specs.Answers.{word, value, told}
use Rattle.rules.specs.Calls.{unless, waiting, granted, last_place}
use Rattle.rules.specs.Alike.{holding_on, Alike, Same}
use Rattle.rules.proofs.Leaves.PageLaws.{killed_on, released_on}
use Rattle.rules.proofs.Leaves.GrantLaws.{granted_row_lem, granted_on, granted_size, granted_delay, granted_clock}
use Rattle.rules.proofs.Same.SamePages.{same_holding}

-- a call that is refused in both states, or accepted in both
pub same_unless : (L : ℕ) (s t : State) (m n : ℕ) (o p : Outcome) → Alike L s t → m ≡ n → (m ≡ 0 → Same L o p) → Same L (unless m s o) (unless n t p)
same_unless L s t m n o p a e f = rw (← e) (go m f)
  where
    go : (k : ℕ) → (k ≡ 0 → Same L o p) → Same L (unless k s o) (unless k t p)
    go zero f = f refl
    go (suc k) f = (refl, a)

-- other places, the same up to L
pub same_places : (L : ℕ) (s t : State) → Alike L s t → (p q : List ℕ) → ((r : ℕ) → r < 32 → level_of r ≤ L → get_or p r 0 ≡ get_or q r 0) → Alike L (with_places s p) (with_places t q)
unfolding holding_on slot_of
same_places L s t a p q e = record { size = a.size; delay = a.delay; clock = a.clock; row = a.row; place = e; holding = a.holding }

module _ (L : ℕ) (s t : State) (y : Sized s) (z : Sized t) (alike : Alike L s t) where
  -- a row up to L takes the last place of its level, which is the same, and closes up its level's order alike
  module _ (row : ℕ) (b : row < 32) (low : level_of row ≤ L) where
    same_last : last_place s (level_of row) ≡ last_place t (level_of row)
    same_last = ap (λ (n : ℕ). n + 1) (not_free_same s t (level_of row) (λ n g. ap (λ (x : Row). is_free x.condition) (alike.row (row_of (level_of row) n) (omega arith) (omega arith))))

    pub same_placed : (r : ℕ) → r < 32 → level_of r ≤ L → get_or (set s.places row (last_place s (level_of row))) r 0 ≡ get_or (set t.places row (last_place t (level_of row))) r 0
    same_placed r h l = rw (placed_at_lem s y row (last_place s (level_of row)) r b, placed_at_lem t z row (last_place t (level_of row)) r b, same_last, alike.place r h l)

    pub same_closed : (r : ℕ) → r < 32 → level_of r ≤ L → get_or (closed_up row s.places) r 0 ≡ get_or (closed_up row t.places) r 0
    same_closed r h l = rw (closed_at s y row r h, closed_at t z row r h, alike.place row b low, alike.place r h l)

  pub same_put_row : (row : ℕ) (x x' : Row) → row < 32 → x ≡ x' → Alike L (put_row s row x) (put_row t row x')
  unfolding holding_on slot_of
  same_put_row row x x' h e = record {
    size = alike.size;
    delay = alike.delay;
    clock = alike.clock;
    row = λ r k l. rw (row_put s y row x r h, row_put t z row x' r h, e, alike.row r k l);
    place = alike.place;
    holding = alike.holding;
  }

  pub same_waiting : (row page : ℕ) (mode : Mode) → row < 32 → level_of row ≤ L → Same L (waiting s row page mode) (waiting t row page mode)
  unfolding waiting
  same_waiting row page mode h l = (refl, same_put_row row (record { condition = Waiting page mode; deadline = (row_at s row).deadline }) (record { condition = Waiting page mode; deadline = (row_at t row).deadline }) h (rw (alike.row row h l)))

  told_granted : (me i j : ℕ) (mode : Mode) (arrival : ℕ) (back back' : Option ℕ) → told (granted s me i mode arrival back).answer ≡ told (granted t me j mode arrival back').answer
  unfolding granted told word value
  told_granted me i j mode arrival back back' = rw alike.clock (go (leb arrival t.clock))
    where
      go : (b : Bool) → told (cond b (Ready i back) (Fetch arrival i back)) ≡ told (cond b (Ready j back') (Fetch arrival j back'))
      go true = refl
      go false = refl

  pub same_granted : (me page i j : ℕ) → me < 32 → level_of me ≤ L → i < 64 → j < 64 → slot_of s page ≡ At i → slot_of t page ≡ At j
      → (mode : Mode) (arrival : ℕ) (back back' : Option ℕ) → Same L (granted s me i mode arrival back) (granted t me j mode arrival back')
  unfolding granted
  same_granted me page i j h l bi bj at-s at-t mode arrival back back' = (
    told_granted me i j mode arrival back back',
    record {
      size = granted_size s y me i h bi mode arrival back ∙ alike.size ∙ sym (granted_size t z me j h bj mode arrival back');
      delay = granted_delay s y me i h bi mode arrival back ∙ alike.delay ∙ sym (granted_delay t z me j h bj mode arrival back');
      clock = granted_clock s y me i h bi mode arrival back ∙ alike.clock ∙ sym (granted_clock t z me j h bj mode arrival back');
      row = λ r k m.
          rw (granted_row_lem s y me i h bi mode arrival back r, granted_row_lem t z me j h bj mode arrival back' r, alike.clock, alike.row me h l, alike.row r k m);
      place = alike.place;
      holding = λ other r k m.
          rw (
            granted_on s y me i page h bi at-s mode arrival back other r k,
            granted_on t z me j page h bj at-t mode arrival back' other r k,
            alike.holding other r k m,
            same_holding L s t alike page i j at-s at-t me h l,
            alike.clock,
          );
    },
  )

  module _ (s-most : s.size ≤ 64) (t-most : t.size ≤ 64) (some any : ℕ → Bool) (agree : (r : ℕ) → r < 32 → level_of r ≤ L → some r ≡ any r) where
    pub same_killed : (cause : Cause) → Alike L (killed some cause s) (killed any cause t)
    unfolding killed released
    same_killed cause = record {
      size = alike.size;
      delay = alike.delay;
      clock = alike.clock;
      row = λ r h l. rw (killed_row_lem some s y cause r h, killed_row_lem any t z cause r h, agree r h l, alike.row r h l);
      place = alike.place;
      holding = λ page r h l. rw (killed_on some s y s-most cause page r h, killed_on any t z t-most cause page r h, agree r h l, alike.holding page r h l);
    }

    pub same_released : Alike L (released some s) (released any t)
    unfolding released
    same_released = record {
      size = alike.size;
      delay = alike.delay;
      clock = alike.clock;
      row = alike.row;
      place = alike.place;
      holding = λ page r h l. rw (released_on some s y s-most page r h, released_on any t z t-most page r h, agree r h l, alike.holding page r h l);
    }
