-- A request that is not told to wait is granted on a state whose slot has the page: what its answer says of the next state.
use mathlib.Core.Path.{◌≡◌, refl, sym, ◌∙◌, ap}
use mathlib.Core.Bool.{Bool, true, false, cond}
use Prim.Native.Nat.{ℕ, ◌+◌, ◌<◌, ◌≤◌}
use native.Mathlib.Omega.{arith}
use borrow.Author.Tests.{leb-false, ltb-false, eq-eqb}
use lib.Dec.{leb, ltb}
use Rattle.seq.specs.declared.Found.TheVariants.{At}
use Rattle.seq.proofs.Tests.{true_false}
use Rattle.model.specs.declared.Answer.{Answer}
use Rattle.model.specs.declared.Answer.TheVariants.{Ready, Fetch, Wait}
use Rattle.std.specs.Prelude.{Option, None}
use Rattle.model.specs.declared.Cause.TheVariants.{Taken}
use Rattle.model.specs.declared.Condition.TheVariants.{Idle, Fetching}
use Rattle.model.specs.declared.Holding.{Holding}
use Rattle.model.specs.declared.Mode.{Mode}
use Rattle.model.specs.declared.Outcome.{Outcome}
use Rattle.model.specs.declared.Pin.{Pin}
use Rattle.model.specs.declared.Row.{Row}
use Rattle.model.specs.declared.State.{State}
use Rattle.model.specs.Parties.{level_of}
use Rattle.model.specs.State.{row_at, slot_at, holding_at}
use Rattle.model.specs.Words.{has_page, is_held, pin_of, strength, stronger, pins, slot_of}
use Rattle.model.specs.Changes.{killed}
use Rattle.model.specs.Ranges.{Sized}
use Rattle.model.proofs.ChangeLaws.{killed_clock, sized_killed}
use Rattle.rules.specs.Calls.{held_with, waiting, granted, pinners_killed, write_back, filled}
use Rattle.rules.specs.SoundFacts.{Sound}
use Rattle.rules.proofs.Leaves.PageLaws.{found_has, killed_page}
use Rattle.rules.proofs.Leaves.GrantLaws.{granted_row, granted_holding, granted_row_lem, granted_holding_lem}
use Rattle.rules.proofs.Leaves.FillLaws.{sized_filled, filled_clock, filled_has, freed}
use Rattle.rules.proofs.Promises.Serving.{Serving, waits, waits_g, joins, fills}
use Rattle.rules.proofs.Stays.StaysChoice.{chosen_free}
use Rattle.rules.proofs.Promises.GrantBooks.{granted_booked}

-- the state on which a page is granted, made from s
pub record Ground (s u : State) (page slot : ℕ) : Type 0 where
  pub sized : Sized u
  pub clock : u.clock ≡ s.clock
  pub slot_is : slot < 64
  pub has_it : has_page page (slot_at u slot).content ≡ true

pub killed_ground : (s : State) → Sound s → (some : ℕ → Bool) (page slot : ℕ) → slot_of s page ≡ At slot → Ground s (killed some Taken s) page slot
killed_ground s z some page slot e =
    let f = found_has s page slot e in
    let b : slot < 64 = omega (arith, f.0, z.size_most) in
    record {
      sized = sized_killed some s z.sized Taken;
      clock = killed_clock some Taken s;
      slot_is = b;
      has_it = killed_page some s z.sized z.size_most Taken page slot b ∙ f.1;
    }

pub filled_ground : (s : State) → Sound s → (page slot level : ℕ) → slot < s.size → Ground s (filled (pinners_killed s slot) slot page level) page slot
unfolding pinners_killed
filled_ground s z page slot level h =
    let k : State = killed (pins s slot) Taken s in
    let f = freed s z slot h in
    record {
      sized = sized_filled k f.sized f.most slot page level f.there;
      clock = filled_clock k f.sized f.most slot page level f.there ∙ killed_clock (pins s slot) Taken s;
      slot_is = omega (arith, z.size_most);
      has_it = filled_has k f.sized f.most slot page level f.there;
    }

pub record Grant (s : State) (row page : ℕ) (mode : Mode) (o : Outcome) : Type 0 where
  pub before : State
  pub slot : ℕ
  pub arrival : ℕ
  pub back : Option ℕ
  pub ground : Ground s before page slot
  pub same : o ≡ granted before row slot mode arrival back

pub grant : (s : State) → Sound s → (row page : ℕ) (mode : Mode) → row < 32 → (o : Outcome) → Serving s row page mode o → (o.answer ≡ Wait → ⊥) → Grant s row page mode o
unfolding waiting
grant s z row page mode b o (waits slot e v m q) n = absurd (n (rw q))
grant s z row page mode b o (waits_g e c q) n = absurd (n (rw q))
grant s z row page mode b o (joins slot arrival some e r q) n = record { before = killed some Taken s; slot = slot; arrival = arrival; back = None; ground = killed_ground s z some page slot e; same = q }
grant s z row page mode b o (fills slot e c q) n = record {
  before = filled (pinners_killed s slot) slot page (level_of row);
  slot = slot;
  arrival = s.clock + s.delay;
  back = write_back (slot_at (pinners_killed s slot) slot);
  ground = filled_ground s z page slot (level_of row) (chosen_free s row b z slot c).0;
  same = q;
}

-- a grant answers ready or fetch
pub granted_answer_lem : {P : Type 0} (u : State) (row slot : ℕ) (mode : Mode) (arrival : ℕ) (back : Option ℕ) (a : Answer) → (granted u row slot mode arrival back).answer ≡ a
    → (leb arrival u.clock ≡ true → a ≡ Ready slot back → P) → (leb arrival u.clock ≡ false → a ≡ Fetch arrival slot back → P) → P
unfolding granted
granted_answer_lem {P} u row slot mode arrival back a e f g = go (leb arrival u.clock) refl e
  where
    go : (b : Bool) → leb arrival u.clock ≡ b → cond b (Ready slot back) (Fetch arrival slot back) ≡ a → P
    go true q k = f q (sym k)
    go false q k = g q (sym k)

pub never_waits : {P : Type 0} (u : State) (row slot : ℕ) (mode : Mode) (arrival : ℕ) (back : Option ℕ) → (granted u row slot mode arrival back).answer ≡ Wait → P
never_waits u row slot mode arrival back e = granted_answer_lem u row slot mode arrival back Wait e (λ q k. true_false (cc)) (λ q k. true_false (cc))

-- the pin asked for, or the stronger one that the row has
stronger_least : (p q : Pin) → strength q ≤ strength (stronger p q)
unfolding stronger
stronger_least p q = go (ltb (strength p) (strength q)) refl
  where
    go : (b : Bool) → ltb (strength p) (strength q) ≡ b → strength q ≤ strength (cond b q p)
    go true e = omega arith
    go false e = ltb-false (strength p) (strength q) e

pin_least : (held : Bool) (own : Holding) (pin : Pin) (arrival clock : ℕ) → strength pin ≤ strength (held_with held own pin arrival clock).pin
pin_least false own pin arrival clock = omega arith
pin_least true own pin arrival clock = stronger_least own.pin pin

module _ (s : State) (row page : ℕ) (mode : Mode) (mine : row < 32) (o : Outcome) (g : Grant s row page mode o) where
  own_row : row_at o.state row ≡ granted_row g.before row g.arrival
  own_row =
      ap (λ (x : Outcome). row_at x.state row) g.same
      ∙ granted_row_lem g.before g.ground.sized row g.slot mine g.ground.slot_is mode g.arrival g.back row
      ∙ rw (eq-eqb row row refl)

  -- the slot has the page, and the row its pin, ready or fetching
  pub own_page : has_page page (slot_at o.state g.slot).content ≡ true
  own_page =
      ap (λ (x : Outcome). has_page page (slot_at x.state g.slot).content) g.same
      ∙ (granted_booked g.before g.ground.sized row g.slot mine g.ground.slot_is mode g.arrival g.back 0 page g.slot).has_it g.ground.has_it

  pub own_holding : holding_at o.state g.slot row ≡ granted_holding g.before row g.slot mode g.arrival
  own_holding =
      ap (λ (x : Outcome). holding_at x.state g.slot row) g.same
      ∙ granted_holding_lem g.before g.ground.sized row g.slot mine g.ground.slot_is mode g.arrival g.back g.slot row mine
      ∙ rw (eq-eqb g.slot g.slot refl, eq-eqb row row refl)

  pub own_pin : strength (pin_of mode) ≤ strength (holding_at o.state g.slot row).pin
  own_pin = rw own_holding (pin_least (is_held (holding_at g.before g.slot row).pin) (holding_at g.before g.slot row) (pin_of mode) g.arrival g.before.clock)

  -- else fetching until then
  pub grant_fetch : (due slot : ℕ) (back : Option ℕ) → o.answer ≡ Fetch due slot back → (s.clock < due) × ((row_at o.state row).condition ≡ Fetching due) × (slot < 64)
  grant_fetch due slot back e =
      granted_answer_lem g.before row g.slot mode g.arrival g.back (Fetch due slot back) (ap (λ (x : Outcome). x.answer) (sym g.same) ∙ e)
      (λ q k. true_false (cc))
      (λ q k.
      let d : due ≡ g.arrival = cc in
      let t : slot ≡ g.slot = cc in
      (omega (arith, leb-false g.arrival g.before.clock q, g.ground.clock), ap (λ (x : Row). x.condition) own_row ∙ rw (q, d), rw t g.ground.slot_is))

  -- ready, the row idle: it has the page asked for, with the pin asked for or a stronger one
  pub grant_ready : (slot : ℕ) (back : Option ℕ) → o.answer ≡ Ready slot back
      → (slot < 64) × ((row_at o.state row).condition ≡ Idle) × (has_page page (slot_at o.state slot).content ≡ true)
      × (strength (pin_of mode) ≤ strength (holding_at o.state slot row).pin)
  grant_ready slot back e =
      granted_answer_lem g.before row g.slot mode g.arrival g.back (Ready slot back) (ap (λ (x : Outcome). x.answer) (sym g.same) ∙ e)
      (λ q k.
      let d : slot ≡ g.slot = cc in (
        rw d g.ground.slot_is,
        ap (λ (x : Row). x.condition) own_row ∙ rw q,
        rw d own_page,
        rw d own_pin,
      ))
      (λ q k. true_false (cc))
