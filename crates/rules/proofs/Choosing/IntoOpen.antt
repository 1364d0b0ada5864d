-- A request for a page that no row up to L holds, where a slot is open to L: what L sees gains the requester's holding and nothing else changes.
use mathlib.Core.Path.{◌≡◌, refl, sym, ◌∙◌, ap, subst}
use mathlib.Core.Bool.{Bool, true, false, cond}
use Prim.Native.Nat.{ℕ, ◌<◌, ◌≤◌}
use native.Mathlib.Omega.{arith}
use Rattle.seq.specs.declared.Found.{Found}
use Rattle.seq.specs.declared.Found.TheVariants.{At, Nowhere}
use Rattle.model.specs.declared.Mode.{Mode}
use Rattle.model.specs.declared.Outcome.{Outcome}
use Rattle.model.specs.declared.Holding.{Holding}
use Rattle.model.specs.declared.State.{State}
use Rattle.model.specs.Parties.{level_of}
use Rattle.model.specs.State.{empty_holding, row_at, slot_at, holding_at}
use Rattle.model.specs.Words.{has_page, is_held, pins, seen, slot_of}
use Rattle.model.proofs.ContentLaws.{page_has}
use Rattle.model.proofs.PinLaws.{not_pinned}
use Rattle.model.proofs.SeenLaws.{none_seen, not_seen, seen_lower}
use Rattle.rules.specs.Choice.{chosen}
use Rattle.rules.specs.Calls.{into_slot, unseen_at, served_at, served}
use Rattle.rules.specs.SoundFacts.{Sound}
use Rattle.rules.specs.Alike.{holding_on}
use Rattle.rules.proofs.Leaves.PageLaws.{finds, on_slot}
use Rattle.rules.proofs.Same.SamePages.{no_hit}
use Rattle.rules.proofs.Choosing.ChoiceOpen.{chosen_open}
use Rattle.rules.proofs.Choosing.IntoGain.{Gains, gains_as}
use Rattle.rules.proofs.Choosing.IntoGrant.{hidden_gains}
use Rattle.rules.proofs.Choosing.IntoFill.{left_row, left_holding, into_gains}

-- no row up to L holds the page
abbrev pub Nobody : ℕ → State → ℕ → Type 0
Nobody L s page = (r : ℕ) → r < 32 → level_of r ≤ L → is_held (holding_on s page r).pin ≡ false

-- the slot that has such a page is not seen
pub nobody_seen : (L : ℕ) (s : State) (page i : ℕ) → Nobody L s page → slot_of s page ≡ At i → seen s L i ≡ false
nobody_seen L s page i nobody e = none_seen s L i (λ r b l. sym (ap (λ (x : Holding). is_held x.pin) (on_slot s page i r e)) ∙ nobody r b l)

-- a request, by where its page is
pub served_absent : (s : State) (me page : ℕ) (mode : Mode) → slot_of s page ≡ Nowhere → served s me page mode ≡ into_slot (chosen s me) s me page mode
unfolding served
served_absent s me page mode e = ap (λ (f : Found). served_at f s me page mode) e

pub served_unseen : (s : State) (me page : ℕ) (mode : Mode) (i : ℕ) → slot_of s page ≡ At i → seen s (level_of me) i ≡ false → level_of me ≤ 2 → served s me page mode ≡ unseen_at (At i) s me page mode
unfolding served
served_unseen s me page mode i e h l =
    ap (λ (f : Found). served_at f s me page mode) e
    ∙ rw (h, no_hit s me i l)

module _ (L : ℕ) (s : State) (z : Sound s) (me page : ℕ) (mode : Mode) (most : L ≤ 2) (r : me < 32) (low : level_of me ≤ L) (nobody : Nobody L s page) where
  -- taking a slot that is open to L takes nothing from the rows up to L
  module _ (i : ℕ) (b : i < s.size) (o : seen s L i ≡ false) where
    no_pin : (q : ℕ) → q < 32 → level_of q ≤ L → pins s i q ≡ false
    no_pin q h l = not_pinned (holding_at s i q).pin (not_seen s L i q o h l)

    same_row : (q : ℕ) → q < 32 → level_of q ≤ L → left_row s i q ≡ row_at s q
    same_row q h l = rw (no_pin q h l)

    same_holding : (other q : ℕ) → q < 32 → level_of q ≤ L → left_holding s i other q ≡ holding_on s other q
    same_holding other q h l = rw (no_pin q h l) (go (has_page other (slot_at s i).content) refl)
      where
        go : (x : Bool) → has_page other (slot_at s i).content ≡ x → cond x empty_holding (holding_on s other q) ≡ holding_on s other q
        go false e = refl
        go true e =
            let f = page_has other (slot_at s i).content e in
            sym (on_slot s other i q (finds s z other i (omega (arith, z.size_most)) f.0 f.1)
            ∙ z.unheld i q (omega (arith, z.size_most)) h (not_seen s L i q o h l))

    open_into : slot_of s page ≡ Nowhere → Gains L s me page mode (row_at s) (holding_on s) (into_slot (At i) s me page mode)
    open_into absent =
        gains_as L s me page mode (left_row s i) (row_at s) (left_holding s i) (holding_on s) (into_slot (At i) s me page mode) r low same_row same_holding
        (into_gains L s z me i page r low b absent mode)

  pub open_gains : (x : ℕ) → x < s.size → seen s L x ≡ false → Gains L s me page mode (row_at s) (holding_on s) (served s me page mode)
  open_gains x b o = go (slot_of s page) refl
    where
      by : (u : Outcome) → served s me page mode ≡ u → Gains L s me page mode (row_at s) (holding_on s) u → Gains L s me page mode (row_at s) (holding_on s) (served s me page mode)
      by u e g = subst (λ (v : Outcome). Gains L s me page mode (row_at s) (holding_on s) v) (sym e) g

      go : (f : Found) → slot_of s page ≡ f → Gains L s me page mode (row_at s) (holding_on s) (served s me page mode)
      go Nowhere e =
          let k = chosen_open s z L me low x b o in
          by (into_slot (At k.0) s me page mode) (served_absent s me page mode e ∙ ap (λ (f : Found). into_slot f s me page mode) k.1)
          (open_into k.0 k.2.0 k.2.1 e)
      go (At i) e =
          let h = nobody_seen L s page i nobody e in
          by (unseen_at (At i) s me page mode) (served_unseen s me page mode i e (seen_lower s L (level_of me) i low h) (omega arith))
          (hidden_gains L s z me i page r low e h mode)
