-- A request by a row up to L for a page that no row up to L holds: alike states give L the same answer and stay alike.
use mathlib.Core.Path.{◌≡◌, refl, sym, ◌∙◌, ap}
use mathlib.Core.Bool.{Bool, true, false, cond, ◌||◌}
use Prim.Native.Nat.{ℕ, ◌<◌, ◌≤◌}
use native.Mathlib.Omega.{arith}
use borrow.Author.Tests.{not-false}
use Rattle.seq.specs.Below.{any_below}
use Rattle.seq.specs.declared.Found.{Found}
use Rattle.seq.specs.declared.Found.TheVariants.{At, Nowhere}
use Rattle.seq.proofs.Tests.{true_false, not_true_false}
use Rattle.seq.proofs.BelowLaws.{any_hit, any_none}
use Rattle.seq.proofs.PairLaws.{Paired}
use Rattle.model.specs.declared.Mode.{Mode}
use Rattle.model.specs.declared.Cause.TheVariants.{Taken}
use Rattle.model.specs.declared.Row.{Row}
use Rattle.model.specs.declared.Holding.{Holding}
use Rattle.model.specs.declared.State.{State}
use Rattle.model.specs.Parties.{level_of}
use Rattle.model.specs.State.{empty_holding, row_at, slot_at}
use Rattle.model.specs.Words.{has_page, is_held, pins, seen, is_open, slot_of}
use Rattle.model.specs.Changes.{killed_row}
use Rattle.model.proofs.ContentLaws.{has_same}
use Rattle.model.proofs.SeenLaws.{open_seen}
use Rattle.rules.specs.Choice.{chosen}
use Rattle.rules.specs.Calls.{into_slot, served}
use Rattle.rules.specs.SoundFacts.{Sound}
use Rattle.rules.specs.Alike.{holding_on, Alike, Same}
use Rattle.rules.proofs.Same.AlikeLaws.{alike_sym}
use Rattle.rules.proofs.Leaves.PageLaws.{found_slot}
use Rattle.rules.proofs.Same.SameSlots.{SamePage, same_open}
use Rattle.rules.proofs.Same.SameChanges.{same_waiting}
use Rattle.rules.proofs.Choosing.ChoicePages.{page_pins}
use Rattle.rules.proofs.Choosing.ChoiceSame.{SeesAll, chosen_paired}
use Rattle.rules.proofs.Choosing.IntoGain.{gains_same}
use Rattle.rules.proofs.Choosing.IntoFill.{left_row, left_holding, into_gains}
use Rattle.rules.proofs.Choosing.IntoOpen.{Nobody, nobody_seen, served_absent, open_gains}

module _ (L : ℕ) (s t : State) (z : Sound s) (y : Sound t) (a : Alike L s t) (me page : ℕ) (mode : Mode) (r : me < 32) (low : level_of me ≤ L) where
  -- taking the slots of one page leaves the same to the rows up to L
  module _ (i j : ℕ) (w : SamePage L s t i j) where
    row_left : (q : ℕ) → q < 32 → level_of q ≤ L → left_row s i q ≡ left_row t j q
    row_left q h l =
        ap (λ (x : Bool). cond x (killed_row Taken) (row_at s q)) (page_pins L s t a i j w q h l)
        ∙ ap (λ (x : Row). cond (pins t j q) (killed_row Taken) x) (a.row q h l)

    holding_left : (other q : ℕ) → q < 32 → level_of q ≤ L → left_holding s i other q ≡ left_holding t j other q
    holding_left other q h l =
        ap (λ (x : Bool). cond (x || has_page other (slot_at s i).content) empty_holding (holding_on s other q)) (page_pins L s t a i j w q h l)
        ∙ ap (λ (x : Bool). cond (pins t j q || x) empty_holding (holding_on s other q)) (has_same other (slot_at s i).content (slot_at t j).content w.left_filled w.right_filled w.page)
        ∙ ap (λ (x : Holding). cond (pins t j q || has_page other (slot_at t j).content) empty_holding x) (a.holding other q h l)

  into_paired : slot_of s page ≡ Nowhere → slot_of t page ≡ Nowhere → (f g : Found) → Paired (SamePage L s t) f g → Same L (into_slot f s me page mode) (into_slot g t me page mode)
  into_paired e u Nowhere Nowhere p = same_waiting L s t z.sized y.sized a me page mode r low
  into_paired e u Nowhere (At j) p = absurd p
  into_paired e u (At i) Nowhere p = absurd p
  into_paired e u (At i) (At j) p =
      gains_same L s t me page mode (left_row s i) (left_row t j) (left_holding s i) (left_holding t j) (into_slot (At i) s me page mode) (into_slot (At j) t me page mode) r low a
      (row_left i j p) (holding_left i j p)
      (into_gains L s z me i page r low p.left e mode) (into_gains L t y me j page r low p.right u mode)

-- where L sees every slot, a page that no row up to L holds is in no slot
seen_absent : (L : ℕ) (s : State) (page : ℕ) → SeesAll L s → Nobody L s page → ((i : ℕ) → slot_of s page ≡ At i → i < s.size) → slot_of s page ≡ Nowhere
seen_absent L s page all nobody b = go (slot_of s page) refl
  where
    go : (f : Found) → slot_of s page ≡ f → slot_of s page ≡ Nowhere
    go Nowhere e = e
    go (At i) e = true_false (sym (all i (b i e)) ∙ nobody_seen L s page i nobody e)

-- a state has a slot that is open to L, or L sees every slot
none_open : (L : ℕ) (s : State) → any_below s.size (is_open s L) ≡ false → SeesAll L s
unfolding is_open
none_open L s e i b = not-false (seen s L i) (any_none (is_open s L) s.size i e b)

pub into_same : (L : ℕ) (s t : State) (me page : ℕ) (mode : Mode) → L ≤ 2 → me < 32 → level_of me ≤ L → Sound s → Sound t → Alike L s t
    → ((r : ℕ) → r < 32 → level_of r ≤ L → is_held (holding_on s page r).pin ≡ false)
    → Same L (served s me page mode) (served t me page mode)
into_same L s t me page mode most r low z y a nobody = go (any_below s.size (is_open s L)) refl
  where
    nobody' : Nobody L t page
    nobody' q h l = sym (ap (λ (x : Holding). is_held x.pin) (a.holding page q h l)) ∙ nobody q h l

    go : (b : Bool) → any_below s.size (is_open s L) ≡ b → Same L (served s me page mode) (served t me page mode)
    go true e =
        let x = any_hit (is_open s L) s.size e in
        let x' = any_hit (is_open t L) t.size (same_open L s t z y a L (omega arith) e) in
        gains_same L s t me page mode (row_at s) (row_at t) (holding_on s) (holding_on t) (served s me page mode) (served t me page mode) r low a a.row a.holding
        (open_gains L s z me page mode most r low nobody x.0 x.1 (open_seen s L x.0 x.2))
        (open_gains L t y me page mode most r low nobody' x'.0 x'.1 (open_seen t L x'.0 x'.2))
    go false e =
        let all = none_open L s e in
        let all' = none_open L t (not_true_false (any_below t.size (is_open t L)) (λ q. true_false (sym (same_open L t s y z (alike_sym a) L (omega arith) q) ∙ e))) in
        let absent = seen_absent L s page all nobody (λ i q. (found_slot s page i q).0) in
        let absent' = seen_absent L t page all' nobody' (λ i q. (found_slot t page i q).0) in
        rw (served_absent s me page mode absent, served_absent t me page mode absent')
        (into_paired L s t z y a me page mode r low absent absent' (chosen s me) (chosen t me) (chosen_paired L s t z y a all all' me r low))
