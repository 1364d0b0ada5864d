-- The slot that has the same page in an alike state; the counts of seen and of open slots agree.
use mathlib.Core.Path.{◌≡◌, refl, sym, ◌∙◌, ap}
use mathlib.Core.Bool.{true}
use Prim.Native.Nat.{ℕ, ◌+◌, ◌<◌, ◌≤◌}
use native.Mathlib.Omega.{arith}
use Rattle.seq.specs.Below.{any_below, count_below}
use Rattle.seq.specs.declared.Found.TheVariants.{At}
use Rattle.seq.proofs.CountLaws.{count_not, count_into, any_count}
use Rattle.model.specs.declared.Holding.{Holding}
use Rattle.model.specs.declared.State.{State}
use Rattle.model.specs.Parties.{level_of}
use Rattle.model.specs.State.{slot_at, holding_at}
use Rattle.model.specs.Words.{is_filled, page_in, is_held, holds, seen, is_open, slot_of}
use Rattle.model.proofs.SeenLaws.{seen_by, by_seen}
use Rattle.rules.specs.SoundFacts.{Sound, Held}
use Rattle.rules.specs.Alike.{Alike}
use Rattle.rules.proofs.Same.AlikeLaws.{alike_sym}
use Rattle.rules.proofs.Leaves.PageLaws.{found_slot, finds, on_slot, on_held}

-- slots of two states that have one page, and on it the same holdings of the rows up to L
pub record SamePage (L : ℕ) (s t : State) (i j : ℕ) : Type 0 where
  pub left : i < s.size
  pub right : j < t.size
  pub left_filled : is_filled (slot_at s i).content ≡ true
  pub right_filled : is_filled (slot_at t j).content ≡ true
  pub page : page_in (slot_at s i).content ≡ page_in (slot_at t j).content
  pub holding : (r : ℕ) → r < 32 → level_of r ≤ L → holding_at s i r ≡ holding_at t j r

pub same_page_back : (L : ℕ) (s t : State) (i j : ℕ) → SamePage L s t i j → SamePage L t s j i
same_page_back L s t i j w = record {
  left = w.right;
  right = w.left;
  left_filled = w.right_filled;
  right_filled = w.left_filled;
  page = sym w.page;
  holding = λ r b l. sym (w.holding r b l);
}

module _ (L : ℕ) (s t : State) (z : Sound s) (y : Sound t) (a : Alike L s t) where
  -- the page of a slot that a row up to L holds is in a slot of the other state
  pub same_page_slot : (i r : ℕ) → i < s.size → r < 32 → level_of r ≤ L → holds s i r ≡ true → (j : ℕ) × SamePage L s t i j
  same_page_slot i r b q l h =
      let k : Held s i r = z.held i r (omega (arith, z.size_most)) q h in
      let page = page_in (slot_at s i).content in
      let e : slot_of s page ≡ At i = finds s z page i (omega (arith, z.size_most)) k.filled refl in
      let x = on_held t page r (sym (ap (λ (w : Holding). is_held w.pin) (a.holding page r q l)) ∙ ap (λ (w : Holding). is_held w.pin) (on_slot s page i r e) ∙ h) in
      let f = found_slot t page x.0 x.1 in (
        x.0,
        record {
          left = b;
          right = f.0;
          left_filled = k.filled;
          right_filled = f.1;
          page = sym f.2;
          holding = λ o c m. sym (on_slot s page i o e) ∙ a.holding page o c m ∙ on_slot t page x.0 o x.1;
        },
      )

  -- no more slots are seen in the one than in the other
  seen_most : (M : ℕ) → M ≤ L → count_below s.size (seen s M) ≤ count_below t.size (seen t M)
  seen_most M m =
      count_into (seen s M) t.size (SamePage L s t) s.size (seen t M)
      (λ i b e.
      let x = seen_by s M i e in
      let w = same_page_slot i x.0 b x.1 (omega (arith, x.2)) x.3 in
      (w.0, w.1.right, by_seen t M w.0 x.0 x.1 x.2 (sym (ap (λ (v : Holding). is_held v.pin) (w.1.holding x.0 x.1 (omega (arith, x.2)))) ∙ x.3), w.1))
      (λ i k j b c _ _ v w. z.one_slot i k (omega (arith, z.size_most)) (omega (arith, z.size_most)) v.left_filled w.left_filled (v.page ∙ sym w.page))

open_count : (s : State) (M : ℕ) → count_below s.size (seen s M) + count_below s.size (is_open s M) ≡ s.size
unfolding is_open
open_count s M = count_not (seen s M) s.size

module _ (L : ℕ) (s t : State) (z : Sound s) (y : Sound t) (a : Alike L s t) where
  -- the count of open slots
  pub same_open_count : (M : ℕ) → M ≤ L → count_below s.size (is_open s M) ≡ count_below t.size (is_open t M)
  same_open_count M m =
      let p = seen_most L s t z y a M m in
      let q = seen_most L t s y z (alike_sym a) M m in
      omega (arith, open_count s M, open_count t M, a.size)

  -- where a slot is open to a level up to L in the one state, a slot is in the other
  pub same_open : (M : ℕ) → M ≤ L → any_below s.size (is_open s M) ≡ true → any_below t.size (is_open t M) ≡ true
  same_open M m e = any_count (is_open s M) (is_open t M) s.size t.size (same_open_count M m) e
