-- One item more in a search over a list; a search over the first items of a list; the greatest level.
use mathlib.Core.Path.{◌≡◌, refl, sym, ◌∙◌, ap}
use mathlib.Core.List.{List, [], ◌∷◌}
use mathlib.Core.Bool.{Bool, true, false, cond}
use Prim.Native.Nat.{ℕ, zero, suc, ◌+◌, ◌<◌, ◌≤◌, max}
use native.Mathlib.Omega.{arith}
use lib.Dec.{ltb}
use lib.ListN.{length, get_or, take}
use Rattle.std.specs.Prelude.{Option, Some, None, filter}
use Rattle.std.specs.List.{fold, filter_map}
use Rattle.std.proofs.Common.{add-one}
use Rattle.std.proofs.Math.Seq.{take-length}
use Rattle.std.proofs.lemmas.List.{get_or_read, get_or-take, take_more, length-take-le}
use Rattle.std.proofs.lemmas.List.Elements.{filter-append, filter_map-append}
use Rattle.std.proofs.lemmas.List.Sums.{fold-append}
use Rattle.model.specs.declared.Slot.{Slot}
use Rattle.choice.specs.declared.Holders.{Holders}
use Rattle.seq.specs.Below.{pick_below, considered, at_found}
use Rattle.seq.specs.declared.Found.{Found}
use Rattle.seq.specs.declared.Found.TheVariants.{At, Nowhere}
use Rattle.seq.proofs.PickLaws.{pick_turn, pick_same, at_same}
use Rattle.model.specs.declared.Rank.{Rank}
use Rattle.choice.specs.declared.Summary.{Summary}
use Rattle.choice.specs.Inner.Summary.{above, no_summary}
use Rattle.choice.specs.Inner.Search.{pick_in, held_so, level_at, top_from}
use Rattle.choice.proofs.SummaryLaws.{most_turn}

module _ {X : Type 0} (items : List X) (p : X → Bool) (before : X → X → Bool) (none : X) where
  -- among the first n
  abbrev pub picked : ℕ → Found
  picked n = pick_below n (λ i. p (get_or items i none)) (λ i j. before (get_or items i none) (get_or items j none))

  turn : (n : ℕ) (f g : Found) → f ≡ picked n → g ≡ considered (p (get_or items n none)) f n (λ i j. before (get_or items i none) (get_or items j none)) → g ≡ picked (n + 1)
  turn n f g e k = pick_turn (λ i. p (get_or items i none)) (λ i j. before (get_or items i none) (get_or items j none)) n f g e k

  -- an item that does not pass; the first that passes; and one that passes beside the item found before
  module _ (n : ℕ) (x : X) (h : n < length items) (at : x ≡ get_or items n x) where
    here : x ≡ get_or items n none
    here = get_or_read items n x h at none

    pub item_fails : (f : Found) → f ≡ picked n → false ≡ p x → f ≡ picked (n + 1)
    item_fails f e k = turn n f f e (rw (← here, ← k))

    pub item_first : (f : Found) → f ≡ picked n → f ≡ Nowhere → true ≡ p x → At n ≡ picked (n + 1)
    item_first f e w k = turn n f (At n) e (rw (← here, ← k, w))

    pub item_beside : (f g : Found) (j : ℕ) (y : X) (b : Bool) → f ≡ picked n → f ≡ At j → j < length items → y ≡ get_or items j y → true ≡ p x → b ≡ before x y
        → g ≡ cond b (At n) (At j) → g ≡ picked (n + 1)
    item_beside f g j y b e w l z k m o = turn n f g e (rw (w, ← (k ∙ ap p here), ← here, ← get_or_read items j y l z none, ← m) o)

  -- over the first n items
  pub pick_front : (n : ℕ) → n ≤ length items → pick_in (take n items) p before none ≡ picked n
  unfolding pick_in
  pick_front n h = rw (length-take-le n items h)
      (pick_same (λ i. p (get_or (take n items) i none)) (λ i. p (get_or items i none))
      (λ i j. before (get_or (take n items) i none) (get_or (take n items) j none)) (λ i j. before (get_or items i none) (get_or items j none)) n
      (λ i b. rw (get_or-take n items i none b))
      (λ i j b c _ _. rw (get_or-take n items i none b, get_or-take n items j none c)))

-- of two places below a bound the one that is taken
pub below : (i j k n : ℕ) (b : Bool) → i < n → j < n → cond b (At i) (At j) ≡ At k → k < n
below i j k n true h l e = let w : i ≡ k = at_same e in omega arith
below i j k n false h l e = let w : j ≡ k = at_same e in omega arith

-- the highest level among the first n
module _ (m : List Summary) (requester : Rank) where
  abbrev pub top_below : ℕ → ℕ
  top_below n = at_found
      (picked m (λ x. held_so x.holders (above requester)) (λ x y. ltb (level_at y.holders) (level_at x.holders)) no_summary n)
      (λ i. level_at (get_or m i no_summary).holders)
      0

  top_turn : (n top new : ℕ) → top ≡ top_below n → new ≡ cond (held_so (get_or m n no_summary).holders (above requester)) (max top (level_at (get_or m n no_summary).holders)) top → new ≡ top_below (n + 1)
  top_turn n top new e k = k ∙ rw e (sym (most_turn (λ i. held_so (get_or m i no_summary).holders (above requester)) (λ i. level_at (get_or m i no_summary).holders) n (held_so (get_or m n no_summary).holders (above requester)) refl))

  -- the same along the list's front
  abbrev higher : ℕ → Holders → ℕ
  higher top w = max top w.rank.level

  one : (top : ℕ) (o : Option Holders) (x : Slot) (own : Bool)
      → fold higher top (filter (above requester) (filter_map (λ (y : Summary). y.holders) (record { slot = x; holders = o; own = own } ∷ [])))
      ≡ cond (held_so o (above requester)) (max top (level_at o)) top
  one top None x own = refl
  one top (Some w) x own = go (above requester w)
    where
      go : (b : Bool) → fold higher top (cond b (w ∷ []) []) ≡ cond b (max top w.rank.level) top
      go true = refl
      go false = refl

  top_front : (n : ℕ) → n ≤ length m → fold higher 0 (filter (above requester) (filter_map (λ (y : Summary). y.holders) (take n m))) ≡ top_below n
  unfolding pick_below
  top_front zero h = refl
  top_front (suc n) h =
      let x = get_or m n no_summary in
      rw (← add-one n, take_more m n no_summary (omega arith), filter_map-append, filter-append, fold-append)
      (top_turn n _ _ (top_front n (omega arith)) (one _ x.holders x.slot x.own) ∙ ap top_below (add-one n))

  pub top_is : top_from m requester ≡ top_below (length m)
  unfolding top_from
  top_is = ap (λ (l : List Summary). fold higher 0 (filter (above requester) (filter_map (λ (y : Summary). y.holders) l))) (sym (take-length m)) ∙ top_front (length m) (omega arith)
