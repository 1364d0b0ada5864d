-- The slots as the rows that go lose their holdings, one row after another.
use mathlib.Core.Path.{◌≡◌, refl, sym, ◌∙◌, ap}
use mathlib.Core.Bool.{Bool, true, false, cond, ◌&&◌, ◌||◌}
use mathlib.Core.List.{List}
use Prim.Native.Nat.{ℕ, ◌+◌, ◌<◌}
use lib.ListN.{length, get_or}
use lib.Seq.{ext_get_or}
use Rattle.seq.specs.Below.{any_below}
use Rattle.seq.specs.Each.{each}
use Rattle.seq.proofs.BelowLaws.{any_more}
use Rattle.seq.proofs.EachLaws.{each_length, each_at, each_still}
use Rattle.model.specs.declared.Content.{Content}
use Rattle.model.specs.declared.Content.TheVariants.{Empty, Filled}
use Rattle.model.specs.declared.Slot.{Slot}
use Rattle.model.specs.declared.State.{State}
use Rattle.model.specs.State.{empty_slot, holding_at}
use Rattle.model.specs.Changes.{written, dirtied, released}
use Rattle.model.specs.Inner.Changed.{marked}
use Rattle.serve.specs.Inner.SlotHoldings.{row_dirtied}

twice : (x : Slot) → dirtied (dirtied x) ≡ dirtied x
unfolding dirtied
twice x = go x.content
  where
    go : (d : Content) → dirtied (dirtied (record { content = d; touch = x.touch })) ≡ dirtied (record { content = d; touch = x.touch })
    go Empty = refl
    go (Filled page arrival dirty lowest) = refl

-- a slot made dirty once or twice
again : (a b : Bool) (x : Slot) → cond b (dirtied (cond a (dirtied x) x)) (cond a (dirtied x) x) ≡ cond (a || b) (dirtied x) x
again true true x = twice x
again true false x = refl
again false true x = refl
again false false x = refl

module _ (s : State) (marks : List Bool) where
  abbrev wrote : ℕ → ℕ → Bool
  wrote slot row = marked marks row && written s.clock (holding_at s slot row)

  -- the rows below n are gone
  abbrev dirty_below : ℕ → ℕ → Slot → Slot
  dirty_below n slot x = cond (any_below n (wrote slot)) (dirtied x) x

  abbrev pub Released : ℕ → List Slot → Type 0
  Released n left = left ≡ each (dirty_below n) s.slots

  pub released_none : Released 0 s.slots
  unfolding any_below
  released_none = sym (each_still (dirty_below 0) s.slots empty_slot (λ i h. refl))

  -- one row more
  module _ (r : ℕ) (before : List Slot) (e : Released r before) where
    turned : (b : Bool) → marked marks r ≡ b → each (λ slot x. cond (b && written s.clock (holding_at s slot r)) (dirtied x) x) before ≡ each (dirty_below (r + 1)) s.slots
    turned b m = rw e (ext_get_or empty_slot _ _ (each_length _ below ∙ each_length (dirty_below r) s.slots ∙ sym (each_length (dirty_below (r + 1)) s.slots)) at)
      where
        below : List Slot
        below = each (dirty_below r) s.slots

        f : ℕ → Slot → Slot
        f slot x = cond (b && written s.clock (holding_at s slot r)) (dirtied x) x

        at : (i : ℕ) → i < length (each f below) → get_or (each f below) i empty_slot ≡ get_or (each (dirty_below (r + 1)) s.slots) i empty_slot
        at i h =
            let p = rw (each_length f below) at h in
            let q = rw (each_length (dirty_below r) s.slots) at p in
            each_at f below i empty_slot p
            ∙ ap (f i) (each_at (dirty_below r) s.slots i empty_slot q)
            ∙ rw (← m) (again (any_below r (wrote i)) (wrote i r) (get_or s.slots i empty_slot))
            ∙ ap (λ (x : Bool). cond x (dirtied (get_or s.slots i empty_slot)) (get_or s.slots i empty_slot)) (sym (any_more (wrote i) r))
            ∙ sym (each_at (dirty_below (r + 1)) s.slots i empty_slot q)

    pub released_more : (after : List Slot) → marked marks r ≡ true → after ≡ each (row_dirtied s r) before → Released (r + 1) after
    released_more after m q = q ∙ turned true m

    pub released_same : marked marks r ≡ false → Released (r + 1) before
    released_same m = sym (each_still (λ slot x. x) before empty_slot (λ j h. refl)) ∙ turned false m

  pub released_all : (n : ℕ) (left : List Slot) → n ≡ 32 → Released n left → left ≡ (released (marked marks) s).slots
  unfolding released
  released_all n left k e = e ∙ rw k
