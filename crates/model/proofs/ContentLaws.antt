-- A slot's content: which page it has, and what a dirty mark leaves of it.
use mathlib.Core.Path.{◌≡◌, refl, sym, ap}
use mathlib.Core.Bool.{Bool, true, false, cond}
use Prim.Native.Nat.{ℕ}
use borrow.Author.Tests.{eqb-true, eq-eqb}
use lib.Dec.{eqb}
use Rattle.seq.proofs.Tests.{true_false}
use Rattle.model.specs.Words.{is_filled, page_in, has_page, dirty_in}
use Rattle.model.specs.Changes.{dirtied, dirtied_content}
use Rattle.model.specs.declared.Content.{Content}
use Rattle.model.specs.declared.Content.TheVariants.{Empty, Filled}
use Rattle.model.specs.declared.Slot.{Slot}

-- a slot has a page if it is filled with it
pub has_page_lem : (page : ℕ) (c : Content) → is_filled c ≡ true → page_in c ≡ page → has_page page c ≡ true
has_page_lem page Empty f e = f
has_page_lem page (Filled p arrival dirty lowest) f e = eq-eqb p page e

pub page_has : (page : ℕ) (c : Content) → has_page page c ≡ true → (is_filled c ≡ true) × (page_in c ≡ page)
page_has page Empty e = true_false (sym e)
page_has page (Filled p arrival dirty lowest) e = (refl, eqb-true p page e)

-- filled with one page
pub has_same : (page : ℕ) (c d : Content) → is_filled c ≡ true → is_filled d ≡ true → page_in c ≡ page_in d → has_page page c ≡ has_page page d
has_same page Empty d f g e = true_false (sym f)
has_same page (Filled p arrival dirty lowest) Empty f g e = true_false (sym g)
has_same page (Filled p arrival dirty lowest) (Filled q arrival' dirty' lowest') f g e = ap (λ (n : ℕ). eqb n page) e

-- a slot that may become dirty
pub dirtied_page : (page : ℕ) (b : Bool) (x : Slot) → has_page page (cond b (dirtied x) x).content ≡ has_page page x.content
unfolding dirtied
dirtied_page page false x = refl
dirtied_page page true x = go x.content
  where
    go : (c : Content) → has_page page (dirtied_content c) ≡ has_page page c
    go Empty = refl
    go (Filled p arrival dirty lowest) = refl

pub dirtied_stays : (b : Bool) (x : Slot) → dirty_in x.content ≡ true → dirty_in (cond b (dirtied x) x).content ≡ true
unfolding dirtied
dirtied_stays false x e = e
dirtied_stays true x e = go x.content e
  where
    go : (c : Content) → dirty_in c ≡ true → dirty_in (dirtied_content c) ≡ true
    go Empty q = q
    go (Filled p arrival dirty lowest) q = refl

pub dirtied_is : (page : ℕ) (x : Slot) → has_page page x.content ≡ true → dirty_in (dirtied x).content ≡ true
unfolding dirtied
dirtied_is page x h = go x.content h
  where
    go : (c : Content) → has_page page c ≡ true → dirty_in (dirtied_content c) ≡ true
    go Empty q = q
    go (Filled p arrival dirty lowest) q = refl
