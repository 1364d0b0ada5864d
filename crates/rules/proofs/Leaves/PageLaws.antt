-- The slot that has a page, and the holdings on it, in a sound state and after each change.
use mathlib.Core.Path.{◌≡◌, refl, sym, ◌∙◌, ap}
use mathlib.Core.Bool.{Bool, true, false, cond, ◌&&◌}
use Prim.Native.Nat.{ℕ, ◌<◌, ◌≤◌}
use native.Mathlib.Omega.{arith}
use native.Mathlib.Decide.{ℕ_discrete}
use borrow.Author.Tests.{eqb-true, eq-eqb, ne_eqb}
use lib.Dec.{eqb}
use Rattle.seq.specs.Below.{pick_below, at_found}
use Rattle.seq.specs.declared.Found.{Found}
use Rattle.seq.specs.declared.Found.TheVariants.{At, Nowhere}
use Rattle.seq.proofs.Tests.{true_false, cond_same}
use Rattle.seq.proofs.PickLaws.{pick_is, pick_none, pick_same, at_nowhere, at_same, pick_some}
use Rattle.model.specs.declared.Cause.{Cause}
use Rattle.model.specs.declared.Holding.{Holding}
use Rattle.model.specs.declared.Slot.{Slot}
use Rattle.model.specs.declared.State.{State}
use Rattle.model.specs.State.{empty_holding, slot_at, holding_at}
use Rattle.model.specs.Words.{is_filled, page_in, has_page, is_held, holds, slot_of}
use Rattle.model.specs.Changes.{released, killed, wrote_slot}
use Rattle.model.specs.Ranges.{Sized}
use Rattle.model.proofs.ChangeLaws.{released_holding, released_slot}
use Rattle.model.proofs.ContentLaws.{has_page_lem, page_has, dirtied_page}
use Rattle.rules.specs.SoundFacts.{Sound}
use Rattle.rules.specs.Alike.{holding_on}

-- what the search found
pub found_slot : (s : State) (page i : ℕ) → slot_of s page ≡ At i → (i < s.size) × (is_filled (slot_at s i).content ≡ true) × (page_in (slot_at s i).content ≡ page)
unfolding slot_of
found_slot s page i e =
    let h = pick_is (λ slot. has_page page (slot_at s slot).content) (λ x y. false) s.size i e in
    let k = page_has page (slot_at s i).content h.1 in
    (h.0, k.0, k.1)

pub found_below : (s : State) → Sound s → (page i : ℕ) → slot_of s page ≡ At i → i < 64
found_below s z page i e = omega (arith, (found_slot s page i e).0, z.size_most)

pub not_found : (s : State) (page i : ℕ) → slot_of s page ≡ Nowhere → i < s.size → has_page page (slot_at s i).content ≡ false
unfolding slot_of
not_found s page i e h = pick_none (λ slot. has_page page (slot_at s slot).content) (λ x y. false) s.size i e h

pub found_has : (s : State) (page i : ℕ) → slot_of s page ≡ At i → (i < s.size) × (has_page page (slot_at s i).content ≡ true)
found_has s page i e = let k = found_slot s page i e in (k.0, has_page_lem page (slot_at s i).content k.1 k.2)

-- the search for a page that just one slot has
pub finds_only : (s : State) (page i : ℕ) → i < s.size → has_page page (slot_at s i).content ≡ true
    → ((j : ℕ) → j < s.size → has_page page (slot_at s j).content ≡ true → j ≡ i) → slot_of s page ≡ At i
unfolding slot_of
finds_only s page i b h only =
    let x = pick_some (λ slot. has_page page (slot_at s slot).content) (λ j k. false) s.size i b h in
    let y = pick_is (λ slot. has_page page (slot_at s slot).content) (λ j k. false) s.size x.0 x.1 in
    x.1 ∙ ap At (only x.0 y.0 y.1)

-- no page in two slots
abbrev pub OneSlot : State → Type 0
OneSlot s = (page i j : ℕ) → i < s.size → j < s.size → has_page page (slot_at s i).content ≡ true → has_page page (slot_at s j).content ≡ true → i ≡ j

-- so it is in a sound state
pub one_place : (s : State) → Sound s → (page i j : ℕ) → i < 64 → j < 64 → has_page page (slot_at s i).content ≡ true → has_page page (slot_at s j).content ≡ true → i ≡ j
one_place s z page i j a b p q =
    let x = page_has page (slot_at s i).content p in
    let y = page_has page (slot_at s j).content q in
    z.one_slot i j a b x.0 y.0 (x.1 ∙ sym y.1)

pub one_has : (s : State) → Sound s → OneSlot s
one_has s z page i j a b = one_place s z page i j (omega (arith, z.size_most)) (omega (arith, z.size_most))

pub finds : (s : State) (z : Sound s) (page i : ℕ) → i < 64 → is_filled (slot_at s i).content ≡ true → page_in (slot_at s i).content ≡ page → slot_of s page ≡ At i
finds s z page i b f e =
    let h = has_page_lem page (slot_at s i).content f e in
    finds_only s page i ((z.slot i b).started f) h (λ j c q. one_place s z page j i (omega (arith, z.size_most)) b q h)

-- the holding on a slot's page is the holding on the slot
pub on_slot : (s : State) (page i r : ℕ) → slot_of s page ≡ At i → holding_on s page r ≡ holding_at s i r
unfolding holding_on
on_slot s page i r e = rw e

pub on_nowhere : (s : State) (page r : ℕ) → slot_of s page ≡ Nowhere → holding_on s page r ≡ empty_holding
unfolding holding_on
on_nowhere s page r e = rw e

-- a row that has a page has the slot that has it
pub on_held : (s : State) (page r : ℕ) → is_held (holding_on s page r).pin ≡ true → (i : ℕ) × (slot_of s page ≡ At i) × (holds s i r ≡ true)
on_held s page r h = go (slot_of s page) refl
  where
    go : (f : Found) → slot_of s page ≡ f → (i : ℕ) × (slot_of s page ≡ At i) × (holds s i r ≡ true)
    go Nowhere e = true_false (sym (sym (ap (λ (x : Holding). is_held x.pin) (on_nowhere s page r e)) ∙ h))
    go (At i) e = (i, e, sym (ap (λ (x : Holding). is_held x.pin) (on_slot s page i r e)) ∙ h)

-- the holding on a page, by the slot that has it
pub on_at : (s : State) → OneSlot s → (page i r : ℕ) → i < s.size → has_page page (slot_at s i).content ≡ true → holding_on s page r ≡ holding_at s i r
on_at s one page i r b h = on_slot s page i r (finds_only s page i b h (λ j c q. one page j i c b q h))

-- two states with the same pages in their slots
pub same_slot : (s t : State) (page : ℕ) → s.size ≡ t.size
    → ((i : ℕ) → i < s.size → has_page page (slot_at s i).content ≡ has_page page (slot_at t i).content) → slot_of s page ≡ slot_of t page
unfolding slot_of
same_slot s t page n f =
    pick_same (λ slot. has_page page (slot_at s slot).content) (λ slot. has_page page (slot_at t slot).content) (λ x y. false) (λ x y. false) s.size f (λ i j h k p q. refl)
    ∙ ap (λ (m : ℕ). pick_below m (λ slot. has_page page (slot_at t slot).content) (λ x y. false)) n

module _ (some : ℕ → Bool) (s : State) (z : Sized s) (most : s.size ≤ 64) where
  released_page : (page i : ℕ) → i < 64 → has_page page (slot_at (released some s) i).content ≡ has_page page (slot_at s i).content
  released_page page i h = ap (λ (x : Slot). has_page page x.content) (released_slot some s z i h) ∙ dirtied_page page (wrote_slot some s i) (slot_at s i)

  pub released_slot_of : (page : ℕ) → slot_of (released some s) page ≡ slot_of s page
  unfolding released
  released_slot_of page = same_slot (released some s) s page refl (λ i h. released_page page i (omega arith))

  -- the holdings of the released rows go and no others
  pub released_on : (page row : ℕ) → row < 32 → holding_on (released some s) page row ≡ cond (some row) empty_holding (holding_on s page row)
  unfolding holding_on
  released_on page row h = ap (λ (f : Found). at_found f (λ slot. holding_at (released some s) slot row) empty_holding) (released_slot_of page) ∙ go (slot_of s page)
    where
      go : (f : Found) → at_found f (λ slot. holding_at (released some s) slot row) empty_holding ≡ cond (some row) empty_holding (at_found f (λ slot. holding_at s slot row) empty_holding)
      go Nowhere = sym (cond_same (some row) empty_holding)
      go (At i) = released_holding some s z i row h

  -- a kill releases, and marks rows
  pub killed_page : (cause : Cause) (page i : ℕ) → i < 64 → has_page page (slot_at (killed some cause s) i).content ≡ has_page page (slot_at s i).content
  unfolding killed
  killed_page cause page i h = released_page page i h

  pub killed_one : (cause : Cause) → OneSlot s → OneSlot (killed some cause s)
  unfolding killed released
  killed_one cause one page i j a b p q = one page i j a b (sym (killed_page cause page i (omega arith)) ∙ p) (sym (killed_page cause page j (omega arith)) ∙ q)

  pub killed_slot_of : (cause : Cause) (page : ℕ) → slot_of (killed some cause s) page ≡ slot_of s page
  unfolding killed slot_of
  killed_slot_of cause page = released_slot_of page

  pub killed_on : (cause : Cause) (page row : ℕ) → row < 32 → holding_on (killed some cause s) page row ≡ cond (some row) empty_holding (holding_on s page row)
  unfolding killed holding_on slot_of
  killed_on cause page row h = released_on page row h

-- one holding replaced in the slot of a page, and no page moved: the holdings on each page
pub put_on_lem : (s u : State) (row slot page : ℕ) (x : Holding) → slot_of s page ≡ At slot → ((other : ℕ) → slot_of u other ≡ slot_of s other)
    → ((i q : ℕ) → q < 32 → holding_at u i q ≡ cond (eqb i slot && eqb q row) x (holding_at s i q))
    → (other q : ℕ) → q < 32 → holding_on u other q ≡ cond (eqb other page && eqb q row) x (holding_on s other q)
unfolding holding_on
put_on_lem s u row slot page x found still f other q h = rw (still other) (go (slot_of s other) refl)
  where
    go : (z : Found) → slot_of s other ≡ z → at_found z (λ i. holding_at u i q) empty_holding ≡ cond (eqb other page && eqb q row) x (at_found z (λ i. holding_at s i q) empty_holding)
    go Nowhere e = rw (ne_eqb other page (λ m. at_nowhere (sym found ∙ ap (slot_of s) (sym m) ∙ e)))
    go (At i) e = f i q h ∙ ap (λ (b : Bool). cond (b && eqb q row) x (holding_at s i q)) (same i e)
      where
        same : (i : ℕ) → slot_of s other ≡ At i → eqb i slot ≡ eqb other page
        same i e = elim (ℕ_discrete other page) [
          | yes m ↦ eq-eqb i slot (at_same (sym e ∙ ap (slot_of s) m ∙ found)) ∙ sym (eq-eqb other page m)
          | no m ↦ ne_eqb i slot (λ w. m (sym (found_slot s other i e).2 ∙ ap (λ (k : ℕ). page_in (slot_at s k).content) w ∙ (found_slot s page slot found).2)) ∙ sym (ne_eqb other page m)
        ]

-- one slot replaced by one with the same page: every page stays in its slot
pub put_slot_of : (s u : State) (slot : ℕ) (x : Slot) → u.size ≡ s.size → ((i : ℕ) → slot_at u i ≡ cond (eqb i slot) x (slot_at s i))
    → (page : ℕ) → has_page page x.content ≡ has_page page (slot_at s slot).content → slot_of u page ≡ slot_of s page
put_slot_of s u slot x n f page e = same_slot u s page n (λ i _. ap (λ (y : Slot). has_page page y.content) (f i) ∙ go i (eqb i slot) refl)
  where
    go : (i : ℕ) (b : Bool) → eqb i slot ≡ b → has_page page (cond b x (slot_at s i)).content ≡ has_page page (slot_at s i).content
    go i true q = e ∙ ap (λ (k : ℕ). has_page page (slot_at s k).content) (sym (eqb-true i slot q))
    go i false q = refl
