-- No page is in two slots just where no slot has a page that was noted for a slot before it.
use mathlib.Core.Path.{◌≡◌, refl, sym, ◌∙◌, ap}
use mathlib.Core.Bool.{Bool, true, false, ◌&&◌, ◌||◌, not}
use mathlib.Core.List.{List}
use Prim.Native.Nat.{ℕ, zero, suc, ◌+◌, ◌<◌}
use native.Mathlib.Omega.{arith}
use native.Mathlib.Decide.{ℕ_discrete}
use lib.Dec.{ltb, eqb}
use lib.ListN.{length, get_or, set, length-set, length-replicate, get_or-replicate}
use lib.Seq.{get_or-set_same, get_or-set_other}
use borrow.Author.Tests.{leb-true, lt-ltb, eq-eqb, ne_eqb}
use Rattle.seq.specs.Below.{any_below, all_below}
use Rattle.seq.proofs.Tests.{parts, and_false_right, or_true_right, and_when}
use Rattle.seq.proofs.BelowLaws.{any_more, none_any, any_same, all_each, all_same}
use Rattle.model.specs.declared.Content.{Content}
use Rattle.model.specs.declared.Content.TheVariants.{Empty, Filled}
use Rattle.model.specs.declared.Slot.{Slot}
use Rattle.model.specs.declared.State.{State}
use Rattle.model.specs.State.{empty_slot, slot_at}
use Rattle.model.specs.Words.{is_filled, page_in, has_page}
use Rattle.rules.specs.Sound.{sound_content, sound_slot, same_page, sound_pages}
use Rattle.sound.specs.Inner.Tests.{place_in, seen_at, no_pages, place_taken}

-- what is noted after the first n slots
abbrev pub Noted : List Slot → ℕ → List Bool → Type 0
Noted slots n seen = (length seen ≡ 4097) × ((p : ℕ) → p < 4097 → get_or seen p false ≡ seen_at slots n p)

pub noted_none : (slots : List Slot) (seen : List Bool) → seen ≡ no_pages → Noted slots 0 seen
unfolding no_pages seen_at any_below
noted_none slots seen e =
    (rw e (length-replicate 4097 false), λ p h. rw e (get_or-replicate 4097 p false false h ∙ sym (and_false_right (ltb p 4096) false refl)))

-- the place of slot n noted
pub noted_more : (slots : List Slot) (n k : ℕ) (seen : List Bool) (noted : Bool) → k < 4097 → k ≡ place_in (get_or slots n empty_slot).content → noted ≡ ltb k 4096 → Noted slots n seen → Noted slots (n + 1) (set seen k noted)
unfolding seen_at
noted_more slots n k seen noted h e w q = rw w (
  length-set seen k (ltb k 4096) ∙ q.0,
  λ p b. elim (ℕ_discrete p k) [
    | yes s ↦ rw s (get_or-set_same seen k (ltb k 4096) false (omega (arith, q.0)) ∙ rw (any_more (at k) n, or_true_right (any_below n (at k)) (at k n) (eq-eqb (place_in (get_or slots n empty_slot).content) k (sym e))) (and_true (ltb k 4096)))
    | no s ↦ get_or-set_other seen k p (ltb k 4096) false s ∙ q.1 p b ∙ rw (any_more (at p) n, ne_eqb (place_in (get_or slots n empty_slot).content) p (λ z. s (sym z ∙ sym e))) (ap (λ (a : Bool). ltb p 4096 && a) (or_false (any_below n (at p))))
  ],
)
  where
    at : ℕ → ℕ → Bool
    at p slot = eqb (place_in (get_or slots slot empty_slot).content) p

    and_true : (a : Bool) → a ≡ a && true
    and_true true = refl
    and_true false = refl

    or_false : (a : Bool) → a ≡ a || false
    or_false true = refl
    or_false false = refl

pub noted_taken : (slots : List Slot) (n k : ℕ) (seen : List Bool) → k < 4097 → k ≡ place_in (get_or slots n empty_slot).content → Noted slots n seen → get_or seen k false ≡ place_taken slots n
unfolding place_taken
noted_taken slots n k seen h e q = q.1 k h ∙ ap (seen_at slots n) e

none_some : (p : ℕ → Bool) (n : ℕ) → not (any_below n p) ≡ all_below n (λ i. not (p i))
unfolding any_below all_below
none_some p zero = refl
none_some p (suc n) = go (any_below n p) (p n) ∙ ap (λ (a : Bool). a && not (p n)) (none_some p n)
  where
    go : (a b : Bool) → not (a || b) ≡ not a && not b
    go true b = refl
    go false b = refl

-- the page of a sound slot is below 4096
slot_page : (s : State) (slot : ℕ) → sound_slot s slot ≡ true → page_in (slot_at s slot).content < 4096
unfolding sound_slot
slot_page s slot e = go (slot_at s slot).content (search parts depth 20)
  where
    go : (c : Content) → sound_content s c (slot_at s slot).touch ≡ true → page_in c < 4096
    go Empty f = omega arith
    go (Filled page arrival dirty lowest) f = let h = leb-true page 4095 (search parts depth 20) in omega arith

place_page : (c : Content) (page : ℕ) → page_in c < 4096 → page < 4096 → eqb (place_in c) page ≡ has_page page c
place_page Empty page f g = ne_eqb 4096 page (λ z. omega arith)
place_page (Filled p arrival dirty lowest) page f g = rw (lt-ltb p 4096 f)

module _ (s : State) (each : (slot : ℕ) → slot < 64 → sound_slot s slot ≡ true) where
  taken_same : (slot : ℕ) → slot < 64 → place_taken s.slots slot ≡ any_below slot (same_page s slot)
  unfolding place_taken seen_at same_page
  taken_same slot h = go (slot_at s slot).content (slot_page s slot (each slot h))
    where
      go : (c : Content) → page_in c < 4096 → seen_at s.slots slot (place_in c) ≡ any_below slot (λ other. is_filled c && has_page (page_in c) (slot_at s other).content)
      go Empty f = sym (none_any (λ other. false) slot (λ i b. refl))
      go (Filled page arrival dirty lowest) f =
          rw (lt-ltb page 4096 f) (rw (lt-ltb page 4096 f)
          (any_same (λ other. eqb (place_in (slot_at s other).content) page) (λ other. has_page page (slot_at s other).content) slot
          (λ i b. place_page (slot_at s i).content page (slot_page s i (each i (omega arith))) f)))

  apart_same : (slot : ℕ) → slot < 64 → not (place_taken s.slots slot) ≡ all_below slot (λ other. not (same_page s slot other))
  apart_same slot h = ap not (taken_same slot h) ∙ none_some (same_page s slot) slot

pub pages_apart : (s : State) → all_below 64 (sound_slot s) && all_below 64 (λ slot. not (place_taken s.slots slot)) ≡ all_below 64 (sound_slot s) && sound_pages s
unfolding sound_pages
pages_apart s =
    and_when (all_below 64 (sound_slot s)) (all_below 64 (λ slot. not (place_taken s.slots slot))) (all_below 64 (λ slot. all_below slot (λ other. not (same_page s slot other)))) (λ e.
    all_same (λ slot. not (place_taken s.slots slot)) (λ slot. all_below slot (λ other. not (same_page s slot other))) 64 (apart_same s (λ slot h. all_each (sound_slot s) 64 slot e h)))
