-- Demand 2 over lent areas: a page is in one slot at most.
use mathlib.Core.Path.{◌≡◌, refl}
use mathlib.Core.Bool.{true}
use mathlib.Core.List.{List, ◌∷◌}
use Prim.Native.Nat.{ℕ, ◌<◌}
use borrow.Author.Tests.{eq-eqb}
use Rattle.model.specs.declared.Answer.TheVariants.{Started}
use Rattle.model.specs.State.{slot_at}
use Rattle.model.specs.Words.{has_page}
use Rattle.model.specs.declared.Call.{Call}
use Rattle.model.specs.declared.Call.TheVariants.{Start}
use Rattle.rules.proofs.Promises.OneSlot as States
use Rattle.area.specs.Layout.{low, content_of, slot_from, decoded}
use Rattle.area.proofs.Elements.{decoded_slot}
use Rattle.sabre.specs.Lent.{answer_on, fit_area}
use Rattle.demands.specs.SlotWords.{filled_word, page_word}
use Rattle.demands.specs.Runs.{AllFit, area_after_all}
use Rattle.demands.proofs.Steps.{started_sound_on}
use Rattle.sabre.proofs.SoundAreas.{sound_fit, fit_area_lem}

-- no page in two slots of an area that is sound in one of the two layouts
pub one_slot : (a : List ℕ) → fit_area a ≡ true → (page i j : ℕ) → i < 64 → j < 64
    → has_page page (slot_at (decoded a) i).content ≡ true → has_page page (slot_at (decoded a) j).content ≡ true → i ≡ j
one_slot a z = States.one_slot (decoded a) (fit_area_lem a z).sound_state

-- the same read off the bytes
pub filled_word_lem : (a : List ℕ) (slot : ℕ) → slot < 64 → filled_word a slot ≡ 1 → has_page (low (page_word a slot)) (slot_at (decoded a) slot).content ≡ true
unfolding slot_from content_of
filled_word_lem a slot b e = rw (decoded_slot a slot b, e) (eq-eqb (low (page_word a slot)) (low (page_word a slot)) refl)

pub one_slot_words : (a : List ℕ) → fit_area a ≡ true → (i j : ℕ) → i < 64 → j < 64
    → filled_word a i ≡ 1 → filled_word a j ≡ 1 → page_word a i ≡ page_word a j → i ≡ j
one_slot_words a z i j b c p q e =
    one_slot a z (low (page_word a i)) i j b c (filled_word_lem a i b p) (rw e (filled_word_lem a j c q))

-- no page in two slots after any list of calls, starts among them, from an accepted start on, whatever the area held before
pub one_slot_ever : (a : List ℕ) (slots delay : ℕ) (cs : List Call) → answer_on a (Start slots delay) ≡ Started → AllFit cs
    → (page i j : ℕ) → i < 64 → j < 64
    → has_page page (slot_at (decoded (area_after_all a (Start slots delay ∷ cs))) i).content ≡ true
    → has_page page (slot_at (decoded (area_after_all a (Start slots delay ∷ cs))) j).content ≡ true → i ≡ j
one_slot_ever a slots delay cs e f = one_slot (area_after_all a (Start slots delay ∷ cs)) (sound_fit (area_after_all a (Start slots delay ∷ cs)) (started_sound_on a slots delay cs e f))
