-- Which areas a call accepts, and what holds of them.
use mathlib.Core.Path.{◌≡◌, refl, sym, ◌∙◌, ap}
use mathlib.Core.Bool.{Bool, true, false, cond, ◌&&◌, ◌||◌, not}
use mathlib.Core.List.{List}
use Prim.Native.Nat.{ℕ, zero, suc, ◌<◌, ◌≤◌}
use borrow.Author.Tests.{ltb-true, ltb-false, le-ltb, lt-ltb, not-false}
use lib.Dec.{ltb}
use lib.ListN.{length}
use Rattle.seq.proofs.Tests.{true_false, cond_same}
use Rattle.model.specs.declared.Answer.TheVariants.{Refused, RowFetching}
use Rattle.model.specs.declared.Condition.{Condition}
use Rattle.model.specs.declared.Condition.TheVariants.{Free, Idle, Fetching, Waiting, Killed}
use Rattle.model.specs.Parties.{row_of}
use Rattle.model.specs.State.{row_at}
use Rattle.rules.specs.Answers.{word}
use Rattle.rules.specs.Refusals.{look_refusal}
use Rattle.rules.specs.Calls.{unless, looked, looked_at}
use Rattle.model.specs.declared.Call.{Call}
use Rattle.model.specs.declared.Call.TheVariants.{Start, Begin, Request, Unpin, End, Tick, Look, View, Count, Borders}
use Rattle.rules.specs.Content.{is_start}
use Rattle.rules.specs.Run.{outcome}
use Rattle.rules.proofs.Leaves.RefusalFacts.{Named, look_taken}
use Rattle.area.specs.Layout.{decoded}
use Rattle.sabre.specs.Lent.{unfit, answer_on, is_refused, fit_area}
use Rattle.sabre.proofs.SoundAreas.{fit_area_lem}
use Rattle.sabre.proofs.SoundAreas as Sound

-- refusal 1: a start looks at the length alone, every other call accepts the areas alone that are sound in one of the two layouts
pub unfit_is : (a : List ℕ) (c : Call) → unfit a c ≡ cond (is_start c) (ltb (length a) 65536) (not (fit_area a))
unfolding unfit
unfit_is a (Start slots delay) = refl
unfit_is a (Begin level number deadline) = refl
unfit_is a (Request level number page mode) = refl
unfit_is a (Unpin level number page) = refl
unfit_is a (End level number) = refl
unfit_is a (Tick room) = refl
unfit_is a (Look level number) = refl
unfit_is a (View level page) = refl
unfit_is a (Count level) = refl
unfit_is a (Borders first second third) = refl

pub unfit_start : (a : List ℕ) (slots delay : ℕ) → unfit a (Start slots delay) ≡ ltb (length a) 65536
unfit_start a slots delay = unfit_is a (Start slots delay)

pub unfit_other : (a : List ℕ) (c : Call) → is_start c ≡ false → unfit a c ≡ not (fit_area a)
unfit_other a c o = unfit_is a c ∙ rw o

-- a short area is fit for no call, such an area for every call
pub short_unfit : (a : List ℕ) (c : Call) → length a < 65536 → unfit a c ≡ true
short_unfit a c h = rw (unfit_is a c, lt-ltb (length a) 65536 h, Sound.short_unfit a h) (cond_same (is_start c) true)

pub taken_fit : (a : List ℕ) (c : Call) → fit_area a ≡ true → unfit a c ≡ false
taken_fit a c e = rw (unfit_is a c, le-ltb (length a) 65536 (fit_area_lem a e).long, e) (cond_same (is_start c) false)

pub fit_long : (a : List ℕ) (c : Call) → unfit a c ≡ false → 65536 ≤ length a
fit_long a c e = go (is_start c) (rw (unfit_is a c) at e)
  where
    go : (b : Bool) → cond b (ltb (length a) 65536) (not (fit_area a)) ≡ false → 65536 ≤ length a
    go true k = ltb-false (length a) 65536 k
    go false k = (fit_area_lem a (not-false (fit_area a) k)).long

-- the same in the words of document 01's table
pub unfit_table : (a : List ℕ) (c : Call) → unfit a c ≡ ltb (length a) 65536 || (not (is_start c) && not (fit_area a))
unfit_table a c = unfit_is a c ∙ go (ltb (length a) 65536) (is_start c) refl
  where
    go : (b x : Bool) → ltb (length a) 65536 ≡ b → cond x b (not (fit_area a)) ≡ b || (not x && not (fit_area a))
    go true true e = refl
    go true false e = rw (Sound.short_unfit a (ltb-true (length a) 65536 e))
    go false true e = refl
    go false false e = refl

-- a call that is not refused was given an area that is fit for it
pub accepted_fit : (a : List ℕ) (c : Call) → is_refused (answer_on a c) ≡ false → unfit a c ≡ false
unfolding answer_on word
accepted_fit a c = go (unfit a c)
  where
    go : (b : Bool) → is_refused (cond b (Refused 1) (outcome (decoded a) c).answer) ≡ false → b ≡ false
    go true e = e
    go false e = refl

pub accepted_sound : (a : List ℕ) (c : Call) → is_start c ≡ false → is_refused (answer_on a c) ≡ false → fit_area a ≡ true
accepted_sound a c o e = not-false (fit_area a) (sym (unfit_other a c o) ∙ accepted_fit a c e)

-- on an area that is fit for it a call is answered by the state that the area names
pub fit_answer : (a : List ℕ) (c : Call) → unfit a c ≡ false → answer_on a c ≡ (outcome (decoded a) c).answer
unfolding answer_on
fit_answer a c e = rw e

-- on an area that is sound in one of the two layouts a call is answered by the state that the area names
pub sound_answer : (a : List ℕ) (c : Call) → fit_area a ≡ true → answer_on a c ≡ (outcome (decoded a) c).answer
sound_answer a c z = fit_answer a c (taken_fit a c z)

pub look_answer : (a : List ℕ) (level number : ℕ) → fit_area a ≡ true → level ≤ 3 → number ≤ 7
    → answer_on a (Look level number) ≡ looked (row_at (decoded a) (row_of level number)).condition
unfolding outcome looked_at look_refusal
look_answer a level number z l n = sound_answer a (Look level number) z ∙ rw (le-ltb 3 level l, le-ltb 7 number n)

-- a look that is not refused names a level up to 3 and a row number up to 7
pub look_named : (a : List ℕ) (level number : ℕ) → is_refused (answer_on a (Look level number)) ≡ false → Named level number
unfolding outcome looked_at word
look_named a level number e =
    let f = fit_answer a (Look level number) (accepted_fit a (Look level number) e) in
    look_taken level number (go (look_refusal level number) (sym (ap is_refused f) ∙ e))
  where
    go : (n : ℕ) → is_refused (unless n (decoded a) (record { state = decoded a; answer = looked (row_at (decoded a) (row_of level number)).condition })).answer ≡ false → n ≡ 0
    go zero k = refl
    go (suc n) k = true_false k

-- a look that tells fetch was made at a fetching row
pub looked_fetching : (c : Condition) (due : ℕ) → looked c ≡ RowFetching due → c ≡ Fetching due
looked_fetching Free due h = cc
looked_fetching Idle due h = cc
looked_fetching (Fetching d) due h = let m : d ≡ due = cc in rw m
looked_fetching (Waiting page mode) due h = cc
looked_fetching (Killed cause) due h = cc
