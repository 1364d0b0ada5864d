-- What a call's answer says of the borders and of the mark that a row has begun: an accepted start makes them anew, an accepted begin sets the mark,
-- an accepted call for borders sets those that it names, and nothing else changes either.
use mathlib.Core.Path.{◌≡◌, refl}
use mathlib.Core.Bool.{false}
use Prim.Native.Nat.{ℕ}
use Rattle.model.specs.declared.Answer.{Answer}
use Rattle.std.specs.Prelude.{Option}
use Rattle.model.specs.declared.Call.{Call}
use Rattle.model.specs.declared.Cause.TheVariants.{Late, Taken}
use Rattle.model.specs.declared.Condition.{Condition}
use Rattle.model.specs.declared.Condition.TheVariants.{Free, Idle, Fetching, Waiting, Killed}
use Rattle.model.specs.declared.Mode.{Mode}
use Rattle.model.specs.declared.Outcome.{Outcome}
use Rattle.model.specs.declared.State.{State}
use Rattle.model.specs.State.{fresh}
use Rattle.model.specs.Words.{slot_of}
use Rattle.model.specs.Changes.{released, killed}
use Rattle.rules.specs.Answers.{word, is_started, is_begun, is_bordered}
use Rattle.rules.specs.Calls.{unpinned_at, advanced, delivered_rows, late_killed, looked, waiting, granted, served}
use Rattle.rules.specs.Refusals.{condition_at}
use Rattle.rules.specs.Run.{outcome, borders_by, begun_by}
use Rattle.rules.proofs.Leaves.CallEffects.{Still, refused, looks, views, counts, Effect, unchanged, starts, begins, unpins, ends, ticks, sets, serves, effect}
use Rattle.rules.proofs.Leaves.SettingLaws.{served_unset, ticked_unset}
use Rattle.rules.proofs.Promises.CallCases.{viewed_is}
use Rattle.rules.proofs.Promises.Serving.{Serving, waits, waits_g, joins, fills, serving}
use Rattle.rules.proofs.Promises.Granting.{granted_answer_lem}

-- an answer that is none of the three
abbrev Other : Answer → Type 0
Other a = (is_started a ≡ false) × (is_begun a ≡ false) × (is_bordered a ≡ false)

looked_other : (x : Condition) → Other (looked x)
unfolding word
looked_other Free = (refl, refl, refl)
looked_other Idle = (refl, refl, refl)
looked_other (Fetching due) = (refl, refl, refl)
looked_other (Waiting page mode) = (refl, refl, refl)
looked_other (Killed Late) = (refl, refl, refl)
looked_other (Killed Taken) = (refl, refl, refl)

still_other : (s : State) (c : Call) (a : Answer) → Still s c a → Other a
unfolding word
still_other s c a (refused n e) = rw e (refl, refl, refl)
still_other s c a (looks level number q n e) = rw e (looked_other (condition_at s level number))
still_other s c a (views level page q e) = rw e (viewed_is Other (refl, refl, refl) (λ _. (refl, refl, refl)) (λ _. (refl, refl, refl)) (λ _. (refl, refl, refl)) (λ _. (refl, refl, refl)) s level (slot_of s page))
still_other s c a (counts level n q e) = rw e (refl, refl, refl)

granted_other : (u : State) (row slot : ℕ) (mode : Mode) (arrival : ℕ) (back : Option ℕ) → Other (granted u row slot mode arrival back).answer
unfolding word
granted_other u row slot mode arrival back =
    granted_answer_lem u row slot mode arrival back (granted u row slot mode arrival back).answer refl
    (λ q k. rw k (refl, refl, refl))
    (λ q k. rw k (refl, refl, refl))

served_other : (s : State) (row page : ℕ) (mode : Mode) → Other (served s row page mode).answer
unfolding waiting word
served_other s row page mode = go (served s row page mode) (serving s row page mode)
  where
    go : (o : Outcome) → Serving s row page mode o → Other o.answer
    go o (waits slot e v w q) = rw q (refl, refl, refl)
    go o (waits_g e n q) = rw q (refl, refl, refl)
    go o (joins slot arrival some e n q) = rw q (granted_other _ _ _ _ _ _)
    go o (fills slot e n q) = rw q (granted_other _ _ _ _ _ _)

module _ (s : State) (c : Call) where
  after : (o : Outcome) → Effect s c o → (o.state.borders ≡ borders_by s c o.answer) × (o.state.begun ≡ begun_by s o.answer)
  unfolding word fresh unpinned_at released late_killed delivered_rows advanced killed
  after o (unchanged a q e) = let n = still_other s c a q in rw (e, n.0, n.1, n.2) (refl, refl)
  after o (starts slots delay q t e) = rw e (refl, refl)
  after o (begins level number deadline q t e) = rw e (refl, refl)
  after o (unpins level number page slot q t f p e) = rw e (refl, refl)
  after o (ends level number q m e) = rw e (refl, refl)
  after o (ticks room q w h e) = rw e (ticked_unset s)
  after o (sets b q t e) = rw (e, q) (refl, refl)
  after o (serves row page mode h a m e) =
      let n = served_other s row page mode in
      let u = served_unset s row page mode in
      rw (e, n.0, n.1, n.2) u

  pub borders_after_lem : (outcome s c).state.borders ≡ borders_by s c (outcome s c).answer
  borders_after_lem = (after (outcome s c) (effect s c)).0

  pub begun_after_lem : (outcome s c).state.begun ≡ begun_by s (outcome s c).answer
  begun_after_lem = (after (outcome s c) (effect s c)).1
