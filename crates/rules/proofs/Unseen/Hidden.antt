-- A call that is not kept for a clearance leaves the state alike for it.
use mathlib.Core.Path.{◌≡◌, refl, ap, sym, ◌∙◌}
use mathlib.Core.Bool.{false, true}
use Prim.Native.Nat.{ℕ, ◌<◌, ◌≤◌}
use native.Mathlib.Omega.{arith}
use borrow.Author.Tests.{leb-false, ne_eqb}
use lib.Dec.{leb, eqb}
use Rattle.seq.proofs.Tests.{true_false}
use mathlib.Core.List.{List}
use lib.ListN.{get_or, set}
use Rattle.model.proofs.PlaceLaws.{placed_at_lem, closed_at, moved_far}
use Rattle.rules.specs.Calls.{last_place}
use Rattle.model.specs.declared.Borders.{Borders}
use Rattle.model.specs.declared.Call.{Call}
use Rattle.model.specs.declared.Condition.TheVariants.{Idle}
use Rattle.model.specs.declared.Outcome.{Outcome}
use Rattle.model.specs.declared.State.{State}
use Rattle.model.specs.Parties.{row_of, level_of}
use Rattle.model.specs.State.{free_row, with_borders, with_begun, place_at, with_places, put_row}
use Rattle.model.specs.Changes.{released, closed_up}
use Rattle.model.specs.Words.{slot_of}
use Rattle.model.proofs.StateLaws.{sized_begun}
use Rattle.model.proofs.ChangeLaws.{sized_released}
use Rattle.rules.specs.Answers.{word, is_started}
use Rattle.rules.specs.Run.{outcome}
use Rattle.rules.specs.Secrecy.{is_kept}
use Rattle.rules.specs.Sound.{sound}
use Rattle.rules.specs.SoundFacts.{Sound}
use Rattle.rules.proofs.Facts.SoundFacts.{facts}
use Rattle.rules.proofs.Leaves.ContentLaws.{asks_above}
use Rattle.rules.proofs.Leaves.PageLaws.{found_below}
use Rattle.rules.proofs.Leaves.RefusalFacts.{Named}
use Rattle.rules.proofs.Leaves.CallEffects.{Effect, unchanged, starts, begins, unpins, ends, ticks, sets, serves, effect}
use Rattle.rules.specs.Alike.{holding_on, Alike}
use Rattle.rules.proofs.Same.AlikeLaws.{alike_refl, alike_trans}
use Rattle.rules.proofs.Unseen.HiddenChanges.{row_hidden, released_hidden, unpinned_hidden}
use Rattle.rules.proofs.Unseen.HiddenServed.{served_hidden}

-- the row of a call that is not kept is above the clearance
higher : (L level number : ℕ) → leb level L ≡ false → Named level number → L < level_of (row_of level number)
higher L level number k n = omega (arith, leb-false level L k, n.own_level)

-- the borders and the mark that a row has begun are no part of what is alike
pub borders_hidden : (L : ℕ) (s : State) (b : Borders) → Alike L s (with_borders s b)
unfolding holding_on slot_of
borders_hidden L s b = record { size = refl; delay = refl; clock = refl; row = λ _ _ _. refl; place = λ _ _ _. refl; holding = λ _ _ _ _. refl }

begun_hidden : (L : ℕ) (s : State) → Alike L s (with_begun s)
unfolding holding_on slot_of
begun_hidden L s = record { size = refl; delay = refl; clock = refl; row = λ _ _ _. refl; place = λ _ _ _. refl; holding = λ _ _ _ _. refl }

-- places that stay up to L
pub places_hidden : (L : ℕ) (s : State) (places : List ℕ) → ((r : ℕ) → r < 32 → level_of r ≤ L → get_or places r 0 ≡ place_at s r) → Alike L s (with_places s places)
unfolding holding_on slot_of
places_hidden L s places e = record { size = refl; delay = refl; clock = refl; row = λ _ _ _. refl; place = λ r b l. sym (e r b l); holding = λ _ _ _ _. refl }

pub hidden : (L : ℕ) (s : State) (c : Call) → sound s ≡ true → is_kept L c ≡ false → is_started (outcome s c).answer ≡ false → Alike L s (outcome s c).state
unfolding is_kept word released
hidden L s c y k r = go (outcome s c) r (effect s c)
  where
    z : Sound s
    z = facts s y

    go : (o : Outcome) → is_started o.answer ≡ false → Effect s c o → Alike L s o.state
    go o n (unchanged a q e) = rw e (alike_refl L s)
    go o n (starts slots delay q t e) = true_false (rw e at n)
    go o n (begins level number deadline q t e) =
        let me = row_of level number in
        let up = higher L level number (rw q at k) t.names in
        let u : State = put_row (with_begun s) me (record { condition = Idle; deadline = deadline }) in
        rw e (alike_trans (alike_trans (begun_hidden L s) (row_hidden L (with_begun s) (sized_begun s z.sized) me t.names.row_is up (record { condition = Idle; deadline = deadline })))
        (places_hidden L u (set s.places me (last_place s (level_of me))) (λ r b l. placed_at_lem s z.sized me (last_place s (level_of me)) r t.names.row_is ∙ rw (ne_eqb r me (λ w. let v : level_of r ≡ level_of me = ap level_of w in omega arith)))))
    go o n (unpins level number page slot q t f p e) =
        rw e (unpinned_hidden L s z.sized (row_of level number) t.names.row_is (higher L level number (rw q at k) t.names) slot (found_below s z page slot f))
    go o n (ends level number q m e) =
        let me = row_of level number in
        let up = higher L level number (rw q at k) m.names in
        rw e (alike_trans (alike_trans (released_hidden L s z.sized z.size_most (eqb me) (λ r b l. ne_eqb me r (λ w. let v : level_of me ≡ level_of r = ap level_of w in omega arith)))
        (row_hidden L (released (eqb me) s) (sized_released (eqb me) s z.sized) me m.names.row_is up free_row))
        (places_hidden L (put_row (released (eqb me) s) me free_row) (closed_up me s.places) (λ r b l. closed_at s z.sized me r b ∙ moved_far me (place_at s me) r (place_at s r) (λ w. omega arith))))
    go o n (ticks room q w h e) = true_false (rw q at k)
    go o n (sets b q t e) = rw e (borders_hidden L s b)
    go o n (serves row page mode b a m e) = rw e (served_hidden L s z row b (asks_above c row page mode L k a) page mode)
