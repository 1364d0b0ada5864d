-- A served request leaves every row of better priority alone, and every row that is free or killed: the row, its holdings, and the pages of the slots that it holds.
use mathlib.Core.Path.{◌≡◌, refl, sym, ◌∙◌, ap}
use mathlib.Core.Bool.{Bool, true, false, ◌&&◌, ◌||◌, not}
use Prim.Native.Nat.{ℕ, ◌+◌, ◌<◌, ◌≤◌}
use native.Mathlib.Omega.{arith}
use native.Mathlib.Decide.{ℕ_discrete}
use borrow.Author.Tests.{le-leb, eq-eqb, ne_eqb, not-true}
use lib.Dec.{leb, eqb}
use Rattle.seq.specs.declared.Found.TheVariants.{At}
use Rattle.seq.proofs.Tests.{true_false, parts, and_false_right, not_true_false}
use Rattle.seq.proofs.BelowLaws.{any_none, all_each}
use Rattle.std.specs.Prelude.{Option, None}
use Rattle.model.specs.declared.Cause.TheVariants.{Taken}
use Rattle.model.specs.declared.Condition.TheVariants.{Waiting}
use Rattle.model.specs.declared.Mode.{Mode}
use Rattle.model.specs.declared.Outcome.{Outcome}
use Rattle.model.specs.declared.Slot.{Slot}
use Rattle.model.specs.declared.State.{State}
use Rattle.model.specs.Parties.{level_of}
use Rattle.model.specs.State.{row_at, slot_at, holding_at}
use Rattle.model.specs.Words.{is_live, arrival_in, has_page, holds, pins, seen, seen_holder, outranks, least_arrival, slot_of}
use Rattle.model.specs.Changes.{killed}
use Rattle.model.specs.Ranges.{Sized}
use Rattle.model.proofs.PutLaws.{row_other}
use Rattle.model.proofs.ChangeLaws.{killed_row_lem, killed_holding}
use Rattle.model.proofs.PinLaws.{not_pinned}
use Rattle.model.proofs.PriorityLaws.{level_outranks, outranks_other}
use Rattle.model.proofs.SeenLaws.{not_seen, dormant_unheld}
use Rattle.rules.specs.Slots.{LeftAlone}
use Rattle.rules.specs.Calls.{waiting, granted, conflicts, must_wait, step2, step3, pinners_killed, write_back, filled, served}
use Rattle.rules.specs.Choice.{held_above, held_at_own_level, in_e, in_f, chosen}
use Rattle.rules.specs.Sound.{sound}
use Rattle.rules.proofs.Choosing.ChoiceSteps.{chosen_is}
use Rattle.rules.specs.SoundFacts.{Sound}
use Rattle.rules.proofs.Facts.SoundFacts.{facts, empty_unheld}
use Rattle.rules.proofs.Leaves.PageLaws.{found_below, killed_page}
use Rattle.rules.proofs.Leaves.GrantLaws.{granted_row_lem, granted_slot_lem, granted_holding_lem, lowest_page, unheld_spared}
use Rattle.rules.proofs.Leaves.FillLaws.{filled_row, filled_holding, filled_other, freed}
use Rattle.rules.proofs.Leaves.ServeCases.{Step, wait_1, grant_1, grant_2, grant_3, wait_g, fill, step}
use Rattle.rules.proofs.Promises.Granting.{killed_ground, filled_ground}
use Rattle.rules.proofs.Stays.StaysChoice.{chosen_free}

module _ (s : State) (z : Sound s) (row h : ℕ) (m : h < 32) (o : outranks s h row ≡ true) where
  -- its level is at most the requester's
  level : level_of h ≤ level_of row
  level = level_outranks s h row o

  -- step 1: where the requester need not wait, no pin of a better row conflicts
  pub better_spared : (slot : ℕ) (mode : Mode) → must_wait s row slot mode ≡ false → conflicts s row slot mode h ≡ false
  unfolding must_wait
  better_spared slot mode e =
      let k = any_none (λ other. leb (level_of other) (level_of row) && conflicts s row slot mode other && outranks s other row) 32 h e m in
      not_true_false (conflicts s row slot mode h) (λ c. true_false (rw (le-leb (level_of h) (level_of row) level, c, o) at k))

  above : (slot : ℕ) → held_above s row slot ≡ true → holds s slot h ≡ false
  unfolding held_above
  above slot e = not_seen s (level_of row) slot h (not-true (seen s (level_of row) slot) (search parts depth 20)) m level

  own : (slot : ℕ) → held_at_own_level s row slot ≡ true → holds s slot h ≡ false
  unfolding held_at_own_level seen_holder
  own slot e =
      let k = all_each (λ other. not (seen_holder s (level_of row) slot other) || (eqb (level_of other) (level_of row) && not (outranks s other row))) 32 h (search parts depth 20) m in
      not_true_false (holds s slot h) (λ q.
      let v : eqb (level_of h) (level_of row) && not (outranks s h row) ≡ true = rw (le-leb (level_of h) (level_of row) level, q) at k in
      true_false (sym o ∙ not-true (outranks s h row) (search parts depth 20)))

  in_e_lem : (slot : ℕ) → in_e s row slot ≡ true → holds s slot h ≡ false
  unfolding in_e
  in_e_lem slot e = own slot (search parts depth 20)

  in_f_lem : (slot : ℕ) → in_f s row slot ≡ true → holds s slot h ≡ false
  unfolding in_f
  in_f_lem slot e = own slot (search parts depth 20)

  -- a to f: no better row holds the chosen slot
  pub chosen_unheld : (slot : ℕ) → chosen s row ≡ At slot → (slot < s.size) × (holds s slot h ≡ false)
  chosen_unheld = chosen_is s row (λ slot. holds s slot h ≡ false)
      (λ i g u. empty_unheld s z i h (omega (arith, g, z.size_most)) m u)
      (λ i d. dormant_unheld s i d h m)
      above in_e_lem in_f_lem

-- ---- the changes of a served request, at a row that is left alone

wait_leaves : (s : State) → Sized s → (row page : ℕ) (mode : Mode) (h : ℕ) → (h ≡ row → ⊥) → LeftAlone s (waiting s row page mode).state h
unfolding waiting
wait_leaves s z row page mode h n = record {
  row_same = row_other s z row (record { condition = Waiting page mode; deadline = (row_at s row).deadline }) h n;
  holding_same = λ i b. refl;
  page_same = λ i b q p. refl;
}

killed_leaves : (some : ℕ → Bool) (s : State) → Sound s → (h : ℕ) → h < 32 → some h ≡ false → LeftAlone s (killed some Taken s) h
killed_leaves some s z h m e = record {
  row_same = killed_row_lem some s z.sized Taken h m ∙ rw e;
  holding_same = λ i b. killed_holding some s z.sized Taken i h m ∙ rw e;
  page_same = λ i b q p. killed_page some s z.sized z.size_most Taken p i b;
}

-- a row that does not hold the slot that is filled
filled_leaves : (s : State) → Sound s → (slot page level h : ℕ) → slot < s.size → h < 32 → holds s slot h ≡ false → LeftAlone s (filled (pinners_killed s slot) slot page level) h
unfolding pinners_killed
filled_leaves s z slot page level h there m e =
    let k : State = killed (pins s slot) Taken s in
    let f = freed s z slot there in
    let x = killed_leaves (pins s slot) s z h m (not_pinned (holding_at s slot h).pin e) in
    record {
      row_same = filled_row k f.sized f.most slot page level f.there h ∙ x.row_same;
      holding_same = λ i b. filled_holding k f.sized f.most slot page level f.there i h m ∙ elim (ℕ_discrete i slot) [
        | yes w ↦ rw (eq-eqb i slot w, w) (sym (z.unheld slot h (rw w at b) m e))
        | no w ↦ rw (ne_eqb i slot w) (x.holding_same i b)
      ];
      page_same = λ i b q p.
          filled_other k f.sized f.most slot page level f.there p i (λ w. true_false (sym (rw w at q) ∙ e))
          ∙ x.page_same i b q p;
    }

module _ (u : State) (z : Sized u) (row slot : ℕ) (r : row < 32) (b : slot < 64) (mode : Mode) (arrival : ℕ) (back : Option ℕ) where
  pub granted_page : (page i : ℕ) → has_page page (slot_at (granted u row slot mode arrival back).state i).content ≡ has_page page (slot_at u i).content
  granted_page page i = ap (λ (x : Slot). has_page page x.content) (granted_slot_lem u z row slot r b mode arrival back i) ∙ elim (ℕ_discrete i slot) [
    | yes w ↦ rw (eq-eqb i slot w, w) (lowest_page (level_of row) page (slot_at u slot).content)
    | no w ↦ rw (ne_eqb i slot w)
  ]

  granted_leaves : (s : State) (h : ℕ) → h < 32 → (h ≡ row → ⊥) → LeftAlone s u h → LeftAlone s (granted u row slot mode arrival back).state h
  granted_leaves s h m n x = record {
    row_same = granted_row_lem u z row slot r b mode arrival back h ∙ rw (ne_eqb h row n) x.row_same;
    holding_same = λ i k. granted_holding_lem u z row slot r b mode arrival back i h m ∙ rw (ne_eqb h row n, and_false_right (eqb i slot) false refl) (x.holding_same i k);
    page_same = λ i k q p. granted_page p i ∙ x.page_same i k q p;
  }

-- ---- rows that are left alone

module _ (s : State) (sound-state : sound s ≡ true) (row : ℕ) (b : row < 32) (page : ℕ) (mode : Mode) where
  z : Sound s
  z = facts s sound-state

  -- another row that no step kills, and that does not hold the slot that is chosen
  left_alone : (h : ℕ) → h < 32 → (h ≡ row → ⊥)
      → ((slot : ℕ) → slot < 64 → must_wait s row slot mode ≡ false → conflicts s row slot mode h ≡ false)
      → ((slot : ℕ) → slot < 64 → seen s (level_of row) slot ≡ false → conflicts s row slot mode h ≡ false)
      → ((slot : ℕ) → chosen s row ≡ At slot → (slot < s.size) × (holds s slot h ≡ false))
      → LeftAlone s (served s row page mode).state h
  unfolding step2 step3
  left_alone h m n in-step-1 in-step-3 unheld = go (served s row page mode) (step s row page mode)
    where
      joined : (some : ℕ → Bool) (slot arrival : ℕ) → slot_of s page ≡ At slot → some h ≡ false → LeftAlone s (granted (killed some Taken s) row slot mode arrival None).state h
      joined some slot arrival e f =
          let g = killed_ground s z some page slot e in
          granted_leaves (killed some Taken s) g.sized row slot b g.slot_is mode arrival None s h m n (killed_leaves some s z h m f)

      go : (x : Outcome) → Step s row page mode x → LeftAlone s x.state h
      go x (wait_1 slot e v w q) = rw q (wait_leaves s z.sized row page mode h n)
      go x (grant_1 slot e v w q) = rw q (joined (conflicts s row slot mode) slot (least_arrival s (level_of row) slot) e (in-step-1 slot (found_below s z page slot e) w))
      go x (grant_2 slot e d q) =
          rw q (granted_leaves s z.sized row slot b (found_below s z page slot e) mode (arrival_in (slot_at s slot).content) None s h m n
          (record { row_same = refl; holding_same = λ i k. refl; page_same = λ i k w p. refl }))
      go x (grant_3 slot e v q) = rw q (joined (conflicts s row slot mode) slot (s.clock + s.delay) e (in-step-3 slot (found_below s z page slot e) v))
      go x (wait_g e c q) = rw q (wait_leaves s z.sized row page mode h n)
      go x (fill slot e c q) =
          let k = unheld slot c in
          let g = filled_ground s z page slot (level_of row) k.0 in
          rw q (granted_leaves (filled (pinners_killed s slot) slot page (level_of row)) g.sized row slot b g.slot_is mode (s.clock + s.delay)
          (write_back (slot_at (pinners_killed s slot) slot)) s h m n (filled_leaves s z slot page (level_of row) h k.0 m k.1))

  -- rows of better priority
  pub better_safe : (h : ℕ) → h < 32 → outranks s h row ≡ true → LeftAlone s (served s row page mode).state h
  better_safe h m o =
      left_alone h m (outranks_other s h row o) (λ slot i. better_spared s z row h m o slot mode)
      (λ slot i v. unheld_spared s row slot mode h (not_seen s (level_of row) slot h v m (level_outranks s h row o))) (chosen_unheld s z row h m o)

  -- rows that are free or killed, where the row that is served is live
  pub dead_safe : (h : ℕ) → h < 32 → is_live (row_at s h).condition ≡ false → is_live (row_at s row).condition ≡ true → LeftAlone s (served s row page mode).state h
  dead_safe h m d l =
      left_alone h m (λ e. true_false (sym l ∙ ap (λ (r : ℕ). is_live (row_at s r).condition) (sym e) ∙ d))
      (λ slot i w. unheld_spared s row slot mode h (unheld slot i)) (λ slot i v. unheld_spared s row slot mode h (unheld slot i))
      (λ slot c. let i = (chosen_free s row b z slot c).0 in (i, unheld slot (omega (arith, z.size_most))))
    where
      unheld : (slot : ℕ) → slot < 64 → holds s slot h ≡ false
      unheld slot i = not_true_false (holds s slot h) (λ q. true_false (sym (z.held slot h i m q).live ∙ d))
