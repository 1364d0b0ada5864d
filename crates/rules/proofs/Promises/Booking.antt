-- After every call but an accepted start a page's writes are booked in its slot, or the page is reported for write-back, by the answer or by an entry of a tick's list.
use mathlib.Core.Path.{◌≡◌, refl, sym, ◌∙◌, ap, subst}
use mathlib.Core.Bool.{Bool, true, false, cond}
use mathlib.Core.List.{[]}
use mathlib.Core.Logic.{◌⊎◌, inl, inr}
use Prim.Native.Nat.{ℕ, ◌+◌, ◌<◌}
use native.Mathlib.Omega.{arith}
use native.Mathlib.Decide.{ℕ_discrete}
use borrow.Author.Tests.{ne_eqb}
use lib.Dec.{eqb}
use Rattle.seq.specs.declared.Found.TheVariants.{At}
use Rattle.seq.proofs.Tests.{true_false}
use Rattle.model.specs.declared.Answer.{Answer}
use Rattle.std.specs.Prelude.{Option, None, Some}
use Rattle.model.specs.declared.Cause.TheVariants.{Taken}
use Rattle.model.specs.declared.Content.TheVariants.{Filled}
use Rattle.model.specs.declared.Holding.{Holding}
use Rattle.model.specs.declared.Mode.{Mode}
use Rattle.model.specs.declared.Outcome.{Outcome}
use Rattle.model.specs.declared.Slot.{Slot}
use Rattle.model.specs.declared.State.{State}
use Rattle.model.specs.Parties.{row_of, level_of}
use Rattle.model.specs.State.{slot_at, holding_at, with_borders}
use Rattle.model.specs.Words.{has_page, dirty_in, is_write, pins, slot_of}
use Rattle.model.specs.Changes.{released, killed, cleared}
use Rattle.model.specs.Ranges.{Sized}
use Rattle.model.proofs.StateLaws.{slot_put}
use Rattle.model.proofs.ChangeLaws.{released_holding, released_slot, killed_slot, killed_holding, sized_killed, cleared_holding}
use Rattle.model.proofs.ContentLaws.{page_has}
use Rattle.model.proofs.PinLaws.{not_written}
use Rattle.model.proofs.BookLaws.{Booked, booked_same, booked_trans, booked_dropped}
use Rattle.rules.specs.Answers.{word, page_back, slot_told, back_told, is_started, is_clock}
use Rattle.rules.specs.Choice.{chosen}
use Rattle.rules.specs.Calls.{row_begun, unpinned_at, waiting, granted, pinners_killed, write_back, filled, late_killed, is_late, delivered_rows, advanced, three_steps, served, row_ended}
use Rattle.rules.specs.Listed.{SomeFill}
use Rattle.rules.specs.Tries.{filled_by, all_tried}
use Rattle.model.specs.declared.Call.{Call}
use Rattle.rules.specs.SoundFacts.{Sound, BordersSound}
use Rattle.rules.proofs.Leaves.PageLaws.{found_below}
use Rattle.rules.proofs.Leaves.CallEffects.{Effect, unchanged, starts, begins, unpins, ends, ticks, sets, serves}
use Rattle.rules.proofs.Leaves.GrantLaws.{granted_clock}
use Rattle.rules.proofs.Leaves.AnswerCases.{by_slot}
use Rattle.rules.proofs.Leaves.ServeCases.{served_fixed}
use Rattle.rules.proofs.Leaves.TickLaws.{later, ticked_slot, ticked_holding, ticked_clock}
use Rattle.rules.proofs.Promises.FillLists.{some_left, some_right}
use Rattle.rules.proofs.Promises.Serving.{Serving, waits, waits_g, joins, fills, serving}
use Rattle.rules.proofs.Stays.StaysChoice.{chosen_free}
use Rattle.rules.proofs.Stays.StaysBorders.{ticked_borders}
use Rattle.rules.proofs.Stays.StaysTick.{ticked_sound}
use Rattle.rules.proofs.Stays.StaysTries.{granted_told, by_all_tried}
use Rattle.rules.proofs.Promises.GrantBooks.{granted_booked, unpinned_booked}
use Rattle.rules.proofs.Promises.Granting.{Ground, killed_ground, filled_ground}

-- the writes to a slot's page by the clock afterwards: booked there, or booked in a state u in which no write pin is left, and reported if the page is dirty in u
pub data Writes (s t : State) (page slot : ℕ) (Report : Type 0) : Type 0 where
  stay : (k : ℕ) → t.clock ≡ k → Booked k page s t slot → Writes s t page slot Report
  reported : (k : ℕ) → t.clock ≡ k → (u : State) → Booked k page s u slot → ((q : ℕ) → q < 32 → is_write (holding_at u slot q).pin ≡ false)
      → (has_page page (slot_at u slot).content ≡ true → dirty_in (slot_at u slot).content ≡ true → Report) → Writes s t page slot Report

-- the same with a weaker report, and of one change after another at one clock
writes_weaker : (s t : State) (page slot : ℕ) {P Q : Type 0} → (P → Q) → Writes s t page slot P → Writes s t page slot Q
writes_weaker s t page slot f (stay k e x) = stay k e x
writes_weaker s t page slot f (reported k e u x n r) = reported k e u x n (λ h d. f (r h d))

writes_then : (s t v : State) (page slot : ℕ) {P : Type 0} → v.clock ≡ t.clock → Writes s t page slot P → Writes t v page slot P → Writes s v page slot P
writes_then s t v page slot c (reported k e u x n r) w = reported k (c ∙ e) u x n r
writes_then s t v page slot c (stay k e x) (stay j g y) = stay k (c ∙ e) (booked_trans x (subst (λ i. Booked i page t v slot) (sym g ∙ c ∙ e) y))
writes_then s t v page slot c (stay k e x) (reported j g u y n r) = reported k (c ∙ e) u (booked_trans x (subst (λ i. Booked i page t u slot) (sym g ∙ c ∙ e) y)) n r

-- the answer tells the slot, and its page to write back
abbrev Told : Answer → ℕ → ℕ → Type 0
Told a slot page = (slot_told a ≡ slot + 1) × (back_told a ≡ page + 1)

-- what is reported by the answer of a try is in its entry
entered : (row p slot page : ℕ) (a : Answer) → Told a slot page → SomeFill (λ f. (f.slot ≡ slot) × (f.back ≡ Some page)) (filled_by row p a)
unfolding slot_told back_told
entered row p slot page a e =
    by_slot a (λ i back k. rw k (inl (named i back (rw k at e)))) (λ due i back k. rw k (inl (named i back (rw k at e)))) (λ n k. absurd (omega (arith, e.1)))
  where
    named : (i : ℕ) (back : Option ℕ) → (i + 1 ≡ slot + 1) × (page_back back ≡ page + 1) → (i ≡ slot) × (back ≡ Some page)
    named i None k = absurd (omega (arith, k.1))
    named i (Some q) k = let n : q ≡ page = omega (arith, k.1) in (omega (arith, k.0), ap Some n)

-- a dirty page is reported for write-back
back_reported : (page : ℕ) (x : Slot) → has_page page x.content ≡ true → dirty_in x.content ≡ true → page_back (write_back x) ≡ page + 1
unfolding write_back
back_reported page x h d = rw (d, (page_has page x.content h).1)

module _ (s : State) (z : Sound s) (page slot : ℕ) (b : slot < 64) where
  pub ended_booked : (row : ℕ) → Booked s.clock page s (row_ended s row) slot
  ended_booked row = booked_dropped page (eqb row) s (row_ended s row) slot (released_slot (eqb row) s z.sized slot b) (released_holding (eqb row) s z.sized slot)

  pub ticked_booked : Booked (s.clock + 1) page s (late_killed (later s)) slot
  unfolding delivered_rows advanced
  ticked_booked =
      let x = booked_dropped page (is_late (later s)) (later s) (late_killed (later s)) slot (ticked_slot s z.sized slot b) (ticked_holding s z.sized slot) in
      record { has_it = x.has_it; dirty = x.dirty; wrote = x.wrote }

  killed_booked : (some : ℕ → Bool) → Booked s.clock page s (killed some Taken s) slot
  killed_booked some = booked_dropped page some s (killed some Taken s) slot (killed_slot some s z.sized Taken slot b) (killed_holding some s z.sized Taken slot)

  joined_booked : (some : ℕ → Bool) (row p i : ℕ) → row < 32 → slot_of s p ≡ At i → (mode : Mode) (arrival : ℕ) (back : Option ℕ) → Writes s (granted (killed some Taken s) row i mode arrival back).state page slot (Told (granted (killed some Taken s) row i mode arrival back).answer slot page)
  joined_booked some row p i r e mode arrival back =
      let u : State = killed some Taken s in
      let g = killed_ground s z some p i e in
      stay s.clock (granted_clock u g.sized row i r g.slot_is mode arrival back ∙ g.clock)
      (booked_trans (killed_booked some) (granted_booked u g.sized row i r g.slot_is mode arrival back s.clock page slot))

  filled_booked : (row p i : ℕ) → row < 32 → chosen s row ≡ At i → (mode : Mode) (arrival : ℕ)
      → Writes s (granted (filled (pinners_killed s i) i p (level_of row)) row i mode arrival (write_back (slot_at (pinners_killed s i) i))).state page slot
      (Told (granted (filled (pinners_killed s i) i p (level_of row)) row i mode arrival (write_back (slot_at (pinners_killed s i) i))).answer slot page)
  unfolding filled cleared pinners_killed
  filled_booked row p i r c mode arrival = elim (ℕ_discrete slot i) [
    | yes w ↦
        reported s.clock clock k (killed_booked (pins s i)) (λ q m. none q m w (pins s i q) refl)
        (λ h d. let t = granted_told u row i mode arrival back in (t.0 ∙ ap (λ (n : ℕ). n + 1) (sym w), t.1 ∙ back_reported page (slot_at k i) (rw w at h) (rw w at d)))
    | no w ↦
        stay s.clock clock
        (booked_trans (killed_booked (pins s i))
        (booked_trans (booked_same s.clock page k u slot (slot_put k kz i put slot g.slot_is ∙ rw (ne_eqb slot i w)) (λ q m. cleared_holding i k kz slot q m ∙ rw (ne_eqb slot i w)))
        (granted_booked u g.sized row i r g.slot_is mode arrival back s.clock page slot)))
  ]
    where
      k : State
      k = killed (pins s i) Taken s

      kz : Sized k
      kz = sized_killed (pins s i) s z.sized Taken

      put : Slot
      put = record { content = Filled p (k.clock + k.delay) false (level_of row); touch = k.clock }

      u : State
      u = filled k i p (level_of row)

      back : Option ℕ
      back = write_back (slot_at k i)

      g : Ground s u p i
      g = filled_ground s z p i (level_of row) (chosen_free s row r z i c).0

      clock : (granted u row i mode arrival back).state.clock ≡ s.clock
      clock = granted_clock u g.sized row i r g.slot_is mode arrival back ∙ g.clock

      -- the pins on the chosen slot are gone
      none : (q : ℕ) → q < 32 → slot ≡ i → (x : Bool) → pins s i q ≡ x → is_write (holding_at k slot q).pin ≡ false
      none q m w true x = ap (λ (h : Holding). is_write h.pin) (killed_holding (pins s i) s z.sized Taken slot q m) ∙ rw x
      none q m w false x =
          ap (λ (h : Holding). is_write h.pin) (killed_holding (pins s i) s z.sized Taken slot q m)
          ∙ rw (x, w) (not_written (holding_at s i q).pin x)

  served_writes : (row p : ℕ) (mode : Mode) → row < 32 → (o : Outcome) → Serving s row p mode o → Writes s o.state page slot (Told o.answer slot page)
  unfolding waiting
  served_writes row p mode r o (waits i e v m q) = rw q (stay s.clock refl (booked_same s.clock page s (waiting s row p mode).state slot refl (λ _ _. refl)))
  served_writes row p mode r o (waits_g e n q) = rw q (stay s.clock refl (booked_same s.clock page s (waiting s row p mode).state slot refl (λ _ _. refl)))
  served_writes row p mode r o (joins i arrival some e n q) = rw q (joined_booked some row p i r e mode arrival None)
  served_writes row p mode r o (fills i e c q) = rw q (filled_booked row p i r c mode (s.clock + s.delay))

-- the tries of a tick: an entry of the list reports
tried_writes : (page slot : ℕ) → slot < 64 → (s : State) → Sound s → BordersSound s
    → ((all_tried s).state.clock ≡ s.clock) × Writes s (all_tried s).state page slot (SomeFill (λ f. (f.slot ≡ slot) × (f.back ≡ Some page)) (all_tried s).fills)
tried_writes page slot b = by_all_tried (λ s y. (y.state.clock ≡ s.clock) × Writes s y.state page slot (SomeFill (λ f. (f.slot ≡ slot) × (f.back ≡ Some page)) y.fills))
    (λ s. (refl, stay s.clock refl (booked_same s.clock page s s slot refl (λ _ _. refl))))
    (λ s row p mode y z r w next more.
    let o = served s row p mode in
    let new = filled_by row p o.answer in (
      more.0 ∙ (served_fixed s row p mode).clock,
      writes_then s o.state y.state page slot more.0
          (writes_weaker s o.state page slot (λ e. some_left (λ f. (f.slot ≡ slot) × (f.back ≡ Some page)) new y.fills (entered row p slot page o.answer e)) (served_writes s z page slot b row p mode r o (serving s row p mode)))
          (writes_weaker o.state y.state page slot (λ e. some_right (λ f. (f.slot ≡ slot) × (f.back ≡ Some page)) new y.fills e) more.1),
    ))

-- what a call reports: by its answer, or by an entry of its list
abbrev pub Reports : State → Outcome → ℕ → ℕ → Type 0
Reports s o slot page = Told o.answer slot page ⊎ SomeFill (λ f. (f.slot ≡ slot) × (f.back ≡ Some page)) (cond (is_clock o.answer) (all_tried (three_steps s)).fills [])

module _ (s : State) (z : Sound s) (y : BordersSound s) (page slot : ℕ) (b : slot < 64) where
  pub writes : (c : Call) (o : Outcome) → is_started o.answer ≡ false → Effect s c o → Writes s o.state page slot (Reports s o slot page)
  unfolding unpinned_at released word
  writes c o n (unchanged a x e) = rw e (stay s.clock refl (booked_same s.clock page s s slot refl (λ _ _. refl)))
  writes c o n (starts slots delay q x e) = true_false (rw e at n)
  writes c o n (begins level number deadline q t e) = rw e (stay s.clock refl (booked_same s.clock page s (row_begun s (row_of level number) deadline) slot refl (λ _ _. refl)))
  writes c o n (unpins level number p i q t f x e) =
      rw e (stay s.clock refl (unpinned_booked s z.sized (row_of level number) i t.names.row_is (found_below s z p i f) page slot))
  writes c o n (ends level number q m e) = rw e (stay s.clock refl (ended_booked s z page slot b (row_of level number)))
  writes c o n (ticks room q w x e) =
      let u = three_steps s in
      let t = tried_writes page slot b u (ticked_sound s z x) (ticked_borders s z y) in
      rw e (writes_then s u (all_tried u).state page slot t.0 (stay (s.clock + 1) (ticked_clock s z.sized) (ticked_booked s z page slot b))
      (writes_weaker u (all_tried u).state page slot inr t.1))
  writes c o n (sets b q t e) = rw e (stay s.clock refl (booked_same s.clock page s (with_borders s b) slot refl (λ _ _. refl)))
  writes c o n (serves row p mode r a x e) = writes_weaker s o.state page slot inl (served_writes s z page slot b row p mode r o (rw (← e) at (serving s row p mode)))
