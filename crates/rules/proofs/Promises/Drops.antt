-- When a row no longer holds a page: it is no longer live, or the slot was given another page.
use mathlib.Core.Path.{◌≡◌, refl, sym, ◌∙◌, ap}
use mathlib.Core.Bool.{Bool, true, false, cond, ◌&&◌}
use mathlib.Core.List.{List, [], ◌∷◌, ◌++◌}
use mathlib.Core.Logic.{◌⊎◌, inl, inr}
use Prim.Native.Nat.{ℕ, ◌+◌, ◌<◌}
use native.Mathlib.Decide.{ℕ_discrete}
use borrow.Author.Tests.{eqb-true, eq-eqb, ne_eqb}
use lib.Dec.{leb, eqb}
use Rattle.seq.specs.declared.Found.TheVariants.{At, Nowhere}
use Rattle.seq.specs.Order.{Each}
use Rattle.seq.proofs.Tests.{true_false, and_true, both_true, not_true_false}
use Rattle.model.specs.declared.Answer.TheVariants.{Ready, Fetch}
use Rattle.std.specs.Prelude.{Option, None}
use Rattle.model.specs.declared.Cause.TheVariants.{Taken}
use Rattle.model.specs.declared.Call.TheVariants.{Tick}
use Rattle.model.specs.declared.Condition.TheVariants.{Waiting}
use Rattle.model.specs.declared.Holding.{Holding}
use Rattle.model.specs.declared.Mode.{Mode}
use Rattle.model.specs.declared.Outcome.{Outcome}
use Rattle.model.specs.declared.Row.{Row}
use Rattle.model.specs.declared.State.{State}
use Rattle.model.specs.Parties.{row_of, level_of, last_clock}
use Rattle.model.specs.State.{free_row, empty_holding, row_at, slot_at, holding_at, put_row}
use Rattle.model.specs.Words.{is_live, has_page, is_held, holds, pins, slot_of}
use Rattle.model.specs.Changes.{released, killed, cleared}
use Rattle.model.specs.Ranges.{Sized}
use Rattle.model.proofs.StateLaws.{fresh_row, row_put}
use Rattle.model.proofs.ChangeLaws.{released_holding, sized_released, killed_row_lem, killed_holding, sized_killed, cleared_holding}
use Rattle.rules.specs.Choice.{chosen}
use Rattle.rules.specs.Calls.{unpinned_at, waiting, granted, pinners_killed, write_back, filled, late_killed, is_late, three_steps, served}
use Rattle.model.specs.declared.Call.{Call}
use Rattle.rules.specs.Listed.{Listed, SomeFill}
use Rattle.rules.specs.Refusals.{is_waiting, tick_refusal}
use Rattle.rules.specs.Requests.{TriedOn, own, stored}
use Rattle.rules.specs.Slots.{holds_page, Refilled}
use Rattle.rules.specs.Run.{outcome}
use Rattle.rules.specs.Sound.{sound}
use Rattle.rules.specs.Tries.{Fill, Tried, filled_by, tried_as, try_row, tries, waiters, all_tried}
use Rattle.rules.specs.SoundFacts.{Sound}
use Rattle.rules.proofs.Facts.SoundFacts.{facts}
use Rattle.rules.proofs.Leaves.PageLaws.{found_below, killed_page}
use Rattle.rules.proofs.Leaves.CallEffects.{Effect, unchanged, starts, begins, unpins, ends, ticks, sets, serves}
use Rattle.rules.proofs.Leaves.FillLaws.{filled_other, freed}
use Rattle.rules.proofs.Leaves.GrantLaws.{granted_row_lem}
use Rattle.rules.proofs.Leaves.TickLaws.{later, ticked_row, ticked_holding}
use Rattle.rules.proofs.Leaves.TryLaws.{and_then, skipped, by_tries, waiters_rows}
use Rattle.rules.proofs.Promises.Serving.{Serving, waits, waits_g, joins, fills, serving}
use Rattle.rules.proofs.Stays.StaysChoice.{chosen_free}
use Rattle.rules.proofs.Stays.StaysSound.{steps_sound}
use Rattle.rules.proofs.Stays.StaysTries.{stored_sound}
use Rattle.rules.proofs.Promises.BetterSafe.{dead_safe}
use Rattle.rules.proofs.Promises.Filled.{fills_hold}
use Rattle.rules.proofs.Promises.FillLists.{some_left, some_right, each_some}
use Rattle.rules.proofs.Promises.Booking.{ended_booked, ticked_booked}
use Rattle.rules.proofs.Promises.GrantBooks.{granted_holds, granted_booked, unpinned_holds, unpinned_booked}
use Rattle.rules.proofs.Promises.Granting.{Ground, killed_ground, filled_ground}

abbrev pub Lost : State → Call → State → ℕ → ℕ → Type 0
Lost s c t slot q = (is_live (row_at t q).condition ≡ false) ⊎ Refilled s c t slot q

-- a request served on s chose the slot for a page that was in none, and row q had no pin there: t has the page in the slot, and an entry names both
record Chose (s : State) (row page : ℕ) (o : Outcome) (slot q : ℕ) : Type 0 where
  pub nowhere : slot_of s page ≡ Nowhere
  pub chose : chosen s row ≡ At slot
  pub unpinned : pins s slot q ≡ false
  pub new_page : has_page page (slot_at o.state slot).content ≡ true
  pub listed : SomeFill (λ f. (f.slot ≡ slot) × (f.page ≡ page)) (filled_by row page o.answer)

not_held : (a b : Bool) → a && b ≡ false → b ≡ true → a ≡ false
not_held true b e k = true_false (sym k ∙ e)
not_held false b e k = refl

-- a holding that is dropped with those of some rows is of one of them
dropped_some : {P : Type 0} (gone : Bool) (h k : Holding) → k ≡ cond gone empty_holding h → is_held h.pin ≡ true → is_held k.pin ≡ false → (gone ≡ true → P) → P
dropped_some true h k e a b f = f refl
dropped_some false h k e a b f = true_false (sym a ∙ (rw e at b))

module _ (s : State) (z : Sound s) (slot q : ℕ) (b : slot < 64) (m : q < 32) (before : holds s slot q ≡ true) where
  ended_drop : (row : ℕ) → row < 32 → holds (put_row (released (eqb row) s) row free_row) slot q ≡ false → is_live (row_at (put_row (released (eqb row) s) row free_row) q).condition ≡ false
  ended_drop row h e =
      dropped_some (eqb row q) (holding_at s slot q) (holding_at (released (eqb row) s) slot q) (released_holding (eqb row) s z.sized slot q m) before e (λ k.
      ap (λ (x : Row). is_live x.condition) (row_put (released (eqb row) s) (sized_released (eqb row) s z.sized) row free_row q h) ∙ rw (eq-eqb q row (sym (eqb-true row q k))))

  ticked_drop : holds (late_killed (later s)) slot q ≡ false → is_live (row_at (late_killed (later s)) q).condition ≡ false
  ticked_drop e =
      dropped_some (is_late (later s) q) (holding_at s slot q) (holding_at (late_killed (later s)) slot q) (ticked_holding s z.sized slot q m) before e (λ k.
      ap (λ (x : Row). is_live x.condition) (ticked_row s z.sized q m) ∙ rw k)

  -- a row killed before a grant to another stays killed
  taken_drop : (some : ℕ → Bool) (row : ℕ) → row < 32 → some row ≡ false → some q ≡ true → (u : State) → Sized u → row_at u q ≡ row_at (killed some Taken s) q
      → (i : ℕ) → i < 64 → (mode : Mode) (arrival : ℕ) (back : Option ℕ) → is_live (row_at (granted u row i mode arrival back).state q).condition ≡ false
  taken_drop some row r mine gone u y same i h mode arrival back =
      let n : q ≡ row → ⊥ = λ w. true_false (sym gone ∙ ap some w ∙ mine) in
      ap (λ (x : Row). is_live x.condition) (granted_row_lem u y row i r h mode arrival back q)
      ∙ rw (ne_eqb q row n, same, killed_row_lem some s z.sized Taken q m, gone)

  joined_drop : (some : ℕ → Bool) (row page i : ℕ) → row < 32 → some row ≡ false → slot_of s page ≡ At i → (mode : Mode) (arrival : ℕ) (back : Option ℕ)
      → holds (granted (killed some Taken s) row i mode arrival back).state slot q ≡ false → is_live (row_at (granted (killed some Taken s) row i mode arrival back).state q).condition ≡ false
  joined_drop some row page i r mine e mode arrival back k =
      let u : State = killed some Taken s in
      let g = killed_ground s z some page i e in
      dropped_some (some q) (holding_at s slot q) (holding_at u slot q) (killed_holding some s z.sized Taken slot q m) before
      (not_true_false (holds u slot q) (λ h. true_false (sym (granted_holds u g.sized row i r g.slot_is mode arrival back slot q m h) ∙ k)))
      (λ gone. taken_drop some row r mine gone u g.sized refl i g.slot_is mode arrival back)

  filled_drop : (row page i : ℕ) → row < 32 → chosen s row ≡ At i → (mode : Mode) (arrival : ℕ) (back : Option ℕ)
      → ((slot ≡ i → ⊥) → holds (granted (filled (pinners_killed s i) i page (level_of row)) row i mode arrival back).state slot q ≡ false)
      → (is_live (row_at (granted (filled (pinners_killed s i) i page (level_of row)) row i mode arrival back).state q).condition ≡ false)
      ⊎ ((slot ≡ i) × (pins s slot q ≡ false))
  unfolding filled cleared pinners_killed
  filled_drop row page i r c mode arrival back k = elim (ℕ_discrete slot i) [
    | yes w ↦ at_slot w (pins s slot q) refl
    | no w ↦ inl (dropped_some (pins s i q) (holding_at s slot q) (holding_at u slot q) (u_holding ∙ rw (ne_eqb slot i w) (killed_holding (pins s i) s z.sized Taken slot q m)) before (u_dropped w) killed_other)
  ]
    where
      u : State
      u = filled (pinners_killed s i) i page (level_of row)

      g : Ground s u page i
      g = filled_ground s z page i (level_of row) (chosen_free s row r z i c).0

      u_holding : holding_at u slot q ≡ cond (eqb slot i) empty_holding (holding_at (killed (pins s i) Taken s) slot q)
      u_holding = cleared_holding i (killed (pins s i) Taken s) (sized_killed (pins s i) s z.sized Taken) slot q m

      u_dropped : (slot ≡ i → ⊥) → holds u slot q ≡ false
      u_dropped w = not_true_false (holds u slot q) (λ h. true_false (sym (granted_holds u g.sized row i r g.slot_is mode arrival back slot q m h) ∙ k w))

      killed_other : pins s i q ≡ true → is_live (row_at (granted u row i mode arrival back).state q).condition ≡ false
      killed_other gone = taken_drop (pins s i) row r (chosen_free s row r z i c).1 gone u g.sized refl i g.slot_is mode arrival back

      at_slot : slot ≡ i → (p : Bool) → pins s slot q ≡ p → (is_live (row_at (granted u row i mode arrival back).state q).condition ≡ false) ⊎ ((slot ≡ i) × (pins s slot q ≡ false))
      at_slot w true p = inl (killed_other (rw w at p))
      at_slot w false p = inr (w, p)

  -- a served request
  filled_chose : (row page : ℕ) (mode : Mode) → row < 32 → (i : ℕ) → slot_of s page ≡ Nowhere → chosen s row ≡ At i → (arrival : ℕ) (back : Option ℕ) → (slot ≡ i) × (pins s slot q ≡ false)
      → Chose s row page (granted (filled (pinners_killed s i) i page (level_of row)) row i mode arrival back) slot q
  unfolding granted
  filled_chose row page mode r i e n arrival back x =
      let u : State = filled (pinners_killed s i) i page (level_of row) in
      let g = filled_ground s z page i (level_of row) (chosen_free s row r z i n).0 in
      record {
        nowhere = e;
        chose = n ∙ ap At (sym x.0);
        unpinned = x.1;
        new_page = rw x.0 ((granted_booked u g.sized row i r g.slot_is mode arrival back 0 page i).has_it g.has_it);
        listed = go (leb arrival u.clock);
      }
    where
      go : (d : Bool) → SomeFill (λ f. (f.slot ≡ slot) × (f.page ≡ page)) (filled_by row page (cond d (Ready i back) (Fetch arrival i back)))
      go true = inl (sym x.0, refl)
      go false = inl (sym x.0, refl)

  -- the page that the row holds there
  module _ (old : ℕ) (has : has_page old (slot_at s slot).content ≡ true) where
    joined_page : (some : ℕ → Bool) (row page i : ℕ) → row < 32 → slot_of s page ≡ At i → (mode : Mode) (arrival : ℕ) (back : Option ℕ)
        → has_page old (slot_at (granted (killed some Taken s) row i mode arrival back).state slot).content ≡ true
    joined_page some row page i r e mode arrival back =
        let g = killed_ground s z some page i e in
        (granted_booked (killed some Taken s) g.sized row i r g.slot_is mode arrival back 0 old slot).has_it (killed_page some s z.sized z.size_most Taken old slot b ∙ has)

    filled_page : (row page i : ℕ) → row < 32 → chosen s row ≡ At i → (slot ≡ i → ⊥) → (mode : Mode) (arrival : ℕ) (back : Option ℕ)
        → has_page old (slot_at (granted (filled (pinners_killed s i) i page (level_of row)) row i mode arrival back).state slot).content ≡ true
    unfolding pinners_killed
    filled_page row page i r n w mode arrival back =
        let k : State = killed (pins s i) Taken s in
        let c = (chosen_free s row r z i n).0 in
        let f = freed s z i c in
        let g = filled_ground s z page i (level_of row) c in
        (granted_booked (filled k i page (level_of row)) g.sized row i r g.slot_is mode arrival back 0 old slot).has_it
        (filled_other k f.sized f.most i page (level_of row) f.there old slot w ∙ killed_page (pins s i) s z.sized z.size_most Taken old slot b ∙ has)

    served_drop : (row page : ℕ) (mode : Mode) → row < 32 → (o : Outcome) → Serving s row page mode o → holds_page o.state slot q old ≡ false
        → (is_live (row_at o.state q).condition ≡ false) ⊎ Chose s row page o slot q
    unfolding waiting
    served_drop row page mode r o (waits i e v w k) h = true_false (sym (both_true before has) ∙ (rw k at h))
    served_drop row page mode r o (waits_g e n k) h = true_false (sym (both_true before has) ∙ (rw k at h))
    served_drop row page mode r o (joins i arrival some e mine k) h =
        inl (rw k (joined_drop some row page i r mine e mode arrival None (not_held _ _ (rw k at h) (joined_page some row page i r e mode arrival None))))
    served_drop row page mode r o (fills i e n k) h =
        let back = write_back (slot_at (pinners_killed s i) i) in
        rw k (go (filled_drop row page i r n mode (s.clock + s.delay) back (λ w. not_held _ _ (rw k at h) (filled_page row page i r n w mode (s.clock + s.delay) back))))
      where
        t : Outcome
        t = granted (filled (pinners_killed s i) i page (level_of row)) row i mode (s.clock + s.delay) (write_back (slot_at (pinners_killed s i) i))

        go : (is_live (row_at t.state q).condition ≡ false) ⊎ ((slot ≡ i) × (pins s slot q ≡ false)) → (is_live (row_at t.state q).condition ≡ false) ⊎ Chose s row page t slot q
        go (inl d) = inl d
        go (inr x) = inr (filled_chose row page mode r i e n (s.clock + s.delay) (write_back (slot_at (pinners_killed s i) i)) x)

-- ---- the tries of a tick

-- in the tries of some rows on s one of them chose the slot so, and an entry names it
record ChoseIn (rows : List ℕ) (s : State) (fs : List Fill) (slot q : ℕ) : Type 0 where
  pub on : State
  pub row : ℕ
  pub page : ℕ
  pub mode : Mode
  pub tried : TriedOn rows s on row
  pub waits : (row_at on row).condition ≡ Waiting page mode
  pub nowhere : slot_of on page ≡ Nowhere
  pub chose : chosen on row ≡ At slot
  pub unpinned : pins on slot q ≡ false
  pub listed : SomeFill (λ f. (f.slot ≡ slot) × (f.page ≡ page)) fs

chose_later : (r : ℕ) (rows : List ℕ) (s : State) (new fs : List Fill) (slot q : ℕ) → ChoseIn rows (try_row (row_at s r).condition s r).state fs slot q → ChoseIn (r ∷ rows) s (new ++ fs) slot q
chose_later r rows s new fs slot q x = record {
  on = x.on;
  row = x.row;
  page = x.page;
  mode = x.mode;
  tried = inr x.tried;
  waits = x.waits;
  nowhere = x.nowhere;
  chose = x.chose;
  unpinned = x.unpinned;
  listed = some_right (λ f. (f.slot ≡ slot) × (f.page ≡ x.page)) new fs x.listed;
}

module _ (slot q page : ℕ) (b : slot < 64) (m : q < 32) where
  -- a row that is not live stays so; a holding goes with its row, or where a row that is tried chose the slot
  abbrev Tries : List ℕ → State → Tried → Type 0
  Tries rows s y =
      Each (λ row. row < 32) rows → sound s ≡ true
      → (is_live (row_at s q).condition ≡ false → is_live (row_at y.state q).condition ≡ false)
      × (holds_page s slot q page ≡ true → holds_page y.state slot q page ≡ false → (is_live (row_at y.state q).condition ≡ false) ⊎ ChoseIn rows s y.fills slot q)

  tries_drop : (rows : List ℕ) (s : State) → Tries rows s (tries rows s)
  tries_drop = by_tries Tries (λ s h z. (λ d. d, λ k n. true_false (sym k ∙ n))) skip serve
    where
      skip : (row : ℕ) (rows : List ℕ) (s : State) (y : Tried) → is_waiting (row_at s row).condition ≡ false → Tries rows s y → Tries (row ∷ rows) s y
      skip row rows s y w more h z = let x = more h.1 z in (x.0, λ k n. go (x.1 k n))
        where
          go : (is_live (row_at y.state q).condition ≡ false) ⊎ ChoseIn rows s y.fills slot q → (is_live (row_at y.state q).condition ≡ false) ⊎ ChoseIn (row ∷ rows) s y.fills slot q
          go (inl d) = inl d
          go (inr x) = inr (chose_later row rows s [] y.fills slot q (rw (skipped (row_at s row).condition s row w) x))

      serve : (row : ℕ) (rows : List ℕ) (s : State) (p : ℕ) (mode : Mode) (y : Tried) → (row_at s row).condition ≡ Waiting p mode
          → Tries rows (served s row p mode).state y → Tries (row ∷ rows) s (and_then (tried_as (served s row p mode) row p) y)
      serve row rows s p mode y w more h z = (λ d. x.0 (dead d), λ k n. at (holds_page t slot q page) refl k n)
        where
          t : State
          t = (served s row p mode).state

          x : (is_live (row_at t q).condition ≡ false → is_live (row_at y.state q).condition ≡ false)
              × (holds_page t slot q page ≡ true → holds_page y.state slot q page ≡ false → (is_live (row_at y.state q).condition ≡ false) ⊎ ChoseIn rows t y.fills slot q)
          x = more h.1 (stored_sound s z row h.0 p mode w)

          dead : is_live (row_at s q).condition ≡ false → is_live (row_at t q).condition ≡ false
          dead d = rw (dead_safe s z row h.0 p mode q m d (rw w)).row_same d

          new : List Fill
          new = filled_by row p (served s row p mode).answer

          now : (is_live (row_at t q).condition ≡ false) ⊎ Chose s row p (served s row p mode) slot q → (is_live (row_at y.state q).condition ≡ false) ⊎ ChoseIn (row ∷ rows) s (new ++ y.fills) slot q
          now (inl d) = inl (x.0 d)
          now (inr c) = inr (record {
            on = s;
            row = row;
            page = p;
            mode = mode;
            tried = inl (refl, refl);
            waits = w;
            nowhere = c.nowhere;
            chose = c.chose;
            unpinned = c.unpinned;
            listed = some_left (λ f. (f.slot ≡ slot) × (f.page ≡ p)) new y.fills c.listed;
          })

          later_on : (is_live (row_at y.state q).condition ≡ false) ⊎ ChoseIn rows t y.fills slot q → (is_live (row_at y.state q).condition ≡ false) ⊎ ChoseIn (row ∷ rows) s (new ++ y.fills) slot q
          later_on (inl d) = inl d
          later_on (inr c) = inr (chose_later row rows s new y.fills slot q (rw w c))

          at : (e : Bool) → holds_page t slot q page ≡ e → holds_page s slot q page ≡ true → holds_page y.state slot q page ≡ false
              → (is_live (row_at y.state q).condition ≡ false) ⊎ ChoseIn (row ∷ rows) s (new ++ y.fills) slot q
          at true e k n = later_on (x.1 e n)
          at false e k n =
              let c = and_true (holds s slot q) (has_page page (slot_at s slot).content) k in
              now (served_drop s (facts s z) slot q b m c.0 page c.1 row p mode h.0 (served s row p mode) (serving s row p mode) e)

-- the slot that an entry names has its page
placed : (t : State) (f : Fill) (slot page : ℕ) → Listed t f → (f.slot ≡ slot) × (f.page ≡ page) → has_page page (slot_at t slot).content ≡ true
placed t f slot page l e = rw (← e.0, ← e.1) l.has_it

-- ---- a call

module _ (s : State) (z : sound s ≡ true) (slot q page : ℕ) (b : slot < 64) (m : q < 32) (before : holds s slot q ≡ true) (has : has_page page (slot_at s slot).content ≡ true) (c : Call) where
  ticked_lost : (room : ℕ) → c ≡ Tick room → tick_refusal s room ≡ 0 → s.clock < last_clock → holds_page (all_tried (three_steps s)).state slot q page ≡ false → Lost s c (all_tried (three_steps s)).state slot q
  unfolding all_tried
  ticked_lost room k w early n = at (holds_page u slot q page) refl
    where
      u : State
      u = three_steps s

      y : sound u ≡ true
      y = steps_sound s z early

      x : Tries slot q page b m (waiters u) u (tries (waiters u) u)
      x = tries_drop slot q page b m (waiters u) u

      refilled : ChoseIn (waiters u) u (all_tried u).fills slot q → Refilled s c (all_tried u).state slot q
      refilled h =
          let f = each_some (Listed (all_tried u).state) (λ f. (f.slot ≡ slot) × (f.page ≡ h.page)) (all_tried u).fills (fills_hold u y) h.listed in
          record {
            on = h.on;
            row = h.row;
            page = h.page;
            mode = h.mode;
            serves = stored room k w h.tried h.waits;
            nowhere = h.nowhere;
            chose = h.chose;
            new_page = placed (all_tried u).state f.0 slot h.page f.1 f.2;
            unpinned = h.unpinned;
          }

      go : (is_live (row_at (all_tried u).state q).condition ≡ false) ⊎ ChoseIn (waiters u) u (all_tried u).fills slot q → Lost s c (all_tried u).state slot q
      go (inl d) = inl d
      go (inr h) = inr (refilled h)

      at : (e : Bool) → holds_page u slot q page ≡ e → Lost s c (all_tried u).state slot q
      at true e = go ((x (waiters_rows u) y).1 e n)
      at false e = inl ((x (waiters_rows u) y).0 (ticked_drop s (facts s z) slot q b m before (not_held _ _ e ((ticked_booked s (facts s z) page slot b).has_it has))))

  pub drop : (o : Outcome) → outcome s c ≡ o → Effect s c o → holds_page o.state slot q page ≡ false → Lost s c o.state slot q
  unfolding unpinned_at
  drop o same (unchanged a x e) h = true_false (sym (both_true before has) ∙ (rw e at h))
  drop o same (starts slots delay k x e) h = inl (rw (e, fresh_row slots delay q))
  drop o same (begins level number deadline k t e) h = true_false (sym (both_true before has) ∙ (rw e at h))
  drop o same (unpins level number p i k t f w e) h =
      let x = found_below s (facts s z) p i f in
      let y = (facts s z).sized in
      true_false (sym (both_true (unpinned_holds s y (row_of level number) i t.names.row_is x slot q m before) ((unpinned_booked s y (row_of level number) i t.names.row_is x page slot).has_it has)) ∙ (rw e at h))
  drop o same (ends level number k n e) h =
      inl (rw e (ended_drop s (facts s z) slot q b m before (row_of level number) n.names.row_is (not_held _ _ (rw e at h) ((ended_booked s (facts s z) page slot b (row_of level number)).has_it has))))
  drop o same (ticks room k w x e) h = rw e (ticked_lost room k w x (rw e at h))
  drop o same (sets b k t e) h = true_false (sym (both_true before has) ∙ (rw e at h))
  drop o same (serves row p mode r a x e) h = go (served_drop s (facts s z) slot q b m before page has row p mode r o (rw (← e) at (serving s row p mode)) h)
    where
      go : (is_live (row_at o.state q).condition ≡ false) ⊎ Chose s row p o slot q → Lost s c o.state slot q
      go (inl d) = inl d
      go (inr y) = inr (record {
        on = s;
        row = row;
        page = p;
        mode = mode;
        serves = own refl a (same ∙ e);
        nowhere = y.nowhere;
        chose = y.chose;
        new_page = y.new_page;
        unpinned = y.unpinned;
      })
