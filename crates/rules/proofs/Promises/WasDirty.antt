-- A page that a call reports for write-back stood in its slot on a state of the call's course, dirty, or written by a row that the call took.
use mathlib.Core.Path.{◌≡◌, refl, sym, ◌∙◌, ap}
use mathlib.Core.Bool.{Bool, true, false, cond, ◌&&◌}
use mathlib.Core.List.{List, [], ◌∷◌}
use mathlib.Core.Logic.{◌⊎◌, inl, inr}
use Prim.Native.Nat.{ℕ, ◌+◌, ◌<◌}
use native.Mathlib.Omega.{arith}
use borrow.Author.Tests.{leb-true}
use lib.Dec.{leb}
use Rattle.seq.specs.declared.Found.TheVariants.{At}
use Rattle.seq.proofs.Tests.{true_false, parts}
use Rattle.seq.proofs.BelowLaws.{any_hit}
use Rattle.seq.specs.Order.{Each}
use Rattle.model.specs.declared.Answer.{Answer}
use Rattle.model.specs.declared.Answer.TheVariants.{Clock}
use Rattle.std.specs.Prelude.{Option, None, Some}
use Rattle.model.specs.declared.Call.{Call}
use Rattle.model.specs.declared.Cause.TheVariants.{Taken}
use Rattle.model.specs.declared.Condition.TheVariants.{Waiting}
use Rattle.model.specs.declared.Content.{Content}
use Rattle.model.specs.declared.Content.TheVariants.{Empty, Filled}
use Rattle.model.specs.declared.Mode.{Mode}
use Rattle.model.specs.declared.Outcome.{Outcome}
use Rattle.model.specs.declared.Pin.{Pin}
use Rattle.model.specs.declared.Pin.TheVariants.{Absent, Unpinned, Read, Write}
use Rattle.model.specs.declared.Row.{Row}
use Rattle.model.specs.declared.Slot.{Slot}
use Rattle.model.specs.declared.State.{State}
use Rattle.model.specs.Parties.{level_of}
use Rattle.model.specs.State.{row_at, slot_at, holding_at}
use Rattle.model.specs.Words.{page_in, dirty_in, has_page, is_write, pins}
use Rattle.model.specs.Changes.{written, dirtied_content, dirtied, wrote_slot, killed}
use Rattle.model.proofs.ChangeLaws.{killed_slot}
use Rattle.model.proofs.ContentLaws.{has_page_lem}
use Rattle.model.proofs.PinLaws.{write_held}
use Rattle.rules.specs.Answers.{word, page_back, slot_told, back_told, is_clock}
use Rattle.rules.specs.Calls.{waiting, granted, pinners_killed, write_back, filled, three_steps, served}
use Rattle.rules.specs.Choice.{chosen}
use Rattle.rules.specs.Listed.{SomeFill}
use Rattle.rules.specs.Requests.{own, stored}
use Rattle.rules.specs.Run.{outcome, fills_of}
use Rattle.rules.specs.Slots.{WriterTaken, WasDirty, Reported}
use Rattle.rules.specs.Sound.{sound}
use Rattle.rules.specs.Tries.{Fill, Tried, filled_by, tried_as, tries, waiters, all_tried}
use Rattle.rules.specs.SoundFacts.{Sound}
use Rattle.rules.proofs.Facts.SoundFacts.{facts}
use Rattle.rules.proofs.Leaves.AnswerCases.{by_slot}
use Rattle.rules.proofs.Leaves.CallEffects.{Effect, unchanged, starts, begins, unpins, ends, ticks, sets, serves, effect}
use Rattle.rules.proofs.Leaves.FillLaws.{filled_row, freed}
use Rattle.rules.proofs.Leaves.TryLaws.{and_then, by_tries, waiters_rows}
use Rattle.rules.proofs.Promises.BetterSafe.{dead_safe}
use Rattle.rules.proofs.Promises.CallCases.{is_served, still_silent, still_unserved}
use Rattle.rules.proofs.Promises.FillLists.{some_either}
use Rattle.rules.proofs.Promises.Granting.{granted_answer_lem, filled_ground}
use Rattle.rules.proofs.Promises.LetsGo.{dirty_filled}
use Rattle.rules.proofs.Promises.ServedRows.{other_row}
use Rattle.rules.proofs.Promises.Serving.{Serving, waits, waits_g, joins, fills, serving}
use Rattle.rules.proofs.Promises.Taken.{IsTaken, TriedWith, tried_now, after_skip, after_serve}
use Rattle.rules.proofs.Stays.StaysChoice.{chosen_free}
use Rattle.rules.proofs.Stays.StaysSound.{steps_sound}
use Rattle.rules.proofs.Stays.StaysTries.{granted_told, stored_sound}

-- ---- a slot

write_is : (p : Pin) → is_write p ≡ true → p ≡ Write
write_is Absent e = true_false (sym e)
write_is Unpinned e = true_false (sym e)
write_is Read e = true_false (sym e)
write_is Write e = refl

dirtied_page : (c : Content) → page_in (dirtied_content c) ≡ page_in c
dirtied_page Empty = refl
dirtied_page (Filled page arrival dirty lowest) = refl

-- a page to write back is the slot's, and dirty
back_dirty : (page : ℕ) (x : Slot) → page_back (write_back x) ≡ page + 1 → (dirty_in x.content ≡ true) × (page_in x.content ≡ page)
unfolding write_back
back_dirty page x = go (dirty_in x.content) refl
  where
    go : (d : Bool) → dirty_in x.content ≡ d → page_back (cond d (Some (page_in x.content)) None) ≡ page + 1 → (dirty_in x.content ≡ true) × (page_in x.content ≡ page)
    go true e k = (e, omega arith)
    go false e k = absurd (omega arith)

-- what is said of the state on which a request chose the slot, and of a state t afterwards
abbrev Was : State → State → ℕ → ℕ → ℕ → Type 0
Was u t row slot page = (chosen u row ≡ At slot) × (has_page page (slot_at u slot).content ≡ true) × ((dirty_in (slot_at u slot).content ≡ true) ⊎ WriterTaken u t slot)

was_later : (u t v : State) (row slot page : ℕ) → ((q : ℕ) → q < 32 → IsTaken t q → IsTaken v q) → Was u t row slot page → Was u v row slot page
was_later u t v row slot page still w = (w.0, w.1, go w.2)
  where
    go : (dirty_in (slot_at u slot).content ≡ true) ⊎ WriterTaken u t slot → (dirty_in (slot_at u slot).content ≡ true) ⊎ WriterTaken u v slot
    go (inl d) = inl d
    go (inr x) = inr (record { writer = x.writer; writer_row = x.writer_row; writes = x.writes; arrived = x.arrived; taken = still x.writer x.writer_row x.taken })

-- ---- a served request

module _ (s : State) (sound-state : sound s ≡ true) (row : ℕ) (b : row < 32) (asked : ℕ) (mode : Mode) where
  z : Sound s
  z = facts s sound-state

  -- a chosen slot whose page is to be written back
  chosen_was : (slot page : ℕ) → chosen s row ≡ At slot → page_back (write_back (slot_at (pinners_killed s slot) slot)) ≡ page + 1
      → Was s (granted (filled (pinners_killed s slot) slot asked (level_of row)) row slot mode (s.clock + s.delay) (write_back (slot_at (pinners_killed s slot) slot))).state row slot page
  unfolding pinners_killed dirtied written
  chosen_was slot page c e = go (wrote_slot (pins s slot) s slot) refl
    where
      k : State
      k = killed (pins s slot) Taken s

      free : (slot < s.size) × (pins s slot row ≡ false)
      free = chosen_free s row b z slot c

      below : slot < 64
      below = omega (arith, free.0, z.size_most)

      t : State
      t = (granted (filled (pinners_killed s slot) slot asked (level_of row)) row slot mode (s.clock + s.delay) (write_back (slot_at (pinners_killed s slot) slot))).state

      d : (dirty_in (slot_at k slot).content ≡ true) × (page_in (slot_at k slot).content ≡ page)
      d = back_dirty page (slot_at k slot) e

      go : (wrote : Bool) → wrote_slot (pins s slot) s slot ≡ wrote → Was s t row slot page
      go false w =
          let x : slot_at k slot ≡ slot_at s slot = killed_slot (pins s slot) s z.sized Taken slot below ∙ rw w in
          let h : dirty_in (slot_at s slot).content ≡ true = rw x at d.0 in
          (c, has_page_lem page (slot_at s slot).content (dirty_filled (slot_at s slot).content h) (rw x at d.1), inl h)
      go true w =
          let x : slot_at k slot ≡ dirtied (slot_at s slot) = killed_slot (pins s slot) s z.sized Taken slot below ∙ rw w in
          let y = any_hit (λ q. pins s slot q && (is_write (holding_at s slot q).pin && leb (holding_at s slot q).arrival s.clock)) 32 w in
          let q = y.0 in
          let m = y.1 in
          let n = y.2 in
          let p : pins s slot q ≡ true = search parts depth 20 in
          let v : is_write (holding_at s slot q).pin ≡ true = search parts depth 20 in
          let f = freed s z slot free.0 in
          let g = filled_ground s z asked slot (level_of row) free.0 in
          let gone = other_row s z (pins s slot) row slot b below (filled (pinners_killed s slot) slot asked (level_of row)) g.sized
          (filled_row k f.sized f.most slot asked (level_of row) f.there) mode (s.clock + s.delay) (write_back (slot_at (pinners_killed s slot) slot))
          q m (λ r. true_false (sym p ∙ rw r free.1)) in (
            c,
            has_page_lem page (slot_at s slot).content (z.held slot q below m (write_held (holding_at s slot q).pin v)).filled (sym (dirtied_page (slot_at s slot).content) ∙ (rw x at d.1)),
            inr (record {
              writer = q;
              writer_row = m;
              writes = write_is (holding_at s slot q).pin v;
              arrived = leb-true (holding_at s slot q).arrival s.clock (search parts depth 20);
              taken = ap (λ (r : Row). r.condition) gone ∙ rw p;
            }),
          )

  -- the answer tells the slot, and a page to write back
  pub told_was : (slot page : ℕ) → slot_told (served s row asked mode).answer ≡ slot + 1 → back_told (served s row asked mode).answer ≡ page + 1 → Was s (served s row asked mode).state row slot page
  unfolding waiting slot_told back_told
  told_was slot page = go (served s row asked mode) (serving s row asked mode)
    where
      go : (o : Outcome) → Serving s row asked mode o → slot_told o.answer ≡ slot + 1 → back_told o.answer ≡ page + 1 → Was s o.state row slot page
      go o (waits i e v w q) h k = absurd (omega (arith, rw q at k))
      go o (waits_g e n q) h k = absurd (omega (arith, rw q at k))
      go o (joins i arrival some e n q) h k = absurd (omega (arith, rw q at k, (granted_told (killed some Taken s) row i mode arrival None).1))
      go o (fills i e c q) h k =
          let t = granted_told (filled (pinners_killed s i) i asked (level_of row)) row i mode (s.clock + s.delay) (write_back (slot_at (pinners_killed s i) i)) in
          let n : i ≡ slot = omega (arith, rw q at h, t.0) in
          rw (q, ← n) (chosen_was i page c (sym t.1 ∙ (rw q at k)))

-- ---- the tries of a tick

-- an entry says of slot and page to write back what the answer of its try tells
entry_told : (row asked slot page : ℕ) (a : Answer) → SomeFill (λ f. (f.slot ≡ slot) × (f.back ≡ Some page)) (filled_by row asked a) → (slot_told a ≡ slot + 1) × (back_told a ≡ page + 1)
unfolding slot_told back_told
entry_told row asked slot page a h =
    by_slot a (λ i back k. rw k (one (record { row = row; slot = i; page = asked; back = back }) (rw k at h))) (λ due i back k. rw k (one (record { row = row; slot = i; page = asked; back = back }) (rw k at h)))
    (λ n k. absurd (rw (n row asked) at h))
  where
    one : (f : Fill) → ((f.slot ≡ slot) × (f.back ≡ Some page)) ⊎ ⊥ → (f.slot + 1 ≡ slot + 1) × (page_back f.back ≡ page + 1)
    one f (inl e) = (rw e.0, rw e.1)
    one f (inr e) = absurd e

module _ (slot page : ℕ) where
  abbrev Entry : Fill → Type 0
  Entry f = (f.slot ≡ slot) × (f.back ≡ Some page)

  abbrev Choosers : State → List ℕ → State → Type 0
  Choosers t = TriedWith (λ u row asked mode. Was u t row slot page)

  -- a taken row stays so; and an entry was made by a row that chose the slot, where the page was dirty
  abbrev Tries : List ℕ → State → Tried → Type 0
  Tries rows s y =
      Each (λ row. row < 32) rows → sound s ≡ true
      → ((q : ℕ) → q < 32 → IsTaken s q → IsTaken y.state q) × (SomeFill Entry y.fills → Choosers y.state rows s)

  tries_were : (rows : List ℕ) (s : State) → Tries rows s (tries rows s)
  tries_were = by_tries Tries (λ s h z. (λ q m k. k, λ e. absurd e))
      (λ row rows s y w more h z. let x = more h.1 z in (x.0, λ e. after_skip _ row rows s w (x.1 e)))
      serve
    where
      serve : (row : ℕ) (rows : List ℕ) (s : State) (asked : ℕ) (mode : Mode) (y : Tried) → (row_at s row).condition ≡ Waiting asked mode
          → Tries rows (served s row asked mode).state y → Tries (row ∷ rows) s (and_then (tried_as (served s row asked mode) row asked) y)
      serve row rows s asked mode y w more h z = (λ q m k. x.0 q m (stays q m k), λ e. go (some_either Entry (filled_by row asked (served s row asked mode).answer) y.fills e))
        where
          t : State
          t = (served s row asked mode).state

          x : ((q : ℕ) → q < 32 → IsTaken t q → IsTaken y.state q) × (SomeFill Entry y.fills → Choosers y.state rows t)
          x = more h.1 (stored_sound s z row h.0 asked mode w)

          stays : (q : ℕ) → q < 32 → IsTaken s q → IsTaken t q
          stays q m k = ap (λ (r : Row). r.condition) (dead_safe s z row h.0 asked mode q m (rw k) (rw w)).row_same ∙ k

          go : SomeFill Entry (filled_by row asked (served s row asked mode).answer) ⊎ SomeFill Entry y.fills → Choosers y.state (row ∷ rows) s
          go (inl e) =
              let a = entry_told row asked slot page (served s row asked mode).answer e in
              tried_now _ row rows s asked mode w (was_later s t y.state row slot page x.0 (told_was s z row h.0 asked mode slot page a.0 a.1))
          go (inr e) = after_serve _ row rows s asked mode w (x.1 e)

-- ---- a call

-- an answer that is no served one tells no page to write back
no_back : (a : Answer) → is_served a ≡ false → back_told a ≡ 0
no_back a e = by_slot a (λ slot back k. true_false (rw k at e)) (λ due slot back k. true_false (rw k at e)) (λ n k. k)

-- nor is a served request told as a tick is
granted_silent : (u : State) (row slot : ℕ) (mode : Mode) (arrival : ℕ) (back : Option ℕ) → is_clock (granted u row slot mode arrival back).answer ≡ false
unfolding word
granted_silent u row slot mode arrival back = granted_answer_lem u row slot mode arrival back (granted u row slot mode arrival back).answer refl (λ _ k. rw k refl) (λ _ k. rw k refl)

served_silent : (s : State) (row page : ℕ) (mode : Mode) → is_clock (served s row page mode).answer ≡ false
unfolding waiting word
served_silent s row page mode = go (served s row page mode) (serving s row page mode)
  where
    go : (o : Outcome) → Serving s row page mode o → is_clock o.answer ≡ false
    go o (waits i e v w q) = rw q
    go o (waits_g e n q) = rw q
    go o (joins i arrival some e n q) = rw q (granted_silent _ _ _ _ _ _)
    go o (fills i e n q) = rw q (granted_silent _ _ _ _ _ _)

module _ (s : State) (z : sound s ≡ true) (c : Call) (slot page : ℕ) where
  abbrev Tells : Outcome → Type 0
  Tells o = ((slot_told o.answer ≡ slot + 1) × (back_told o.answer ≡ page + 1)) ⊎ SomeFill (Entry slot page) (cond (is_clock o.answer) (all_tried (three_steps s)).fills [])

  -- a call with an answer that is neither a served one nor a tick's
  silent : {P : Type 0} (a : Answer) → is_served a ≡ false → is_clock a ≡ false → ((slot_told a ≡ slot + 1) × (back_told a ≡ page + 1)) ⊎ SomeFill (Entry slot page) (cond (is_clock a) (all_tried (three_steps s)).fills []) → P
  silent a e n (inl h) = absurd (omega (arith, h.1, no_back a e))
  silent a e n (inr h) = absurd (rw n at h)

  was_in : (o : Outcome) → outcome s c ≡ o → Effect s c o → Tells o → WasDirty s c slot page
  unfolding word back_told all_tried
  was_in o same (unchanged a x e) h = silent a (still_unserved s c a x) (still_silent s c a x) (rw e at h)
  was_in o same (starts slots delay q x e) h = silent _ refl refl (rw e at h)
  was_in o same (begins level number deadline q t e) h = silent _ refl refl (rw e at h)
  was_in o same (unpins level number p i q t f x e) h = silent _ refl refl (rw e at h)
  was_in o same (ends level number q n e) h = silent _ refl refl (rw e at h)
  was_in o same (ticks room q w early e) h = ticked (rw e at h)
    where
      u : State
      u = three_steps s

      ticked : ((slot_told (Clock (s.clock + 1)) ≡ slot + 1) × (back_told (Clock (s.clock + 1)) ≡ page + 1)) ⊎ SomeFill (Entry slot page) (all_tried u).fills → WasDirty s c slot page
      ticked (inl k) = absurd (omega (arith, k.1))
      ticked (inr k) =
          let x = (tries_were slot page (waiters u) u (waiters_rows u) (steps_sound s z early)).1 k in
          record { on = x.on; row = x.row; asked = x.page; mode = x.mode; serves = stored room q w x.tried x.waits; chose = x.with_it.0; has_it = x.with_it.1; dirty = rw (same, e) x.with_it.2 }
  was_in o same (sets b q t e) h = silent _ refl refl (rw e at h)
  was_in o same (serves row p mode r a x e) h = told h
    where
      told : Tells o → WasDirty s c slot page
      told (inl k) =
          let y = told_was s z row r p mode slot page (rw e at k.0) (rw e at k.1) in
          record { on = s; row = row; asked = p; mode = mode; serves = own refl a (same ∙ e); chose = y.0; has_it = y.1; dirty = rw (same, e) y.2 }
      told (inr k) = absurd (rw (served_silent s row p mode) at (rw e at k))

  pub reported_dirty : Reported s c slot page → WasDirty s c slot page
  unfolding fills_of
  reported_dirty = was_in (outcome s c) refl (effect s c)
