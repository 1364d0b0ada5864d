-- A row that a call newly makes taken had a pin against a request that was served in the call's course.
use mathlib.Core.Path.{◌≡◌, refl, sym, ◌∙◌, ap}
use mathlib.Core.Bool.{Bool, true, false, cond, not}
use mathlib.Core.List.{List, ◌∷◌}
use mathlib.Core.Logic.{inl, inr}
use Prim.Native.Nat.{ℕ, ◌+◌, ◌<◌}
use borrow.Author.Tests.{ne_eqb}
use lib.Dec.{leb, eqb}
use Rattle.seq.specs.declared.Found.TheVariants.{At}
use Rattle.seq.proofs.Tests.{true_false, and_right, not_false_true}
use Rattle.seq.specs.Order.{Each}
use Rattle.std.specs.Prelude.{Option, None}
use Rattle.model.specs.declared.Call.{Call}
use Rattle.model.specs.declared.Cause.TheVariants.{Late, Taken}
use Rattle.model.specs.declared.Condition.{Condition}
use Rattle.model.specs.declared.Condition.TheVariants.{Free, Idle, Fetching, Waiting, Killed}
use Rattle.model.specs.declared.Mode.{Mode}
use Rattle.model.specs.declared.Outcome.{Outcome}
use Rattle.model.specs.declared.Row.{Row}
use Rattle.model.specs.declared.State.{State}
use Rattle.model.specs.Parties.{row_of, level_of}
use Rattle.model.specs.State.{free_row, row_at, slot_at, holding_at}
use Rattle.model.specs.Words.{arrival_in, pin_of, conflict, pins, least_arrival, slot_of}
use Rattle.model.specs.Changes.{released, killed, killed_row}
use Rattle.model.specs.Ranges.{Sized}
use Rattle.model.proofs.StateLaws.{fresh_row, row_put}
use Rattle.model.proofs.PutLaws.{row_other}
use Rattle.rules.specs.Calls.{waiting, granted, conflicts, step2, step3, pinners_killed, write_back, filled, delivered, delivered_row, is_late, unpinned_at, three_steps, served}
use Rattle.rules.specs.Listed.{is_idle_or_fetching}
use Rattle.rules.specs.Refusals.{is_waiting}
use Rattle.rules.specs.Requests.{TriedOn, own, stored}
use Rattle.rules.specs.Run.{outcome}
use Rattle.rules.specs.Sound.{sound}
use Rattle.rules.specs.Taken.{Takes, in_conflict, on_chosen, TakenBy}
use Rattle.rules.specs.Tries.{try_row, tries, waiters, all_tried}
use Rattle.rules.specs.SoundFacts.{Sound}
use Rattle.rules.proofs.Facts.SoundFacts.{facts}
use Rattle.rules.proofs.Leaves.CallEffects.{Effect, unchanged, starts, begins, unpins, ends, ticks, sets, serves, effect}
use Rattle.rules.proofs.Leaves.FillLaws.{filled_row, freed}
use Rattle.rules.proofs.Leaves.GrantLaws.{granted_row_lem}
use Rattle.rules.proofs.Leaves.PageLaws.{found_has, found_below}
use Rattle.rules.proofs.Leaves.PinWords.{is_pinned, conflict_in}
use Rattle.rules.proofs.Leaves.ServeCases.{Step, wait_1, grant_1, grant_2, grant_3, wait_g, fill, step}
use Rattle.rules.proofs.Leaves.TickLaws.{later, ticked_row}
use Rattle.rules.proofs.Leaves.TryLaws.{by_tries, waiters_rows, skipped}
use Rattle.rules.proofs.Promises.Granting.{killed_ground, filled_ground}
use Rattle.rules.proofs.Promises.ServedRows.{Own, own_waits, own_ready, own_fetch, other_row, served_own}
use Rattle.rules.proofs.Promises.TriedRows.{AfterTries, same, taken, made, served_after}
use Rattle.rules.proofs.Stays.StaysChoice.{chosen_free}
use Rattle.rules.proofs.Stays.StaysSound.{steps_sound}
use Rattle.rules.proofs.Stays.StaysTries.{stored_sound}

-- the mark of a row that was taken
abbrev pub IsTaken : State → ℕ → Type 0
IsTaken s q = (row_at s q).condition ≡ Killed Taken

-- ---- a served request

own_left : (row page : ℕ) (mode : Mode) (o : Outcome) → Own row page mode o → IsTaken o.state row → ⊥
own_left row page mode o (own_waits a c) k = true_false (cc)
own_left row page mode o (own_ready slot back a c l) k = true_false (cc)
own_left row page mode o (own_fetch due slot back a c l) k = true_false (cc)

module _ (s : State) (sound-state : sound s ≡ true) (row : ℕ) (b : row < 32) (page : ℕ) (mode : Mode) (q : ℕ) (m : q < 32) (new : IsTaken s q → ⊥) where
  z : Sound s
  z = facts s sound-state

  -- its own row is not taken
  not_own : IsTaken (served s row page mode).state q → q ≡ row → ⊥
  not_own k e = own_left row page mode (served s row page mode) (served_own s sound-state row b page mode) (rw e at k)

  module _ (different : q ≡ row → ⊥) where
    -- after a grant a row that is taken is one of those that were killed for it
    one_of : (some : ℕ → Bool) (slot : ℕ) → slot < 64 → (u : State) → Sized u → ((r : ℕ) → row_at u r ≡ row_at (killed some Taken s) r) → (arrival : ℕ) (back : Option ℕ)
        → IsTaken (granted u row slot mode arrival back).state q → some q ≡ true
    one_of some slot c u y rows arrival back k =
        let e = other_row s z some row slot b c u y rows mode arrival back q m different in
        not_false_true (some q) (λ f. new (rw (e, f) at k))

    joined : (slot arrival : ℕ) → slot_of s page ≡ At slot → IsTaken (granted (killed (conflicts s row slot mode) Taken s) row slot mode arrival None).state q → Takes s row page mode q
    unfolding conflicts
    joined slot arrival e k =
        let g = killed_ground s z (conflicts s row slot mode) page slot e in
        let x = one_of (conflicts s row slot mode) slot g.slot_is (killed (conflicts s row slot mode) Taken s) g.sized (λ r. refl) arrival None k in
        in_conflict slot g.slot_is (found_has s page slot e).1
        (conflict_in mode (holding_at s slot q).pin (and_right (not (eqb q row)) (conflict (pin_of mode) (holding_at s slot q).pin) x))

    taken_by : (o : Outcome) → Step s row page mode o → IsTaken o.state q → Takes s row page mode q
    unfolding waiting step2 step3 pinners_killed
    taken_by o (wait_1 slot e v w r) k = absurd (new (rw (r, row_other s z.sized row (record { condition = Waiting page mode; deadline = (row_at s row).deadline }) q different) at k))
    taken_by o (grant_1 slot e v w r) k = joined slot (least_arrival s (level_of row) slot) e (rw r at k)
    taken_by o (grant_2 slot e d r) k =
        absurd (new (rw (r, granted_row_lem s z.sized row slot b (found_below s z page slot e) mode (arrival_in (slot_at s slot).content) None q, ne_eqb q row different) at k))
    taken_by o (grant_3 slot e v r) k = joined slot (s.clock + s.delay) e (rw r at k)
    taken_by o (wait_g e c r) k = absurd (new (rw (r, row_other s z.sized row (record { condition = Waiting page mode; deadline = (row_at s row).deadline }) q different) at k))
    taken_by o (fill slot e c r) k =
        let f = freed s z slot (chosen_free s row b z slot c).0 in
        let g = filled_ground s z page slot (level_of row) (chosen_free s row b z slot c).0 in
        let x = one_of (pins s slot) slot g.slot_is (filled (pinners_killed s slot) slot page (level_of row)) g.sized
        (filled_row (killed (pins s slot) Taken s) f.sized f.most slot page (level_of row) f.there) (s.clock + s.delay) (write_back (slot_at (pinners_killed s slot) slot)) (rw r at k) in
        on_chosen slot g.slot_is e c (is_pinned (holding_at s slot q).pin x)

  pub served_takes : IsTaken (served s row page mode).state q → (q ≡ row → ⊥) × Takes s row page mode q
  served_takes k = let n = not_own k in (n, taken_by n (served s row page mode) (step s row page mode) k)

-- ---- the tries of a tick

-- of some rows that are tried in turn on s, one that waits for a page in a mode is tried on a state of which something holds
pub record TriedWith (R : State → ℕ → ℕ → Mode → Type 0) (rows : List ℕ) (s : State) : Type 0 where
  pub on : State
  pub row : ℕ
  pub page : ℕ
  pub mode : Mode
  pub tried : TriedOn rows s on row
  pub waits : (row_at on row).condition ≡ Waiting page mode
  pub with_it : R on row page mode

module _ (R : State → ℕ → ℕ → Mode → Type 0) where
  pub tried_now : (row : ℕ) (rows : List ℕ) (s : State) (page : ℕ) (mode : Mode) → (row_at s row).condition ≡ Waiting page mode → R s row page mode → TriedWith R (row ∷ rows) s
  tried_now row rows s page mode w h = record { on = s; row = row; page = page; mode = mode; tried = inl (refl, refl); waits = w; with_it = h }

  tried_later : (row : ℕ) (rows : List ℕ) (s : State) → TriedWith R rows (try_row (row_at s row).condition s row).state → TriedWith R (row ∷ rows) s
  tried_later row rows s x = record { on = x.on; row = x.row; page = x.page; mode = x.mode; tried = inr x.tried; waits = x.waits; with_it = x.with_it }

  pub after_skip : (row : ℕ) (rows : List ℕ) (s : State) → is_waiting (row_at s row).condition ≡ false → TriedWith R rows s → TriedWith R (row ∷ rows) s
  after_skip row rows s w x = tried_later row rows s (rw (skipped (row_at s row).condition s row w) x)

  pub after_serve : (row : ℕ) (rows : List ℕ) (s : State) (page : ℕ) (mode : Mode) → (row_at s row).condition ≡ Waiting page mode → TriedWith R rows (served s row page mode).state → TriedWith R (row ∷ rows) s
  after_serve row rows s page mode w x = tried_later row rows s (rw w x)

module _ (q : ℕ) (m : q < 32) where
  abbrev Takers : List ℕ → State → Type 0
  Takers = TriedWith (λ u row page mode. (q ≡ row → ⊥) × Takes u row page mode q)

  made_left : (x : Condition) → is_idle_or_fetching x ≡ true → x ≡ Killed Taken → ⊥
  made_left x i e = true_false (sym (rw e at i))

  tries_take : (rows : List ℕ) (s : State) → Each (λ row. row < 32) rows → sound s ≡ true → (IsTaken s q → ⊥) → IsTaken (tries rows s).state q → Takers rows s
  tries_take = by_tries (λ rows s y. Each (λ row. row < 32) rows → sound s ≡ true → (IsTaken s q → ⊥) → IsTaken y.state q → Takers rows s)
      (λ s h z new k. absurd (new k))
      (λ row rows s y w more h z new k. after_skip _ row rows s w (more h.1 z new k))
      (λ row rows s page mode y w more h z new k.
      go row rows s page mode w new (served_takes s z row h.0 page mode q m new) (served_after s z row h.0 page mode w q m)
      (λ still. more h.1 (stored_sound s z row h.0 page mode w) still k))
    where
      go : (row : ℕ) (rows : List ℕ) (s : State) (page : ℕ) (mode : Mode) → (row_at s row).condition ≡ Waiting page mode → (IsTaken s q → ⊥)
          → (IsTaken (served s row page mode).state q → (q ≡ row → ⊥) × Takes s row page mode q)
          → AfterTries (row_at s q) (row_at (served s row page mode).state q)
          → ((IsTaken (served s row page mode).state q → ⊥) → Takers rows (served s row page mode).state) → Takers (row ∷ rows) s
      go row rows s page mode w new now (same e) more = after_serve _ row rows s page mode w (more (λ k. new (rw e at k)))
      go row rows s page mode w new now (taken e) more = tried_now _ row rows s page mode w (now (ap (λ (r : Row). r.condition) e))
      go row rows s page mode w new now (made a i d) more = after_serve _ row rows s page mode w (more (made_left (row_at (served s row page mode).state q).condition i))

-- ---- a call

-- the three steps of a tick take no row
delivered_taken : (clock : ℕ) (x : Condition) → delivered clock x ≡ Killed Taken → x ≡ Killed Taken
delivered_taken clock Free e = e
delivered_taken clock Idle e = e
delivered_taken clock (Waiting page mode) e = e
delivered_taken clock (Killed cause) e = e
delivered_taken clock (Fetching due) e = go (leb due clock) e
  where
    go : (b : Bool) → cond b Idle (Fetching due) ≡ Killed Taken → Fetching due ≡ Killed Taken
    go true k = true_false (cc)
    go false k = k

module _ (s : State) (z : sound s ≡ true) (q : ℕ) (m : q < 32) (new : IsTaken s q → ⊥) (c : Call) where
  steps_left : IsTaken (three_steps s) q → ⊥
  unfolding delivered_row
  steps_left k = go (is_late (later s) q) (sym (ap (λ (x : Row). x.condition) (ticked_row s (facts s z).sized q m)) ∙ k)
    where
      go : (late : Bool) → (cond late (killed_row Late) (delivered_row (s.clock + 1) (row_at s q))).condition ≡ Killed Taken → ⊥
      go true e = true_false (cc)
      go false e = new (delivered_taken (s.clock + 1) (row_at s q).condition e)

  put_left : (row : ℕ) → row < 32 → (x : Row) → (x.condition ≡ Killed Taken → ⊥) → (cond (eqb q row) x (row_at s q)).condition ≡ Killed Taken → ⊥
  put_left row b x h = go (eqb q row)
    where
      go : (e : Bool) → (cond e x (row_at s q)).condition ≡ Killed Taken → ⊥
      go true k = h k
      go false k = new k

  taken_in : (o : Outcome) → outcome s c ≡ o → Effect s c o → IsTaken o.state q → TakenBy s c q
  unfolding unpinned_at released all_tried
  taken_in o made-it (unchanged a x e) k = absurd (new (rw e at k))
  taken_in o made-it (starts slots delay p x e) k = let n = rw (e, fresh_row slots delay q) at k in true_false (cc)
  taken_in o made-it (begins level number deadline p t e) k =
      absurd (put_left (row_of level number) t.names.row_is (record { condition = Idle; deadline = deadline }) (λ n. true_false (cc))
      (rw (row_put s (facts s z).sized (row_of level number) (record { condition = Idle; deadline = deadline }) q t.names.row_is) at (rw e at k)))
  taken_in o made-it (unpins level number p i x t f w e) k = absurd (new (rw e at k))
  taken_in o made-it (ends level number x n e) k =
      absurd (put_left (row_of level number) n.names.row_is free_row (λ v. true_false (cc))
      (rw (row_put s (facts s z).sized (row_of level number) free_row q n.names.row_is) at (rw e at k)))
  taken_in o made-it (ticks room x w early e) k =
      let u = three_steps s in
      let h = tries_take q m (waiters u) u (waiters_rows u) (steps_sound s z early) steps_left (rw e at k) in
      record { on = h.on; row = h.row; page = h.page; mode = h.mode; serves = stored room x w h.tried h.waits; different = h.with_it.0; takes = h.with_it.1 }
  taken_in o made-it (sets b x t e) k = absurd (new (rw e at k))
  taken_in o made-it (serves row p mode r a x e) k =
      let h = served_takes s z row r p mode q m new (rw e at k) in
      record { on = s; row = row; page = p; mode = mode; serves = own refl a (made-it ∙ e); different = h.0; takes = h.1 }

  pub taken_only : IsTaken (outcome s c).state q → TakenBy s c q
  taken_only = taken_in (outcome s c) refl (effect s c)
