-- Document 02, T-05: why a row waits after an accepted tick, and what the tick makes of the best live row of all.
use mathlib.Core.Path.{◌≡◌, refl, sym, ◌∙◌, ap}
use mathlib.Core.Bool.{Bool, true, false, cond}
use mathlib.Core.List.{List, [], ◌∷◌}
use mathlib.Core.Logic.{◌⊎◌, inl, inr}
use Prim.Native.Nat.{ℕ, ◌+◌, ◌<◌}
use native.Mathlib.Omega.{arith}
use native.Mathlib.Decide.{ℕ_discrete}
use borrow.Author.Tests.{ltb-true}
use Rattle.seq.proofs.Tests.{true_false, parts}
use Rattle.seq.specs.Order.{Each, Ranked}
use Rattle.seq.proofs.SortOrder.{Has, each_has}
use Rattle.model.specs.declared.Answer.TheVariants.{Clock}
use Rattle.model.specs.declared.Call.TheVariants.{Tick}
use Rattle.model.specs.declared.Cause.TheVariants.{Late, Taken}
use Rattle.model.specs.declared.Condition.TheVariants.{Waiting, Killed}
use Rattle.model.specs.declared.Holding.{Holding}
use Rattle.model.specs.declared.Mode.{Mode}
use Rattle.model.specs.declared.Row.{Row}
use Rattle.model.specs.declared.State.{State}
use Rattle.model.specs.Parties.{level_of}
use Rattle.model.specs.State.{row_at, holding_at}
use Rattle.model.specs.Words.{is_live, is_pin, pins, holds, outranks}
use Rattle.model.proofs.PriorityLaws.{outranks_once, outranks_other, outranks_kept, level_outranks}
use Rattle.model.specs.Changes.{killed_row}
use Rattle.rules.specs.Calls.{delivered_row, is_late, three_steps, served}
use Rattle.rules.specs.Listed.{is_idle_or_fetching, PinnedFor, GrantedFor, SomeFill}
use Rattle.rules.specs.Refusals.{is_waiting}
use Rattle.rules.specs.Run.{outcome, fills_of}
use Rattle.rules.specs.Sound.{sound}
use Rattle.rules.specs.Tries.{try_row, tries, waiters, all_tried}
use Rattle.rules.specs.Waits.{CannotTake, by_lower, by_better, by_itself, WaitReason, AfterWaiting, waits_on, is_granted, gone_late, is_taken, BestLive, PinsAll, IdleOrFetchingUnless, idle_or_fetching, made_late, pins_all}
use Rattle.rules.proofs.Facts.SoundFacts.{facts}
use Rattle.rules.proofs.Leaves.PinWords.{in_conflict_held}
use Rattle.rules.proofs.Leaves.TickLaws.{later, delivered_waiting, ticked_row, ticked_holding, ticked_clock, ticked_size, ticked_places, ticked_live}
use Rattle.rules.proofs.Leaves.TryLaws.{by_try, by_tries, waiters_wait, waiters_rows, waiters_have, tried_fixed}
use Rattle.rules.specs.Slots.{LeftAlone}
use Rattle.rules.proofs.Promises.BetterSafe.{better_safe}
use Rattle.rules.proofs.Promises.Deadlines.{ticked_is, stepped, late_is, late_stays}
use Rattle.rules.proofs.Promises.FillLists.{some_fill, some_each}
use Rattle.rules.proofs.Promises.Filled.{AreRows, Old, served_old, tries_alone, Outranker, ranked, fills_taken}
use Rattle.rules.proofs.Promises.Reasons.{waits_by, reason_still}
use Rattle.rules.proofs.Promises.ServedRows.{SameOrTaken, Own, own_waits, own_ready, own_fetch, served_deadline, served_own}
use Rattle.rules.proofs.Promises.Serving.{serving}
use Rattle.rules.proofs.Promises.TriedRows.{AfterTries, same, taken, made, waits_unmade, waiting_live, live_after, tries_others, tried_after, vain_still}
use Rattle.rules.proofs.Promises.TickFills.{late_waits, listed, listed_granted, listed_all}
use Rattle.rules.proofs.Stays.StaysSound.{stays_sound}
use Rattle.rules.proofs.Stays.StaysTries.{stored_sound, try_sound}

-- a row that waited on s is idle or fetching on t, or waits there for a reason, with the holdings that it had
abbrev MadeOr : State → State → ℕ → ℕ → Mode → Type 0
MadeOr s t row page mode =
    (is_idle_or_fetching (row_at t row).condition ≡ true)
    ⊎ (((row_at t row).condition ≡ Waiting page mode) × WaitReason t row page mode × ((slot : ℕ) → slot < 64 → holding_at t slot row ≡ holding_at s slot row))

-- tries of rows in the order of u, on a state in which the begin orders and the rows that wait are as in u
module _ (u : State) where
  -- the reason of a row that outranks each of the rows
  reason_tries : (q : ℕ) → q < 32 → (page : ℕ) (mode : Mode) (rows : List ℕ) (s : State) → AreRows rows → sound s ≡ true → Old u s → (row_at s q).deadline ≡ (row_at u q).deadline
      → Each (λ row. outranks u q row ≡ true) rows → WaitReason s q page mode → WaitReason (tries rows s).state q page mode
  reason_tries q m page mode =
      by_tries (λ rows s y. AreRows rows → sound s ≡ true → Old u s → (row_at s q).deadline ≡ (row_at u q).deadline → Each (λ row. outranks u q row ≡ true) rows → WaitReason s q page mode → WaitReason y.state q page mode)
      (λ s b z old d a x. x)
      (λ row rows s y w more b z old d a. more b.1 z old d a.1)
      (λ row rows s p n y w more b z old d a x.
      let o = outranks_kept s u q row old.0 d (ap (λ (r : Row). r.deadline) (old.1 row b.0 (rw w))) ∙ a.0 in
      more b.1 (stored_sound s z row b.0 p n w) (served_old u s z row b.0 p n w old)
      (ap (λ (r : Row). r.deadline) (better_safe s z row b.0 p n q m o).row_same ∙ d) a.1 (reason_still s z row b.0 p n w q m o page mode x))

  -- a row that waits is tried, and after it rows that it outranks
  module _ (q : ℕ) (m : q < 32) (page : ℕ) (mode : Mode) (rows : List ℕ) (s : State) (b : AreRows rows) (z : sound s ≡ true) (old : Old u s) (w : (row_at s q).condition ≡ Waiting page mode)
      (a : Each (λ row. outranks u q row ≡ true) rows) where
    abbrev x : State
    x = (served s q page mode).state

    sound_x : sound x ≡ true
    sound_x = stored_sound s z q m page mode w

    old_x : Old u x
    old_x = served_old u s z q m page mode w old

    deadline_x : (row_at x q).deadline ≡ (row_at u q).deadline
    deadline_x = served_deadline s z q m page mode ∙ ap (λ (r : Row). r.deadline) (old.1 q m (rw w))

    left_x : LeftAlone x (tries rows x).state q
    left_x = tries_alone u rows x b sound_x old_x q m deadline_x a

    first_tried : MadeOr s (tries rows x).state q page mode
    first_tried = go (served_own s z q m page mode)
      where
        condition_x : (row_at (tries rows x).state q).condition ≡ (row_at x q).condition
        condition_x = ap (λ (r : Row). r.condition) left_x.row_same

        go : Own q page mode (served s q page mode) → MadeOr s (tries rows x).state q page mode
        go (own_waits k c) =
            let v = vain_still s q page mode w k in
            let r : WaitReason x q page mode = rw v (waits_by s (facts s z) q page mode (served s q page mode) (serving s q page mode) k) in
            inr (condition_x ∙ c, reason_tries q m page mode rows x b sound_x old_x deadline_x a r, λ slot i. left_x.holding_same slot i ∙ ap (λ (y : State). holding_at y slot q) v)
        go (own_ready slot back k c l) = inl (rw (condition_x, c))
        go (own_fetch due slot back k c l) = inl (rw (condition_x, c))

  -- a row that is tried, and waits when the rows that it outranks are tried too, waits for a reason
  waits_first : (row : ℕ) (rows : List ℕ) (s : State) → row < 32 → AreRows rows → sound s ≡ true → Old u s → Each (λ q. outranks u row q ≡ true) rows → (page : ℕ) (mode : Mode)
      → (row_at (tries rows (try_row (row_at s row).condition s row).state).state row).condition ≡ Waiting page mode → WaitReason (tries rows (try_row (row_at s row).condition s row).state).state row page mode
  waits_first row rows s m b z old a page mode w =
      by_try s row (row_at s row).condition
      (λ n e. skip (row_at s row) (row_at (tries rows s).state row) (tries_others rows s b z row m n) n (rw e at w))
      (λ p n c e. rw e (own (tries rows (served s row p n).state).state p n (first_tried row m p n rows s b z old c a) (rw e at w)))
    where
      skip : {P : Type 0} (before now : Row) → SameOrTaken before now → is_waiting before.condition ≡ false → now.condition ≡ Waiting page mode → P
      skip before now (inl e) n c = true_false (rw (← e, c) at n)
      skip before now (inr e) n c = true_false (ap is_waiting (sym c ∙ ap (λ (r : Row). r.condition) e))

      own : (t : State) (p : ℕ) (n : Mode) → MadeOr s t row p n → (row_at t row).condition ≡ Waiting page mode → WaitReason t row page mode
      own t p n (inl i) c = waits_unmade (row_at t row).condition (rw c) i
      own t p n (inr r) c =
          let e : Waiting p n ≡ Waiting page mode = sym r.0 ∙ c in
          let f : p ≡ page = cc in
          let g : n ≡ mode = cc in
          rw (← f, ← g) r.1

  -- and so does each row that is tried
  waits_tried : (rows : List ℕ) (s : State) → AreRows rows → sound s ≡ true → Old u s → Ranked (outranks u) rows → (q : ℕ) → Has q rows
      → (page : ℕ) (mode : Mode) → (row_at (tries rows s).state q).condition ≡ Waiting page mode → WaitReason (tries rows s).state q page mode
  unfolding tries
  waits_tried [] s b z old k q h page mode w = absurd h
  waits_tried (row ∷ rows) s b z old k q (inl h) page mode w = rw h (waits_first row rows s b.0 b.1 z old k.0 page mode (rw h at w))
  waits_tried (row ∷ rows) s b z old k q (inr h) page mode w =
      waits_tried rows (try_row (row_at s row).condition s row).state b.1 (try_sound s z row b.0)
      (by_try s row (row_at s row).condition (λ n e. rw e old) (λ p n c e. rw e (served_old u s z row b.0 p n c old))) k.1 q h page mode w

module _ (s : State) (z : sound s ≡ true) (room clock : ℕ) (accepted : (outcome s (Tick room)).answer ≡ Clock clock) where
  abbrev u : State
  u = three_steps s

  abbrev t : State
  t = (outcome s (Tick room)).state

  y : sound u ≡ true
  y = stepped s z room clock accepted

  sound_t : sound t ≡ true
  sound_t = stays_sound s (Tick room) z

  after : t ≡ (all_tried u).state
  after = (ticked_is s z room clock accepted).0

  -- no begin order changes
  places_t : t.places ≡ s.places
  places_t = rw after ((tried_fixed u).places ∙ ticked_places s (facts s z).sized)

  row_u : (q : ℕ) → q < 32 → row_at u q ≡ cond (is_late (later s) q) (killed_row Late) (delivered_row (s.clock + 1) (row_at s q))
  row_u = ticked_row s (facts s z).sized

  -- what the tries make of a row
  tried : (q : ℕ) → q < 32 → AfterTries (row_at u q) (row_at t q)
  tried q m = rw after (tried_after u y q m)

  -- after an accepted tick a row waits only for these reasons, and waited before it
  pub still_waiting : (row page : ℕ) (mode : Mode) → row < 32 → (row_at t row).condition ≡ Waiting page mode → ((row_at s row).condition ≡ Waiting page mode) × WaitReason t row page mode
  unfolding all_tried
  still_waiting row page mode b w =
      let v = waited (row_at u row) (row_at t row) (tried row b) w in (
        late_waits (is_late (later s) row) (s.clock + 1) (row_at s row) page mode (rw (row_u row b) at v),
        rw after (waits_tried u (waiters u) u (waiters_rows u) y (refl, λ q m k. refl) (ranked u y) row (waiters_have u row b (rw v)) page mode (rw after at w)),
      )
    where
      waited : (x r : Row) → AfterTries x r → r.condition ≡ Waiting page mode → x.condition ≡ Waiting page mode
      waited x r (same e) c = rw (← e) c
      waited x r (taken e) c = true_false (ap is_waiting (sym c ∙ ap (λ (r : Row). r.condition) e))
      waited x r (made k i d) c = waits_unmade r.condition (rw c) i

  -- a row that is live was live before, and has its deadline
  live_before : (q : ℕ) → q < 32 → is_live (row_at t q).condition ≡ true → (is_live (row_at s q).condition ≡ true) × ((row_at t q).deadline ≡ (row_at s q).deadline)
  live_before q m l =
      let x = live_after (row_at u q) (row_at t q) (tried q m) l in
      let k = ticked_live s (facts s z).sized q m x.0 in
      (k.0, x.1 ∙ k.1)

  -- ---- what a tick makes of a row that waited

  module _ (row page : ℕ) (mode : Mode) (b : row < 32) (w : (row_at s row).condition ≡ Waiting page mode) where
    waited_late : is_late (later s) row ≡ true → ((row_at s row).deadline < t.clock) × ((row_at t row).condition ≡ Killed Late)
    waited_late e =
        let l = sym (late_is s z room clock accepted row b) ∙ e in
        let c : t.clock ≡ s.clock + 1 = rw after ((tried_fixed u).clock ∙ ticked_clock s (facts s z).sized) in
        (rw c (ltb-true (row_at s row).deadline (s.clock + 1) (search parts depth 20)), ap (λ (r : Row). r.condition) (late_stays s z room clock accepted row b e))

    waited_same : is_late (later s) row ≡ false → row_at u row ≡ row_at s row
    waited_same e = (rw e at (row_u row b)) ∙ delivered_waiting (s.clock + 1) (row_at s row) page mode w

    -- it waits on for a reason, its request is granted, or it is late or taken
    pub waiter_after : AfterWaiting s t (fills_of s (Tick room)) row page mode
    waiter_after = go (is_late (later s) row) refl
      where
        granted_row_lem : is_idle_or_fetching (row_at t row).condition ≡ true → SomeFill (λ f. (f.row ≡ row) × (f.page ≡ page) × PinnedFor t mode f) (fills_of s (Tick room))
        granted_row_lem i =
            some_fill (λ f. GrantedFor s t f × (f.row ≡ row)) (λ f. (f.row ≡ row) × (f.page ≡ page) × PinnedFor t mode f)
            (λ f k.
            let e : Waiting f.page k.0.0 ≡ Waiting page mode = sym k.0.1 ∙ ap (λ (r : ℕ). (row_at s r).condition) k.1 ∙ w in
            let g : k.0.0 ≡ mode = cc in
            (k.1, cc, rw (← g) k.0.2))
            (fills_of s (Tick room))
            (some_each (GrantedFor s t) (λ f. f.row ≡ row) (fills_of s (Tick room)) (listed_granted s z room clock accepted) (listed_all s z room clock accepted row b (rw w) i))

        taken_row : row_at u row ≡ row_at s row → row_at t row ≡ killed_row Taken → SomeFill (λ f. outranks s f.row row ≡ true) (fills_of s (Tick room))
        taken_row d k =
            rw (listed s z room clock accepted)
            (some_fill (λ f. Outranker u row f.row) (λ f. outranks s f.row row ≡ true)
            (λ f h. outranks_kept s u f.row row (sym (ticked_places s (facts s z).sized)) (sym (ticked_live s (facts s z).sized f.row h.0 (waiting_live (row_at u f.row).condition h.1)).1) (ap (λ (r : Row). r.deadline) (sym d)) ∙ h.2)
            (all_tried u).fills (fills_taken u y row b (rw (d, w)) (rw (← after, k))))

        go_on : row_at u row ≡ row_at s row → AfterTries (row_at u row) (row_at t row) → AfterWaiting s t (fills_of s (Tick room)) row page mode
        go_on d (same k) = let c : (row_at t row).condition ≡ Waiting page mode = rw (k, d, w) in waits_on c (still_waiting row page mode b c).1
        go_on d (taken k) = is_taken (rw k) (taken_row d k)
        go_on d (made k i e) = is_granted (granted_row_lem i)

        go : (late : Bool) → is_late (later s) row ≡ late → AfterWaiting s t (fills_of s (Tick room)) row page mode
        go true e = let x = waited_late e in gone_late x.0 x.1
        go false e = go_on (waited_same e) (tried row b)

  -- ---- the best live row of all

  -- after the tick it waits only where it pins every slot itself: holders are live, and none outranks it
  pub best_waits : (row page : ℕ) (mode : Mode) → row < 32 → BestLive t row → (row_at t row).condition ≡ Waiting page mode → PinsAll t row
  best_waits row page mode b best c = go (still_waiting row page mode b c).1
    where
      beaten : (slot h : ℕ) → slot < 64 → h < 32 → (h ≡ row → ⊥) → holds t slot h ≡ true → outranks t row h ≡ true
      beaten slot h i m n q = best.best h m n ((facts t sound_t).held slot h i m q).live

      own_pin : (slot : ℕ) → slot < 64 → CannotTake t row slot → pins t slot row ≡ true
      own_pin slot i (by_lower h m l q) =
          let k = level_outranks t row h (beaten slot h i m (λ e. absurd (let v = ap level_of e in omega arith)) q) in
          absurd (omega arith)
      own_pin slot i (by_better h m l o q) = outranks_once t h row o (beaten slot h i m (outranks_other t h row o) q)
      own_pin slot i (by_itself p) = p

      go : WaitReason t row page mode → PinsAll t row
      go (inl p) slot i =
          let h = in_conflict_held mode (holding_at t p.slot p.other).pin p.against in
          outranks_once t p.other row p.better (beaten p.slot p.other p.slot_is p.other_row p.different h)
      go (inr n) slot i = own_pin slot (omega (arith, (facts t sound_t).size_most)) (n.every slot i)

  module _ (row page : ℕ) (mode : Mode) (b : row < 32) (w : (row_at s row).condition ≡ Waiting page mode) (best : BestLive s row) where
    -- where it is live after the tick it is the best then, too
    best_still : is_live (row_at t row).condition ≡ true → BestLive t row
    best_still l = record {
      live = l;
      best = λ h m n k. let x = live_before h m k in outranks_kept t s row h places_t (live_before row b l).1 x.1 ∙ best.best h m n x.0;
    }

    -- where it is not late it is tried first
    first : (rows : List ℕ) → row_at u row ≡ row_at s row → Ranked (outranks u) rows → Each (λ q. (q < 32) × (is_waiting (row_at u q).condition ≡ true)) rows → Has row rows → (rest : List ℕ) × (rows ≡ row ∷ rest)
    first [] e k a h = absurd h
    first (q ∷ rows) e k a h = elim (ℕ_discrete q row) [
      | yes n ↦ (rows, ap (λ (r : ℕ). r ∷ rows) n)
      | no n ↦ absurd (later_one n h)
    ]
      where
        later_one : (q ≡ row → ⊥) → (row ≡ q) ⊎ Has row rows → ⊥
        later_one n (inl v) = n (sym v)
        later_one n (inr v) =
            let l = ticked_live s (facts s z).sized q a.0.0 (waiting_live (row_at u q).condition a.0.1) in
            outranks_once u q row (each_has (λ r. outranks u q r ≡ true) rows row k.0 v)
            (outranks_kept u s row q (ticked_places s (facts s z).sized) (ap (λ (r : Row). r.deadline) e) l.1 ∙ best.best q a.0.0 n l.0)

    best_tried : row_at u row ≡ row_at s row → MadeOr u (tries (waiters u) u).state row page mode
    unfolding tries
    best_tried e =
        let c : (row_at u row).condition ≡ Waiting page mode = rw (e, w) in
        let f = first (waiters u) e (ranked u y) (waiters_wait u) (waiters_have u row b (rw c)) in
        let k : Ranked (outranks u) (row ∷ f.0) = rw f.1 at (ranked u y) in
        let m : AreRows (row ∷ f.0) = rw f.1 at (waiters_rows u) in
        rw f.1 (go f.0 c (first_tried u row b page mode f.0 u m.1 y (refl, λ q n v. refl) c k.0))
      where
        go : (rest : List ℕ) → (row_at u row).condition ≡ Waiting page mode → MadeOr u (tries rest (served u row page mode).state).state row page mode
            → MadeOr u (tries rest (try_row (row_at u row).condition u row).state).state row page mode
        go rest c h = rw c h

    -- idle or fetching after the tick, unless that tick makes it late or it pins every slot itself
    pub best_served : IdleOrFetchingUnless s t row
    unfolding all_tried
    best_served = go (is_late (later s) row) refl
      where
        on : is_late (later s) row ≡ false → MadeOr u (tries (waiters u) u).state row page mode → IdleOrFetchingUnless s t row
        on e (inl i) = idle_or_fetching (rw after i)
        on e (inr h) =
            let c : (row_at t row).condition ≡ Waiting page mode = rw after h.0 in
            let p = best_waits row page mode b (best_still (rw c)) c in
            let size : t.size ≡ s.size = rw after ((tried_fixed u).size ∙ ticked_size s (facts s z).sized) in
            pins_all (λ slot i.
            let k : holding_at t slot row ≡ holding_at s slot row = rw after (h.2 slot (omega (arith, (facts s z).size_most))) ∙ ticked_holding s (facts s z).sized slot row b ∙ rw e in
            sym (ap (λ (x : Holding). is_pin x.pin) k) ∙ p slot (rw size i)) p

        go : (late : Bool) → is_late (later s) row ≡ late → IdleOrFetchingUnless s t row
        go true e = let x = waited_late row page mode b w e in made_late x.0 x.1
        go false e = on e (best_tried (waited_same row page mode b w e))
