-- Document 02, T-04, the list of what the tries of a tick filled: its entries hold when the tries are done, it has each row that was made ready or fetching, no row twice, and the rows in the order of their priority.
use mathlib.Core.Path.{◌≡◌, refl, sym, ◌∙◌, ap}
use mathlib.Core.Bool.{Bool, true, false}
use mathlib.Core.List.{List, [], ◌∷◌, ◌++◌}
use mathlib.Core.Logic.{◌⊎◌, inl, inr}
use Prim.Native.Nat.{ℕ, ◌<◌}
use native.Mathlib.Omega.{arith}
use native.Mathlib.Decide.{ℕ_discrete}
use Rattle.seq.proofs.Tests.{true_false, not_false_true}
use Rattle.seq.specs.Order.{Each, Ranked}
use Rattle.seq.proofs.SortOrder.{sorted_ranked}
use Rattle.model.specs.declared.Answer.{Answer}
use Rattle.model.specs.declared.Condition.TheVariants.{Waiting}
use Rattle.model.specs.declared.Mode.{Mode}
use Rattle.model.specs.declared.Outcome.{Outcome}
use Rattle.model.specs.declared.Row.{Row}
use Rattle.model.specs.declared.State.{State}
use Rattle.model.specs.declared.Holding.{Holding}
use Rattle.model.specs.State.{row_at, holding_at}
use Rattle.model.specs.Words.{is_live, is_held, is_pin, outranks}
use Rattle.model.proofs.PinLaws.{pin_held}
use Rattle.model.proofs.PriorityLaws.{outranks_trans, outranks_kept}
use Rattle.rules.specs.Calls.{served}
use Rattle.rules.specs.Listed.{is_idle_or_fetching, Listed, PinnedFor, GrantedFor, WaitedFor, EachFill, SomeFill, HasRow, OnceEach, RankedFills}
use Rattle.rules.specs.Refusals.{is_waiting}
use Rattle.rules.specs.Sound.{sound}
use Rattle.rules.specs.Tries.{Fill, Tried, filled_by, tries, waiters, all_tried}
use Rattle.rules.proofs.Facts.SoundFacts.{facts, live_taken, ranks_apart}
use Rattle.rules.proofs.Leaves.AnswerCases.{by_slot}
use Rattle.rules.proofs.Leaves.ServeCases.{served_fixed}
use Rattle.rules.proofs.Leaves.TryLaws.{by_tries, waiters_rows}
use Rattle.rules.specs.Slots.{LeftAlone}
use Rattle.rules.proofs.Promises.BetterSafe.{better_safe}
use Rattle.rules.proofs.Promises.FillLists.{some_right, each_some, each_fill}
use Rattle.rules.proofs.Promises.ServedRows.{SameOrTaken, Own, own_waits, own_ready, own_fetch, served_others, served_deadline, served_own}
use Rattle.rules.proofs.Promises.TriedRows.{waits_unmade, waiting_live, live_after, served_after, still_waits, vain_still}
use Rattle.rules.proofs.Stays.StaysTries.{stored_sound}

-- what a served row fills: nothing where it waits, or an entry that holds
pub by_filled : (P : List Fill → Type 0) (row page : ℕ) (mode : Mode) (o : Outcome) → Own row page mode o
    → ((row_at o.state row).condition ≡ Waiting page mode → P []) → ((f : Fill) → f.row ≡ row → f.page ≡ page → PinnedFor o.state mode f → P (f ∷ [])) → P (filled_by row page o.answer)
by_filled P row page mode o (own_waits a c) none one = rw a (none c)
by_filled P row page mode o (own_ready slot back a c l) none one = rw a (one (record { row = row; slot = slot; page = page; back = back }) refl refl l)
by_filled P row page mode o (own_fetch due slot back a c l) none one = rw a (one (record { row = row; slot = slot; page = page; back = back }) refl refl l)

-- ---- in which order

-- what an answer fills: nothing, or an entry of the row
by_answer : (P : List Fill → Type 0) (row page : ℕ) (x : Answer) → P [] → ((f : Fill) → f.row ≡ row → P (f ∷ [])) → P (filled_by row page x)
by_answer P row page x none one =
    by_slot x
    (λ slot back e. rw e (one (record { row = row; slot = slot; page = page; back = back }) refl))
    (λ due slot back e. rw e (one (record { row = row; slot = slot; page = page; back = back }) refl))
    (λ n e. rw n none)

-- the entries stand in the order in which their rows were tried
module _ (before : ℕ → ℕ → Bool) where
  abbrev InTurn : List ℕ → State → Tried → Type 0
  InTurn rows s y = ((r : ℕ) → Each (λ q. before r q ≡ true) rows → EachFill (λ f. before r f.row ≡ true) y.fills) × (Ranked before rows → RankedFills before y.fills)

  tries_in_order : (rows : List ℕ) (s : State) → InTurn rows s (tries rows s)
  tries_in_order = by_tries InTurn
      (λ s. ((λ r h. tt), (λ k. tt)))
      (λ row rows s y w more. ((λ r h. more.0 r h.1), (λ k. more.1 k.1)))
      (λ row rows s page mode y w more. (
        (λ r h.
            by_answer (λ xs. EachFill (λ f. before r f.row ≡ true) (xs ++ y.fills)) row page (served s row page mode).answer (more.0 r h.1)
            (λ f e. (rw e h.0, more.0 r h.1))),
        (λ k. by_answer (λ xs. RankedFills before (xs ++ y.fills)) row page (served s row page mode).answer (more.1 k.1) (λ f e. (rw e (more.0 row k.0), more.1 k.1))),
      ))

-- ---- which rows have entries

abbrev pub AreRows : List ℕ → Type 0
AreRows = Each (λ row. row < 32)

abbrev Waited : State → Fill → Type 0
Waited s f = (f.row < 32) × WaitedFor s f

-- the entries are of rows that waited, and no row has two: one that has an entry waits no longer
waited_once : (rows : List ℕ) (s : State) → AreRows rows → sound s ≡ true → EachFill (Waited s) (tries rows s).fills × OnceEach (tries rows s).fills
waited_once = by_tries (λ rows s y. AreRows rows → sound s ≡ true → EachFill (Waited s) y.fills × OnceEach y.fills)
    (λ s h z. (tt, tt))
    (λ row rows s y w more h z. more h.1 z)
    (λ row rows s page mode y w more h z.
    let k = more h.1 (stored_sound s z row h.0 page mode w) in
    go row s page mode h.0 z w y.fills k.0 k.1)
  where
    go : (row : ℕ) (s : State) (page : ℕ) (mode : Mode) → row < 32 → sound s ≡ true → (row_at s row).condition ≡ Waiting page mode → (fs : List Fill) → EachFill (Waited (served s row page mode).state) fs → OnceEach fs
        → EachFill (Waited s) (filled_by row page (served s row page mode).answer ++ fs) × OnceEach (filled_by row page (served s row page mode).answer ++ fs)
    go row s page mode b z w fs waited once =
        by_filled (λ xs. EachFill (Waited s) (xs ++ fs) × OnceEach (xs ++ fs)) row page mode (served s row page mode) (served_own s z row b page mode)
        (λ c. (old, once))
        (λ f r p l. (((rw r b, (mode, rw (r, p) w)), old), (new f l.0, once)))
      where
        t : State
        t = (served s row page mode).state

        old : EachFill (Waited s) fs
        old = each_fill (Waited t) (Waited s) (λ f k. (k.0, (k.1.0, ap (λ (x : Row). x.condition) (sym (still_waits s z row b page mode w f.row k.0 (rw k.1.1))) ∙ k.1.1))) fs waited

        new : (f : Fill) → Listed t f → HasRow f.row fs → ⊥
        new f l m =
            let k = each_some (Waited t) (λ g. g.row ≡ f.row) fs waited m in
            waits_unmade (row_at t f.row).condition (ap (λ (r : ℕ). is_waiting (row_at t r).condition) (sym k.2) ∙ rw k.1.1.1) l.condition_is

-- a row that is idle or fetching afterwards has an entry, or was so before
made_listed : (rows : List ℕ) (s : State) → AreRows rows → sound s ≡ true → (q : ℕ) → q < 32 → is_idle_or_fetching (row_at (tries rows s).state q).condition ≡ true
    → HasRow q (tries rows s).fills ⊎ (is_idle_or_fetching (row_at s q).condition ≡ true)
made_listed = by_tries (λ rows s y. AreRows rows → sound s ≡ true → (q : ℕ) → q < 32 → is_idle_or_fetching (row_at y.state q).condition ≡ true → HasRow q y.fills ⊎ (is_idle_or_fetching (row_at s q).condition ≡ true))
    (λ s h z q m e. inr e)
    (λ row rows s y w more h z. more h.1 z)
    (λ row rows s page mode y w more h z q m e. go row s page mode h.0 z y.fills q m (more h.1 (stored_sound s z row h.0 page mode w) q m e))
  where
    go : (row : ℕ) (s : State) (page : ℕ) (mode : Mode) → row < 32 → sound s ≡ true → (fs : List Fill) (q : ℕ) → q < 32 → HasRow q fs ⊎ (is_idle_or_fetching (row_at (served s row page mode).state q).condition ≡ true)
        → HasRow q (filled_by row page (served s row page mode).answer ++ fs) ⊎ (is_idle_or_fetching (row_at s q).condition ≡ true)
    go row s page mode b z fs q m (inl k) = inl (some_right (λ f. f.row ≡ q) (filled_by row page (served s row page mode).answer) fs k)
    go row s page mode b z fs q m (inr i) = elim (ℕ_discrete q row) [
      | yes e ↦ inl (by_filled (λ xs. HasRow q (xs ++ fs)) row page mode (served s row page mode) (served_own s z row b page mode)
          (λ c. true_false (sym (rw (e, c) at i)))
          (λ f r p l. inl (r ∙ sym e)))
      | no n ↦ inr (other (row_at s q) (row_at (served s row page mode).state q) (served_others s z row b page mode q m n) i)
    ]
      where
        other : (x y : Row) → SameOrTaken x y → is_idle_or_fetching y.condition ≡ true → is_idle_or_fetching x.condition ≡ true
        other x y (inl e) i = rw e at i
        other x y (inr e) i = true_false (sym (rw e at i))

-- ---- no later try takes back what an entry says

left_trans : (s t u : State) (row : ℕ) → LeftAlone s t row → LeftAlone t u row → LeftAlone s u row
left_trans s t u row x y = record {
  row_same = y.row_same ∙ x.row_same;
  holding_same = λ i b. y.holding_same i b ∙ x.holding_same i b;
  page_same = λ i b h p. y.page_same i b (ap (λ (k : Holding). is_held k.pin) (x.holding_same i b) ∙ h) p ∙ x.page_same i b h p;
}

still_granted : (s t : State) (mode : Mode) (f : Fill) → LeftAlone s t f.row → PinnedFor s mode f → PinnedFor t mode f
still_granted s t mode f x g =
    let l = g.0 in
    let e = x.holding_same f.slot l.slot_is in (
      record {
        row_is = l.row_is;
        condition_is = ap (λ (k : Row). is_idle_or_fetching k.condition) x.row_same ∙ l.condition_is;
        slot_is = l.slot_is;
        pins_it = ap (λ (k : Holding). is_pin k.pin) e ∙ l.pins_it;
        has_it = x.page_same f.slot l.slot_is (pin_held (holding_at s f.slot f.row).pin l.pins_it) f.page ∙ l.has_it;
      },
      rw e g.1,
    )

-- tries of rows in the order of u, on a state in which the begin orders and the rows that wait are as in u
module _ (u : State) where
  abbrev pub Old : State → Type 0
  Old s = (s.places ≡ u.places) × ((q : ℕ) → q < 32 → is_waiting (row_at s q).condition ≡ true → row_at s q ≡ row_at u q)

  -- a row that outranks each of the rows
  abbrev pub Ahead : List ℕ → State → Tried → Type 0
  Ahead rows s y = (h : ℕ) → h < 32 → (row_at s h).deadline ≡ (row_at u h).deadline → Each (λ q. outranks u h q ≡ true) rows → LeftAlone s y.state h

  pub served_old : (s : State) → sound s ≡ true → (row : ℕ) → row < 32 → (page : ℕ) (mode : Mode) → (row_at s row).condition ≡ Waiting page mode → Old s → Old (served s row page mode).state
  served_old s z row b page mode w old = (
    (served_fixed s row page mode).places ∙ old.0,
    λ q m k.
        let e = still_waits s z row b page mode w q m k in
        e ∙ old.1 q m (ap (λ (x : Row). is_waiting x.condition) (sym e) ∙ k),
  )

  ranked_hold : (rows : List ℕ) (s : State) → AreRows rows → sound s ≡ true → Old s → Ahead rows s (tries rows s) × (Ranked (outranks u) rows → EachFill (GrantedFor u (tries rows s).state) (tries rows s).fills)
  ranked_hold = by_tries (λ rows s y. AreRows rows → sound s ≡ true → Old s → Ahead rows s y × (Ranked (outranks u) rows → EachFill (GrantedFor u y.state) y.fills))
      (λ s b z old. ((λ h m d a. record { row_same = refl; holding_same = λ i k. refl; page_same = λ i k q p. refl }), (λ r. tt)))
      (λ row rows s y w more b z old.
      let k = more b.1 z old in
      ((λ h m d a. k.0 h m d a.1), (λ r. k.1 r.1)))
      (λ row rows s page mode y w more b z old.
      let t : State = (served s row page mode).state in
      let k = more b.1 (stored_sound s z row b.0 page mode w) (served_old s z row b.0 page mode w old) in
      let own : (row_at s row).deadline ≡ (row_at u row).deadline = ap (λ (x : Row). x.deadline) (old.1 row b.0 (rw w)) in
      let waited : (row_at u row).condition ≡ Waiting page mode = ap (λ (x : Row). x.condition) (sym (old.1 row b.0 (rw w))) ∙ w in (
        (λ h m d a.
            let x = better_safe s z row b.0 page mode h m (outranks_kept s u h row old.0 d own ∙ a.0) in
            left_trans s t y.state h x (k.0 h m (ap (λ (c : Row). c.deadline) x.row_same ∙ d) a.1)),
        (λ r.
            by_filled (λ xs. EachFill (GrantedFor u y.state) (xs ++ y.fills)) row page mode (served s row page mode) (served_own s z row b.0 page mode)
            (λ c. k.1 r.1)
            (λ f e p l. ((mode, rw (e, p) waited, still_granted t y.state mode f (rw e (k.0 row b.0 (served_deadline s z row b.0 page mode ∙ own) r.0)) l), k.1 r.1))),
      ))

  -- a row that outranks each row that is tried is left alone
  pub tries_alone : (rows : List ℕ) (s : State) → AreRows rows → sound s ≡ true → Old s → Ahead rows s (tries rows s)
  tries_alone rows s b z old = (ranked_hold rows s b z old).0

  -- ---- a row that a try kills is outranked by the row of an entry, which waited

  abbrev pub Outranker : ℕ → ℕ → Type 0
  Outranker q row = (row < 32) × (is_waiting (row_at u row).condition ≡ true) × (outranks u row q ≡ true)

  -- a row that a served request kills
  kills_worse : (s : State) → sound s ≡ true → (row : ℕ) → row < 32 → (page : ℕ) (mode : Mode) → (row_at s row).condition ≡ Waiting page mode → (q : ℕ) → q < 32
      → is_live (row_at s q).condition ≡ true → is_live (row_at (served s row page mode).state q).condition ≡ false → outranks s row q ≡ true
  kills_worse s z row b page mode w q m l d = not_false_true (outranks s row q) (λ n.
      let o = not_false_true (outranks s q row) (λ k. dead_other (ranks_apart s (facts s z) row q b m (rw w) n k)) in
      true_false (sym l ∙ ap (λ (r : Row). is_live r.condition) (sym (better_safe s z row b page mode q m o).row_same) ∙ d))
    where
      own_lives : Own row page mode (served s row page mode) → is_live (row_at (served s row page mode).state row).condition ≡ true
      own_lives (own_waits a c) = rw c
      own_lives (own_ready slot back a c k) = rw c
      own_lives (own_fetch due slot back a c k) = rw c

      dead_other : row ≡ q → ⊥
      dead_other e = true_false (sym (own_lives (served_own s z row b page mode)) ∙ ap (λ (r : ℕ). is_live (row_at (served s row page mode).state r).condition) e ∙ d)

  taken_by : (q : ℕ) → q < 32 → (rows : List ℕ) (s : State) → AreRows rows → sound s ≡ true → Old s → (row_at s q).deadline ≡ (row_at u q).deadline
      → is_live (row_at s q).condition ≡ true → is_live (row_at (tries rows s).state q).condition ≡ false → SomeFill (λ f. Outranker q f.row) (tries rows s).fills
  taken_by q m = by_tries (λ rows s y. AreRows rows → sound s ≡ true → Old s → (row_at s q).deadline ≡ (row_at u q).deadline → is_live (row_at s q).condition ≡ true → is_live (row_at y.state q).condition ≡ false → SomeFill (λ f. Outranker q f.row) y.fills)
      (λ s b z old e l d. true_false (sym l ∙ d))
      (λ row rows s y w more b z old e l d. more b.1 z old e l d)
      (λ row rows s page mode y w more b z old e l d.
      go row s page mode b.0 z w old e l y.fills (is_live (row_at (served s row page mode).state q).condition) refl
      (λ k f. more b.1 (stored_sound s z row b.0 page mode w) (served_old s z row b.0 page mode w old) f k d))
    where
      go : (row : ℕ) (s : State) (page : ℕ) (mode : Mode) → row < 32 → sound s ≡ true → (row_at s row).condition ≡ Waiting page mode → Old s → (row_at s q).deadline ≡ (row_at u q).deadline
          → is_live (row_at s q).condition ≡ true → (fs : List Fill) (x : Bool) → is_live (row_at (served s row page mode).state q).condition ≡ x
          → (is_live (row_at (served s row page mode).state q).condition ≡ true → (row_at (served s row page mode).state q).deadline ≡ (row_at u q).deadline → SomeFill (λ f. Outranker q f.row) fs)
          → SomeFill (λ f. Outranker q f.row) (filled_by row page (served s row page mode).answer ++ fs)
      go row s page mode b z w old e l fs true k more =
          let d = live_after (row_at s q) (row_at (served s row page mode).state q) (served_after s z row b page mode w q m) k in
          some_right (λ f. Outranker q f.row) (filled_by row page (served s row page mode).answer) fs (more k (d.1 ∙ e))
      go row s page mode b z w old e l fs false k more = entry (served_own s z row b page mode)
        where
          better : Outranker q row
          better =
              let r = old.1 row b (rw w) in
              (b, ap (λ (x : Row). is_waiting x.condition) (sym r) ∙ rw w, outranks_kept u s row q (sym old.0) (ap (λ (x : Row). x.deadline) (sym r)) (sym e) ∙ kills_worse s z row b page mode w q m l k)

          entry : Own row page mode (served s row page mode) → SomeFill (λ f. Outranker q f.row) (filled_by row page (served s row page mode).answer ++ fs)
          entry (own_waits a c) = true_false (sym l ∙ ap (λ (x : State). is_live (row_at x q).condition) (sym (vain_still s row page mode w a)) ∙ k)
          entry (own_ready slot back a c i) = rw a (inl better)
          entry (own_fetch due slot back a c i) = rw a (inl better)

-- ---- of a sound state

-- the waiting rows stand in the order of their priority
pub ranked : (u : State) → sound u ≡ true → Ranked (outranks u) (waiters u)
unfolding waiters
ranked u z = sorted_ranked (λ r. is_waiting (row_at u r).condition) (outranks u) 32 (outranks_trans u)
    (λ i j a b p q. ranks_apart u (facts u z) i j a b (live_taken (row_at u i).condition (waiting_live (row_at u i).condition p))) 32 (omega arith)

module _ (u : State) (z : sound u ≡ true) where
  -- the row of each entry waited for its page, and is granted it when all are tried
  pub fills_granted : EachFill (GrantedFor u (all_tried u).state) (all_tried u).fills
  unfolding all_tried
  fills_granted = (ranked_hold u (waiters u) u (waiters_rows u) z (refl, λ q m k. refl)).1 (ranked u z)

  pub fills_hold : EachFill (Listed (all_tried u).state) (all_tried u).fills
  fills_hold = each_fill (GrantedFor u (all_tried u).state) (Listed (all_tried u).state) (λ f k. k.2.0) (all_tried u).fills fills_granted

  -- the row of each entry outranks that of every later one
  pub fills_in_order : RankedFills (outranks u) (all_tried u).fills
  unfolding all_tried
  fills_in_order = (tries_in_order (outranks u) (waiters u) u).1 (ranked u z)

  -- no row has two entries
  pub fills_once : OnceEach (all_tried u).fills
  unfolding all_tried
  fills_once = (waited_once (waiters u) u (waiters_rows u) z).1

  -- each row that waited and is idle or fetching has an entry
  pub fills_all : (q : ℕ) → q < 32 → is_waiting (row_at u q).condition ≡ true → is_idle_or_fetching (row_at (all_tried u).state q).condition ≡ true → HasRow q (all_tried u).fills
  unfolding all_tried
  fills_all q m w e = go (made_listed (waiters u) u (waiters_rows u) z q m e)
    where
      go : HasRow q (all_tried u).fills ⊎ (is_idle_or_fetching (row_at u q).condition ≡ true) → HasRow q (all_tried u).fills
      go (inl h) = h
      go (inr i) = waits_unmade (row_at u q).condition w i

  -- a row that they kill is outranked by the row of an entry, which waited
  pub fills_taken : (q : ℕ) → q < 32 → is_live (row_at u q).condition ≡ true → is_live (row_at (all_tried u).state q).condition ≡ false → SomeFill (λ f. Outranker u q f.row) (all_tried u).fills
  unfolding all_tried
  fills_taken q m = taken_by u q m (waiters u) u (waiters_rows u) z (refl, λ r b k. refl) refl
