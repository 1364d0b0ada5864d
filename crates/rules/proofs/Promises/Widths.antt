-- Every number of a sound state fits its word where the deadlines do, and they stay so under calls whose numbers do.
use mathlib.Core.Path.{◌≡◌, refl}
use mathlib.Core.Bool.{Bool, true, false, cond, not}
use mathlib.Core.List.{List}
use Prim.Native.Nat.{ℕ, ◌+◌, ◌*◌, ◌/◌, ◌%◌, ◌<◌, ◌≤◌, ◌^◌}
use native.Mathlib.Omega.{arith}
use native.Mathlib.Decide.{dec_lt}
use borrow.Author.Tests.{eqb-true}
use lib.Dec.{eqb, lit<}
use lib.ListN.{length, get_or, get_or-eq_default}
use Rattle.seq.proofs.Tests.{and_true}
use Rattle.seq.proofs.BelowLaws.{count_at_most}
use Rattle.std.specs.Prelude.{Option}
use Rattle.model.specs.declared.Cause.{Cause}
use Rattle.model.specs.declared.Cause.TheVariants.{Late, Taken}
use Rattle.model.specs.declared.Condition.{Condition}
use Rattle.model.specs.declared.Condition.TheVariants.{Free, Idle, Fetching, Waiting, Killed}
use Rattle.model.specs.declared.Content.{Content}
use Rattle.model.specs.declared.Content.TheVariants.{Empty, Filled}
use Rattle.model.specs.declared.Mode.{Mode}
use Rattle.model.specs.declared.Outcome.{Outcome}
use Rattle.model.specs.declared.Row.{Row}
use Rattle.model.specs.declared.Borders.{Borders}
use Rattle.model.specs.declared.State.{State}
use Rattle.model.specs.Parties.{row_of, level_of, are_borders, last_clock}
use Rattle.model.specs.State.{free_row, empty_slot, empty_holding, fresh, row_at, slot_at, holding_at, place_at}
use Rattle.model.specs.Words.{holds, pins, is_free, is_filled, arrival_in}
use Rattle.model.specs.Changes.{killed_row, released, killed, cleared, rows_not_free}
use Rattle.model.specs.Ranges.{Sized, ConditionOk, ContentOk, HoldingOk, RowOk, SlotOk, BordersOk, StateOk}
use Rattle.model.proofs.StateLaws.{row_put, fresh_row}
use Rattle.model.proofs.ChangeLaws.{killed_row_lem, sized_released, sized_killed}
use Rattle.model.proofs.BordersLaws.{in_order}
use Rattle.model.proofs.PinLaws.{pin_held}
use Rattle.rules.specs.Sound.{awaits, sound}
use Rattle.rules.specs.Calls.{unpinned_at, delivered_row, is_late, late_killed, three_steps, waiting, granted, pinners_killed, filled, served}
use Rattle.model.specs.declared.Call.{Call}
use Rattle.model.specs.declared.Call.TheVariants.{Start, Begin, Request, Unpin, End, Tick, Look, View, Count}
use Rattle.rules.specs.Run.{outcome}
use Rattle.rules.specs.Content.{fields, Fits, Narrow, OfC}
use Rattle.rules.specs.Tries.{all_tried}
use Rattle.rules.specs.SoundFacts.{Sound, BordersSound, Awaiting, RowSound}
use Rattle.rules.proofs.Facts.SoundFacts.{facts, borders_facts}
use Rattle.rules.proofs.Leaves.CallEffects.{Effect, unchanged, starts, begins, unpins, ends, ticks, sets, serves, effect}
use Rattle.rules.proofs.Leaves.GrantLaws.{granted_row, granted_row_lem}
use Rattle.rules.proofs.Leaves.TickLaws.{later, sized_later, ticked_row}
use Rattle.rules.proofs.Promises.Serving.{Serving, waits, waits_g, joins, fills, serving}
use Rattle.rules.proofs.Stays.StaysBorders.{ticked_borders}
use Rattle.rules.proofs.Stays.StaysSound.{stays_sound}
use Rattle.rules.proofs.Stays.StaysTick.{ticked_sound}
use Rattle.rules.proofs.Stays.StaysTries.{by_all_tried}
use Rattle.rules.proofs.Stays.StaysChoice.{chosen_free}
use Rattle.rules.proofs.Promises.Granting.{killed_ground, filled_ground}

-- what holds of each element of a list and of the default, holds at every place
everywhere : {A : Type 0} (P : A → Type 0) (l : List A) (d : A) (n : ℕ) → length l ≡ n → P d → ((i : ℕ) → i < n → P (get_or l i d)) → (i : ℕ) → P (get_or l i d)
everywhere P l d n e z f i = elim (dec_lt i n) [
  | yes h ↦ f i h
  | no h ↦ rw (get_or-eq_default l d {n = i} (omega arith)) z
]

-- ---- the deadlines

module _ (bound : ℕ) (positive : 0 < bound) where
  pub fresh_narrow : (slots delay : ℕ) → Narrow bound (fresh slots delay)
  fresh_narrow slots delay row = rw (fresh_row slots delay row) (omega arith)

  either : (b : Bool) (x y : Row) → x.deadline < bound → y.deadline < bound → (cond b x y).deadline < bound
  either true x y h k = h
  either false x y h k = k

  module _ (s : State) (z : Sound s) (narrow : Narrow bound s) (q : ℕ) (b : q < 32) where
    killed_narrow : (some : ℕ → Bool) (cause : Cause) (r : ℕ) → r < 32 → (row_at (killed some cause s) r).deadline < bound
    killed_narrow some cause r h = rw (killed_row_lem some s z.sized cause r h) (either (some r) (killed_row cause) (row_at s r) (omega arith) (narrow r))

    -- a grant on a state with the rows that a kill left
    granted_narrow : (some : ℕ → Bool) (u : State) → Sized u → ((r : ℕ) → row_at u r ≡ row_at (killed some Taken s) r)
        → (row slot : ℕ) → row < 32 → slot < 64 → (mode : Mode) (arrival : ℕ) (back : Option ℕ) → (row_at (granted u row slot mode arrival back).state q).deadline < bound
    granted_narrow some u y same row slot r i mode arrival back =
        rw (granted_row_lem u y row slot r i mode arrival back q)
        (either (eqb q row) (granted_row u row arrival) (row_at u q) (rw (same row) (killed_narrow some Taken row r)) (rw (same q) (killed_narrow some Taken q b)))

    served_narrow : (row page : ℕ) (mode : Mode) → row < 32 → (o : Outcome) → Serving s row page mode o → (row_at o.state q).deadline < bound
    unfolding waiting filled cleared pinners_killed
    served_narrow row page mode r o (waits slot e v w k) = rw (k, row_put s z.sized row _ q r) (either (eqb q row) _ (row_at s q) (narrow row) (narrow q))
    served_narrow row page mode r o (waits_g e n k) = rw (k, row_put s z.sized row _ q r) (either (eqb q row) _ (row_at s q) (narrow row) (narrow q))
    served_narrow row page mode r o (joins slot arrival some e n k) =
        let g = killed_ground s z some page slot e in
        rw k (granted_narrow some _ g.sized (λ _. refl) row slot r g.slot_is mode arrival _)
    served_narrow row page mode r o (fills slot e n k) =
        let g = filled_ground s z page slot (level_of row) (chosen_free s row r z slot n).0 in
        rw k (granted_narrow _ _ g.sized (λ _. refl) row slot r g.slot_is mode _ _)

  all_narrow : (s : State) → Sized s → ((q : ℕ) → q < 32 → (row_at s q).deadline < bound) → Narrow bound s
  all_narrow s z = everywhere (λ x. x.deadline < bound) s.rows free_row 32 z.rows (omega arith)

  -- a request that is served
  pub narrow_served : (s : State) → Sound s → Narrow bound s → (row page : ℕ) (mode : Mode) → row < 32 → Sized (served s row page mode).state → Narrow bound (served s row page mode).state
  narrow_served s z narrow row page mode b k =
      all_narrow (served s row page mode).state k (λ q r. served_narrow s z narrow q r row page mode b (served s row page mode) (serving s row page mode))

  -- the three steps of a tick, and each of its tries
  tried_narrow : (s : State) → Sound s → BordersSound s → Narrow bound s → Narrow bound (all_tried s).state
  tried_narrow = by_all_tried (λ s y. Narrow bound s → Narrow bound y.state) (λ s n. n)
      (λ s row page mode y z b w next more n. more (narrow_served s z n row page mode b next.sized))

  steps_narrow : (s : State) → Sound s → Narrow bound s → Narrow bound (three_steps s)
  unfolding delivered_row late_killed
  steps_narrow s z narrow = all_narrow (three_steps s) (sized_killed (is_late (later s)) (later s) (sized_later s z.sized) Late) (λ q b.
      rw (ticked_row s z.sized q b) (either (is_late (later s) q) (killed_row Late) (delivered_row (s.clock + 1) (row_at s q)) (omega arith) (narrow q)))

  module _ (s : State) (z : Sound s) (y : BordersSound s) (narrow : Narrow bound s) (q : ℕ) (b : q < 32) where
    call_narrow : (c : Call) → (fields c).deadline < bound → (o : Outcome) → Effect s c o → (row_at o.state q).deadline < bound
    unfolding unpinned_at released
    call_narrow c f o (unchanged a x e) = rw e (narrow q)
    call_narrow c f o (starts slots delay k x e) = rw e (fresh_narrow slots delay q)
    call_narrow c f o (begins level number deadline k t e) =
        rw (e, row_put s z.sized (row_of level number) _ q t.names.row_is) (either (eqb q (row_of level number)) _ (row_at s q) (rw k at f) (narrow q))
    call_narrow c f o (unpins level number page slot k t i p e) = rw e (narrow q)
    call_narrow c f o (ends level number k n e) =
        let row = row_of level number in
        rw (e, row_put (released (eqb row) s) (sized_released (eqb row) s z.sized) row free_row q n.names.row_is) (either (eqb q row) free_row (row_at s q) (omega arith) (narrow q))
    call_narrow c f o (ticks room k w x e) = rw e (tried_narrow (three_steps s) (ticked_sound s z x) (ticked_borders s z y) (steps_narrow s z narrow) q)
    call_narrow c f o (sets b k t e) = rw e (narrow q)
    call_narrow c f o (serves row page mode r a x e) = served_narrow s z narrow q b row page mode r o (rw (← e) at (serving s row page mode))

  pub stays_narrow : (s : State) (c : Call) → sound s ≡ true → (fields c).deadline < bound → Narrow bound s → Narrow bound (outcome s c).state
  stays_narrow s c z f narrow =
      all_narrow (outcome s c).state (facts (outcome s c).state (stays_sound s c z)).sized (λ row b. call_narrow s (facts s z) (borders_facts s z) narrow row b c f (outcome s c) (effect s c))

-- ---- the other numbers

-- each tick of a sound state is below what clock + delay is below, but for the deadlines
module _ (s : State) (z : Sound s) (n : ℕ) (room : s.clock + s.delay < n) where
  -- a fetching row's due tick is the arrival of one of its holdings
  pub due_below : (row due deadline : ℕ) → row < 32 → Awaiting s row due deadline → due < n
  unfolding awaits
  due_below row due deadline b h =
      let slot = h.one.at in
      let w = and_true (pins s slot row) (eqb (holding_at s slot row).arrival due) h.one.passes in
      omega (arith, eqb-true (holding_at s slot row).arrival due w.1, (z.held slot row h.one.below b (pin_held (holding_at s slot row).pin w.0)).arrival)

  pub touch_below : (slot : ℕ) → slot < 64 → (slot_at s slot).touch < n
  touch_below slot b = omega (arith, (z.slot slot b).touch)

  pub arrival_below : (slot : ℕ) → slot < 64 → is_filled (slot_at s slot).content ≡ true → arrival_in (slot_at s slot).content < n
  arrival_below slot b e = omega (arith, (z.slot slot b).arrival e)

  pub held_below : (slot row : ℕ) → slot < 64 → row < 32 → ((holding_at s slot row).arrival < n) × ((holding_at s slot row).touch < n)
  held_below slot row b r = go (holds s slot row) refl
    where
      go : (v : Bool) → holds s slot row ≡ v → ((holding_at s slot row).arrival < n) × ((holding_at s slot row).touch < n)
      go true e =
          let h = z.held slot row b r e in
          (omega (arith, h.arrival), omega (arith, h.touch, (z.slot slot b).touch))
      go false e = rw (z.unheld slot row b r e) (omega arith, omega arith)

module _ (s : State) (z : Sound s) where
  -- there is room in a word
  word_room : s.clock + s.delay < 2 ^ 64
  word_room = let b : last_clock + 255 < 2 ^ 64 = lit< tt in omega (arith, z.clock_most, z.delay_most)

  condition_fits : (row : ℕ) → row < 32 → (c : Condition) (deadline : ℕ) → RowSound s row c deadline → ConditionOk c
  condition_fits row b Free deadline h = tt
  condition_fits row b Idle deadline h = tt
  condition_fits row b (Fetching due) deadline h = due_below s z (2 ^ 64) word_room row due deadline b h
  condition_fits row b (Waiting page mode) deadline h = omega (arith, h.1)
  condition_fits row b (Killed cause) deadline h = tt

  content_fits : (slot : ℕ) → slot < 64 → (c : Content) → (slot_at s slot).content ≡ c → ContentOk c
  content_fits slot b Empty e = tt
  content_fits slot b (Filled page arrival dirty lowest) e =
      let k = z.slot slot b in
      let p : page ≤ 4095 = rw e at (k.page (rw e)) in
      let a : arrival < 2 ^ 64 = rw e at (arrival_below s z (2 ^ 64) word_room slot b (rw e)) in
      let l : lowest ≤ 3 = rw e at (k.lowest (rw e)) in
      (omega arith, a, omega arith)

  holding_fits : (slot row : ℕ) → slot < 64 → row < 32 → HoldingOk (holding_at s slot row)
  holding_fits slot row b r = let h = held_below s z (2 ^ 64) word_room slot row b r in record { arrival = h.0; touch = h.1 }

pub borders_fit : (b : Borders) → are_borders b ≡ true → BordersOk b
borders_fit b e =
    let x = in_order b e in
    record { first = omega (arith, x.first, x.second, x.third); second = omega (arith, x.second, x.third); third = omega (arith, x.third) }

-- every number of the state fits its word
pub sound_ok : (s : State) → sound s ≡ true → Narrow (2 ^ 64) s → StateOk s
unfolding rows_not_free
sound_ok s e narrow = record {
  size = omega (arith, z.size_most);
  delay = omega (arith, z.delay_most);
  clock = omega (arith, word_room s z);
  sized = z.sized;
  row = everywhere RowOk s.rows free_row 32 z.sized.rows (record { condition = tt; deadline = omega arith })
      (λ i b. record { condition = condition_fits s z i b (row_at s i).condition (row_at s i).deadline (z.row i b); deadline = narrow i });
  slot = everywhere SlotOk s.slots empty_slot 64 z.sized.slots (record { content = tt; touch = omega arith })
      (λ i b. record { content = content_fits s z i b (slot_at s i).content refl; touch = touch_below s z (2 ^ 64) (word_room s z) i b });
  holding = everywhere HoldingOk s.holdings empty_holding 2048 z.sized.holdings (record { arrival = omega arith; touch = omega arith })
      (λ k b. let n : k / 32 * 32 + k % 32 ≡ k = omega arith in rw n at (holding_fits s z (k / 32) (k % 32) (omega arith) (omega arith)));
  borders = borders_fit s.borders (borders_facts s e).valid;
  place = everywhere (λ n. n < 2 ^ 64) s.places 0 32 z.sized.places (omega arith) (λ i b. place_fits i b (is_free (row_at s i).condition) refl);
}
  where
    z : Sound s
    z = facts s e

    place_fits : (i : ℕ) → i < 32 → (x : Bool) → is_free (row_at s i).condition ≡ x → place_at s i < 2 ^ 64
    place_fits i b true f = omega (arith, z.order.none i b f)
    place_fits i b false f = omega (arith, z.order.most i b f, count_at_most (λ n. not (is_free (row_at s (row_of (level_of i) n)).condition)) 8)

-- ---- the numbers of a call

-- every call that C can make has numbers that fit
pub c_fits : (c : Call) → OfC c → Fits c
c_fits (Start slots delay) h = omega arith
c_fits (Begin level number deadline) h = omega arith
c_fits (Request level number page mode) h = omega arith
c_fits (Unpin level number page) h = omega arith
c_fits (End level number) h = omega arith
c_fits (Tick room) h = omega arith
c_fits (Look level number) h = omega arith
c_fits (View level page) h = omega arith
c_fits (Count level) h = omega arith
c_fits (Call.Borders first second third) h = omega arith
