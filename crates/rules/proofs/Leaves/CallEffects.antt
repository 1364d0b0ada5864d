-- What a call does: it leaves the state, or its numbers pass every refusal and it makes one kind of change.
use mathlib.Core.Path.{◌≡◌, refl, sym, ◌∙◌}
use mathlib.Core.Bool.{true, false}
use Prim.Native.Nat.{ℕ, suc, ◌+◌, ◌<◌, ◌≤◌}
use Rattle.seq.specs.Below.{at_found}
use Rattle.seq.specs.declared.Found.{Found}
use Rattle.seq.specs.declared.Found.TheVariants.{At, Nowhere}
use Rattle.seq.proofs.Tests.{true_false}
use Rattle.model.specs.declared.Answer.{Answer}
use Rattle.model.specs.declared.Answer.TheVariants.{Refused, Started, Begun, Unpinned, Ended, Clock, Open, Bordered}
use Rattle.model.specs.declared.Call.{Call}
use Rattle.model.specs.declared.Borders.{Borders}
use Rattle.model.specs.declared.Call.TheVariants.{Start, Begin, Request, Unpin, End, Tick, Look, View, Count}
use Rattle.model.specs.declared.Condition.TheVariants.{Idle}
use Rattle.model.specs.declared.Mode.{Mode}
use Rattle.model.specs.declared.Outcome.{Outcome}
use Rattle.model.specs.declared.State.{State}
use Rattle.model.specs.Parties.{row_of, level_of, mode_of, may_access, last_clock}
use Rattle.model.specs.State.{fresh, row_at, with_borders}
use Rattle.model.specs.Words.{pins, slot_of}
use Rattle.rules.specs.Refusals.{condition_at, pins_page, start_refusal, begin_refusal, request_refusal, unpin_refusal, end_refusal, tick_refusal, look_refusal, view_refusal, count_refusal, borders_refusal, StartTaken}
use Rattle.rules.specs.Calls.{unless, started, row_begun, begun, unpinned_at, unpinned, row_ended, ended, three_steps, served, requested, looked, looked_at, viewed_in, viewed, counted, bordered}
use Rattle.rules.specs.Content.{is_reading}
use Rattle.rules.specs.Requests.{Asks}
use Rattle.rules.specs.Run.{outcome}
use Rattle.rules.specs.Tries.{all_tried, ticked}
use Rattle.rules.proofs.Leaves.ContentLaws.{request_own}
use Rattle.rules.proofs.Leaves.RefusalFacts.{unless_is, Named, BeginTaken, UnpinTaken, EndTaken, BordersTaken, start_taken, begin_taken, request_taken, unpin_taken, end_taken, tick_taken, look_taken, borders_taken}

-- the calls that leave the state: refused ones, and look, view and count
pub data Still (s : State) (c : Call) (a : Answer) : Type 0 where
  refused : (n : ℕ) → a ≡ Refused (suc n) → Still s c a
  looks : (level number : ℕ) → c ≡ Look level number → Named level number → a ≡ looked (condition_at s level number) → Still s c a
  views : (level page : ℕ) → c ≡ View level page → a ≡ viewed_in (slot_of s page) s level → Still s c a
  counts : (level n : ℕ) → c ≡ Count level → a ≡ Open n → Still s c a

-- a row that may ask: idle, with a request that no refusal applies to
abbrev pub MayAsk : State → ℕ → ℕ → Mode → Type 0
MayAsk s row page mode = ((row_at s row).condition ≡ Idle) × (page ≤ 4095) × (may_access s.borders (level_of row) page mode ≡ true)

pub data Effect (s : State) (c : Call) (o : Outcome) : Type 0 where
  unchanged : (a : Answer) → Still s c a → o ≡ record { state = s; answer = a } → Effect s c o
  starts : (slots delay : ℕ) → c ≡ Start slots delay → StartTaken slots delay → o ≡ record { state = fresh slots delay; answer = Started } → Effect s c o
  begins : (level number deadline : ℕ) → c ≡ Begin level number deadline → BeginTaken s level number deadline
      → o ≡ record { state = row_begun s (row_of level number) deadline; answer = Begun } → Effect s c o
  unpins : (level number page slot : ℕ) → c ≡ Unpin level number page → UnpinTaken s level number page → slot_of s page ≡ At slot → pins s slot (row_of level number) ≡ true
      → o ≡ record { state = unpinned_at s (row_of level number) slot; answer = Unpinned } → Effect s c o
  ends : (level number : ℕ) → c ≡ End level number → EndTaken s level number
      → o ≡ record { state = row_ended s (row_of level number); answer = Ended } → Effect s c o
  ticks : (room : ℕ) → c ≡ Tick room → tick_refusal s room ≡ 0 → s.clock < last_clock → o ≡ record { state = (all_tried (three_steps s)).state; answer = Clock (s.clock + 1) } → Effect s c o
  sets : (b : Borders) → c ≡ Call.Borders b.first b.second b.third → BordersTaken s b → o ≡ record { state = with_borders s b; answer = Bordered } → Effect s c o
  serves : (row page : ℕ) (mode : Mode) → row < 32 → Asks c row page mode → MayAsk s row page mode → o ≡ served s row page mode → Effect s c o

-- a refused call
by_refusal : (s : State) (c : Call) (n : ℕ) (o : Outcome) → (n ≡ 0 → Effect s c o) → Effect s c (unless n s o)
by_refusal s c n o f = unless_is (Effect s c) n s o (λ k. unchanged (Refused (suc k)) (refused k refl) refl) f

module _ (s : State) where
  unpin_effect : (level number page : ℕ) → UnpinTaken s level number page
      → Effect s (Unpin level number page) (record { state = at_found (slot_of s page) (unpinned_at s (row_of level number)) s; answer = Unpinned })
  unfolding pins_page
  unpin_effect level number page t = go (slot_of s page) refl t.pinned
    where
      go : (f : Found) → slot_of s page ≡ f → at_found f (λ slot. pins s slot (row_of level number)) false ≡ true
          → Effect s (Unpin level number page) (record { state = at_found f (unpinned_at s (row_of level number)) s; answer = Unpinned })
      go Nowhere q k = true_false (sym k)
      go (At slot) q k = unpins level number page slot refl t q k refl

  pub effect : (c : Call) → Effect s c (outcome s c)
  unfolding outcome started begun requested unpinned ended ticked looked_at viewed counted bordered
  effect (Start slots delay) = by_refusal s (Start slots delay) (start_refusal slots delay) _ (λ e. starts slots delay refl (start_taken slots delay e) refl)
  effect (Begin level number deadline) = by_refusal s (Begin level number deadline) (begin_refusal s level number deadline) _ (λ e.
      begins level number deadline refl (begin_taken s level number deadline e) refl)
  effect (Request level number page mode) = by_refusal s (Request level number page mode) (request_refusal s level number page mode) _ (λ e.
      let t = request_taken s level number page mode e in
      let n = t.names in
      serves (row_of level number) page (mode_of mode) n.row_is
      (record { level_most = n.level_is; number_most = n.number_is; row_is = refl; kind = refl; page_is = refl; mode_is = refl })
      (t.idle, t.page_is, t.allowed) refl)
  effect (Unpin level number page) = by_refusal s (Unpin level number page) (unpin_refusal s level number page) _ (λ e. unpin_effect level number page (unpin_taken s level number page e))
  effect (End level number) = by_refusal s (End level number) (end_refusal s level number) _ (λ e. ends level number refl (end_taken s level number e) refl)
  effect (Tick room) = by_refusal s (Tick room) (tick_refusal s room) _ (λ e. ticks room refl e (tick_taken s room e).early refl)
  effect (Look level number) = by_refusal s (Look level number) (look_refusal level number) _ (λ e. unchanged _ (looks level number refl (look_taken level number e) refl) refl)
  effect (View level page) = by_refusal s (View level page) (view_refusal level page) _ (λ e. unchanged _ (views level page refl refl) refl)
  effect (Count level) = by_refusal s (Count level) (count_refusal level) _ (λ e. unchanged _ (counts level _ refl refl) refl)
  effect (Call.Borders first second third) =
      let b : Borders = record { first = first; second = second; third = third } in
      by_refusal s (Call.Borders first second third) (borders_refusal s b) _ (λ e. sets b refl (borders_taken s b e) refl)

-- look, view and count change nothing
pub reading_still : (s : State) (c : Call) → is_reading c ≡ true → (outcome s c).state ≡ s
reading_still s c r = go (outcome s c) (effect s c)
  where
    go : (o : Outcome) → Effect s c o → o.state ≡ s
    go o (unchanged a q e) = rw e
    go o (starts slots delay q t e) = true_false (sym (rw q at r))
    go o (begins level number deadline q t e) = true_false (sym (rw q at r))
    go o (unpins level number page slot q t f p e) = true_false (sym (rw q at r))
    go o (ends level number q n e) = true_false (sym (rw q at r))
    go o (ticks room q t h e) = true_false (sym (rw q at r))
    go o (sets b q t e) = true_false (sym (rw q at r))
    go o (serves row page mode b a m e) = true_false (sym r ∙ (request_own c a.kind).1)
