-- What each exit of an exported call comes to, and what a sound area gives to the call on its state.
use mathlib.Core.Path.{◌≡◌, refl, ◌∙◌, sym, ap}
use mathlib.Core.Bool.{Bool, true, false, cond, ◌||◌, not}
use mathlib.Core.List.{List, ◌++◌}
use Prim.Native.Nat.{ℕ, zero, suc, ◌+◌, ◌<◌, ◌≤◌, ◌^◌}
use native.Mathlib.Omega.{arith}
use borrow.Author.Tests.{le-ltb, ne_eqb}
use lib.Dec.{eqb, lit<}
use lib.ListN.{length, drop, get_or}
use Rattle.seq.proofs.Tests.{true_false, or_none, or_true_right}
use mir.Val.{Val}
use denote.Laws.{Is}
use Rattle.model.specs.contracts.Answer as Answer'
use Rattle.model.specs.declared.State.{State}
use Rattle.model.specs.declared.Outcome.{Outcome}
use Rattle.model.specs.declared.Reply.{Reply}
use Rattle.model.specs.declared.Cause.TheVariants.{Late, Taken}
use Rattle.std.specs.Prelude.{Option}
use Rattle.model.specs.declared.Answer.{Answer}
use Rattle.model.specs.declared.Answer.TheVariants.{
  Refused,
  Started,
  Begun,
  Ready,
  Fetch,
  Wait,
  Unpinned,
  Ended,
  Clock,
  RowFree,
  RowIdle,
  RowFetching,
  RowWaiting,
  RowKilled,
  PageUnseen,
  PageActive,
  PageRead,
  PageWrite,
  PageDormant,
  Open,
  Bordered,
}
use Rattle.model.specs.Parties.{last_clock}
use Rattle.model.specs.State.{fresh}
use Rattle.model.specs.Inner.Changed.{changed, outcome_of}
use Rattle.rules.specs.Sound.{sound}
use Rattle.rules.specs.Content.{fields, is_start, is_reading}
use Rattle.rules.specs.Answers.{word, value, slot_told, is_clock}
use Rattle.rules.specs.Refusals.{start_refusal}
use Rattle.rules.specs.Calls.{started}
use Rattle.model.specs.declared.Call.{Call}
use Rattle.model.specs.declared.Call.TheVariants.{Start, Begin, Request, Unpin, End, Tick, Look, View, Count, Borders}
use Rattle.rules.specs.Run.{outcome, fills_of}
use Rattle.rules.specs.Tries.{list_bytes}
use Rattle.rules.specs.SoundFacts.{Sound}
use Rattle.rules.proofs.Facts.SoundFacts.{facts}
use Rattle.rules.proofs.Promises.Granting.{grant_fetch, grant_ready}
use Rattle.rules.proofs.Promises.CallCases.{is_served}
use Rattle.rules.proofs.Promises.WaitFetch.{granted_alone}
use Rattle.calls.specs.declared.Refusal.{Refusal}
use Rattle.calls.specs.Inner.Refused.{refusal_number}
use Rattle.area.specs.Layout.{encoded, decoded, version_in, exact_as}
use Rattle.sabre.specs.Lent.{unfit, is_refused, answer_on, area_after, list_after, status, answer_numbers, fit_area}
use Rattle.sabre.proofs.SoundAreas.{fit_area_lem}

-- what is promised of a call that returns r, tells ns and leaves b
pub record Promise (a : List ℕ) (c : Call) (r : ℕ) (ns b : List ℕ) : Type 0 where
  pub returned : r ≡ status (answer_on a c)
  pub told : ns ≡ answer_numbers (answer_on a c)
  pub left : b ≡ area_after a c

module _ (a : List ℕ) (c : Call) where
  pub refused_1 : (r : ℕ) (ns : List ℕ) → unfit a c ≡ true → r ≡ status (Refused 1) → ns ≡ answer_numbers (Refused 1) → Promise a c r ns a
  unfolding answer_on area_after word
  refused_1 r ns u e f = record { returned = rw u e; told = rw u f; left = rw u }

  pub finished : is_reading c ≡ false → (o : Outcome) (r : ℕ) (ns b : List ℕ) → unfit a c ≡ false → o ≡ outcome (decoded a) c
      → r ≡ status o.answer → ns ≡ answer_numbers o.answer → b ≡ cond (is_refused o.answer) a (encoded o.state ++ drop 65536 a) → Promise a c r ns b
  unfolding answer_on area_after
  finished n o r ns b u e p q t = record { returned = rw (u, ← e) p; told = rw (u, ← e) q; left = rw (u, ← e, n, or_none (is_refused o.answer)) t }

  -- a call that reads leaves the area
  pub read_left : is_reading c ≡ true → a ≡ area_after a c
  unfolding area_after
  read_left e = rw (e, or_true_right (is_refused (answer_on a c)) true refl)

-- which calls are no start: those of another variant, and look, view and count
pub not_start : (c : Call) → ((slots delay : ℕ) → c ≡ Start slots delay → ⊥) → is_start c ≡ false
not_start (Start slots delay) n = absurd (n slots delay refl)
not_start (Begin level number deadline) n = refl
not_start (Request level number page mode) n = refl
not_start (Unpin level number page) n = refl
not_start (End level number) n = refl
not_start (Tick room) n = refl
not_start (Look level number) n = refl
not_start (View level page) n = refl
not_start (Count level) n = refl
not_start (Borders first second third) n = refl

pub reading_no_start : (c : Call) → is_reading c ≡ true → is_start c ≡ false
reading_no_start c = go (fields c).kind
  where
    go : (kind : ℕ) → (eqb kind 7 || eqb kind 8 || eqb kind 9) ≡ true → eqb kind 0 ≡ false
    go zero e = true_false (sym e)
    go (suc kind) e = ne_eqb (suc kind) 0 (λ s. omega (arith, s))

-- the area of such a call is unfit where it is sound in neither layout
pub unfit_by : (a : List ℕ) (c : Call) (b : Bool) → is_start c ≡ false → fit_area a ≡ b → unfit a c ≡ not b
unfolding unfit
unfit_by a c b n e = rw (n, e)

-- such an area's state is small enough for the call
pub sound_state : (a : List ℕ) (s : State) → s ≡ decoded a → fit_area a ≡ true → Sound s
sound_state a s e h = facts s (ap sound e ∙ (fit_area_lem a h).sound_state)

pub fits_clock : (s : State) → Sound s → (s.size ≤ 64) × (s.clock + s.delay < 2 ^ 64)
fits_clock s z = (z.size_most, let b : last_clock + 255 < 2 ^ 64 = lit< tt in omega (arith, z.clock_most, z.delay_most))

-- a slot that is told is below 64
pub fits_slot : (s : State) → sound s ≡ true → (c : Call) → slot_told (outcome s c).answer ≤ 64
unfolding slot_told
fits_slot s z c = go (outcome s c).answer refl
  where
    told : (slot : ℕ) → slot < 64 → slot + 1 ≤ 64
    told slot h = omega arith

    fetched : (due slot : ℕ) (back : Option ℕ) → (outcome s c).answer ≡ Fetch due slot back → slot < 64
    fetched due slot back w =
        let x = granted_alone s z c (ap is_served w) (λ e. let n : ◌≡◌ {A = ℕ} 0 1 = cc in omega arith) in
        (grant_fetch s x.0 x.1 x.2 x.4 (outcome s c) x.5 due slot back w).2

    readied : (slot : ℕ) (back : Option ℕ) → (outcome s c).answer ≡ Ready slot back → slot < 64
    readied slot back w =
        let x = granted_alone s z c (ap is_served w) (λ e. let n : ◌≡◌ {A = ℕ} 0 1 = cc in omega arith) in
        (grant_ready s x.0 x.1 x.2 x.4 (outcome s c) x.5 slot back w).0

    go : (x : Answer) → (outcome s c).answer ≡ x → slot_told x ≤ 64
    go (Refused number) e = omega arith
    go Started e = omega arith
    go Begun e = omega arith
    go (Ready slot back) e = told slot (readied slot back e)
    go (Fetch due slot back) e = told slot (fetched due slot back e)
    go Wait e = omega arith
    go Unpinned e = omega arith
    go Ended e = omega arith
    go (Clock clock) e = omega arith
    go RowFree e = omega arith
    go RowIdle e = omega arith
    go (RowFetching due) e = omega arith
    go RowWaiting e = omega arith
    go (RowKilled cause) e = omega arith
    go PageUnseen e = omega arith
    go (PageActive arrival) e = omega arith
    go (PageRead arrival) e = omega arith
    go (PageWrite arrival) e = omega arith
    go (PageDormant arrival) e = omega arith
    go (Open count) e = omega arith
    go Bordered e = omega arith

pub ready_slot : (x : Answer) (slot : ℕ) (back : Option ℕ) → x ≡ Ready slot back → slot_told x ≤ 64 → slot + 1 ≤ 64
unfolding slot_told
ready_slot x slot back e h = rw e at h

pub fetch_slot : (x : Answer) (due slot : ℕ) (back : Option ℕ) → x ≡ Fetch due slot back → slot_told x ≤ 64 → slot + 1 ≤ 64
unfolding slot_told
fetch_slot x due slot back e h = rw e at h

-- a refusal's number is a 32-bit one
pub refused_narrow : (x : Answer) (vs : List Val) → Is Answer'.the_row x vs → word x ≡ 0 → value x < 2 ^ 32
unfolding word value
refused_narrow (Refused number) vs h e = h.1.1.1.1.0.1
refused_narrow Started vs h e = omega (arith, e)
refused_narrow Begun vs h e = omega (arith, e)
refused_narrow (Ready slot back) vs h e = omega (arith, e)
refused_narrow (Fetch due slot back) vs h e = omega (arith, e)
refused_narrow Wait vs h e = omega (arith, e)
refused_narrow Unpinned vs h e = omega (arith, e)
refused_narrow Ended vs h e = omega (arith, e)
refused_narrow (Clock clock) vs h e = omega (arith, e)
refused_narrow RowFree vs h e = omega (arith, e)
refused_narrow RowIdle vs h e = omega (arith, e)
refused_narrow (RowFetching due) vs h e = omega (arith, e)
refused_narrow RowWaiting vs h e = omega (arith, e)
refused_narrow (RowKilled Late) vs h e = omega (arith, e)
refused_narrow (RowKilled Taken) vs h e = omega (arith, e)
refused_narrow PageUnseen vs h e = omega (arith, e)
refused_narrow (PageActive arrival) vs h e = omega (arith, e)
refused_narrow (PageRead arrival) vs h e = omega (arith, e)
refused_narrow (PageWrite arrival) vs h e = omega (arith, e)
refused_narrow (PageDormant arrival) vs h e = omega (arith, e)
refused_narrow (Open count) vs h e = omega (arith, e)
refused_narrow Bordered vs h e = omega (arith, e)

-- the numbers of an answer: the word is 0 for a refusal, and the value is then its number
module _ (x : Answer) (ns : List ℕ) (e : ns ≡ answer_numbers x) where
  pub told_narrow : (vs : List Val) → Is Answer'.the_row x vs → get_or ns 0 0 ≡ 0 → get_or ns 1 0 < 2 ^ 32
  unfolding answer_numbers
  told_narrow vs h z = rw e (refused_narrow x vs h (rw e at z))

  pub told_word : get_or ns 0 0 ≡ word x
  unfolding answer_numbers
  told_word = rw e

  pub told_refused : get_or ns 0 0 ≡ 0 → get_or ns 1 0 ≡ status x
  unfolding answer_numbers status
  told_refused z = rw (e, rw e at z)

  pub told_accepted : (get_or ns 0 0 ≡ 0 → ⊥) → 0 ≡ status x
  unfolding answer_numbers status
  told_accepted z = rw (ne_eqb (word x) 0 (λ f. z (rw e f)))

-- the area that a refused call leaves, and one that is accepted
module _ (x : Answer) (a b : List ℕ) (n : ℕ) (e : n ≡ word x) where
  pub finish_refused : n ≡ 0 → a ≡ cond (is_refused x) a b
  finish_refused z = rw (sym e ∙ z)

  pub finish_left : (d : List ℕ) → (n ≡ 0 → ⊥) → d ≡ b → d ≡ cond (is_refused x) a b
  finish_left d z g = rw (ne_eqb (word x) 0 (λ f. z (e ∙ f))) g

-- the call on the state that decode gives
module _ (a : List ℕ) (c : Call) (s : State) (e : s ≡ decoded a) where
  pub answered_slot : (x : Answer) → fit_area a ≡ true → x ≡ (outcome s c).answer → slot_told x ≤ 64
  answered_slot x h f = rw f (fits_slot s (ap sound e ∙ (fit_area_lem a h).sound_state) c)

  -- a reply for which the area is exact and its slot is below 64
  pub replied : (x : Reply) → fit_area a ≡ true → outcome_of s x ≡ outcome s c → (exact_as (version_in a) a ≡ true) × (slot_told x.answer ≤ 64)
  unfolding outcome_of
  replied x h f = ((fit_area_lem a h).exactly, answered_slot x.answer h (ap (λ (o : Outcome). o.answer) f))

  -- a call that only answers
  pub answered : (x : Answer) (r : ℕ) (ns : List ℕ) → unfit a c ≡ false → x ≡ (outcome s c).answer → r ≡ status x → ns ≡ answer_numbers x
      → (r ≡ status (answer_on a c)) × (ns ≡ answer_numbers (answer_on a c))
  unfolding answer_on
  answered x r ns u f p q =
      let g : x ≡ (outcome (decoded a) c).answer = f ∙ ap (λ (t : State). (outcome t c).answer) e in
      (rw (u, ← g) p, rw (u, ← g) q)

  -- a call that answers what it changes
  pub amended : is_reading c ≡ false → (x : Reply) (r : ℕ) (ns b : List ℕ) → unfit a c ≡ false → outcome_of s x ≡ outcome s c → r ≡ status x.answer → ns ≡ answer_numbers x.answer
      → b ≡ cond (is_refused x.answer) a (encoded (changed (decoded a) x.change) ++ drop 65536 a) → Promise a c r ns b
  unfolding outcome_of
  amended n x r ns b u f p q t =
      finished a c n (outcome_of (decoded a) x) r ns b u (ap (λ (t : State). outcome_of t x) (sym e) ∙ f ∙ ap (λ (t : State). outcome t c) e) p q t

  -- a call that answers the next state
  pub settled : is_reading c ≡ false → (o : Outcome) (r : ℕ) (ns b : List ℕ) → unfit a c ≡ false → o ≡ outcome s c → r ≡ status o.answer → ns ≡ answer_numbers o.answer
      → b ≡ cond (is_refused o.answer) a (encoded o.state ++ drop 65536 a) → Promise a c r ns b
  settled n o r ns b u f p q t = finished a c n o r ns b u (f ∙ ap (λ (t : State). outcome t c) e) p q t

  pub listed : (o : Outcome) (l m : List ℕ) → unfit a c ≡ false → o ≡ outcome s c → m ≡ cond (is_clock o.answer) (list_bytes (fills_of s c) ++ drop 256 l) l → m ≡ list_after a c l
  unfolding list_after answer_on
  listed o l m u f t = rw (u, ← e, ← f) t

-- an area that is unfit: the list stays
pub unfit_list : (a : List ℕ) (c : Call) (l : List ℕ) → unfit a c ≡ true → l ≡ list_after a c l
unfolding list_after answer_on word
unfit_list a c l u = rw u

-- no refusal has the number 0
pub refusal_positive : (e : Refusal) → refusal_number e ≡ 0 → ⊥
refusal_positive Refusal.Area k = omega (arith, k)
refusal_positive Refusal.Slots k = omega (arith, k)
refusal_positive Refusal.Delay k = omega (arith, k)
refusal_positive Refusal.Level k = omega (arith, k)
refusal_positive Refusal.Row k = omega (arith, k)
refusal_positive Refusal.Page k = omega (arith, k)
refusal_positive Refusal.Mode k = omega (arith, k)
refusal_positive Refusal.NotFree k = omega (arith, k)
refusal_positive Refusal.Free k = omega (arith, k)
refusal_positive Refusal.Killed k = omega (arith, k)
refusal_positive Refusal.Busy k = omega (arith, k)
refusal_positive Refusal.Past k = omega (arith, k)
refusal_positive Refusal.ReadAbove k = omega (arith, k)
refusal_positive Refusal.WriteBelow k = omega (arith, k)
refusal_positive Refusal.NotPinned k = omega (arith, k)
refusal_positive Refusal.LastClock k = omega (arith, k)
refusal_positive Refusal.Record k = omega (arith, k)
refusal_positive Refusal.Borders k = omega (arith, k)
refusal_positive Refusal.HasBegun k = omega (arith, k)
refusal_positive Refusal.List k = omega (arith, k)

-- a start that is refused by its numbers, and one that is accepted
module _ (a : List ℕ) (slots delay r : ℕ) (ns b : List ℕ) (l : 65536 ≤ length a) where
  pub start_refused : (n : ℕ) → n ≡ start_refusal slots delay → (n ≡ 0 → ⊥) → r ≡ status (Refused n) → ns ≡ answer_numbers (Refused n) → b ≡ a → Promise a (Start slots delay) r ns b
  unfolding unfit outcome started status word value
  start_refused zero e k p q t = absurd (k refl)
  start_refused (suc n) e k p q t = finished a (Start slots delay) refl (record { state = decoded a; answer = Refused (suc n) }) r ns b (le-ltb (length a) 65536 l) (rw (← e)) p q t

  pub start_accepted : (n : ℕ) → n ≡ start_refusal slots delay → n ≡ 0 → r ≡ status Started → ns ≡ answer_numbers Started → b ≡ encoded (fresh slots delay) ++ drop 65536 a → Promise a (Start slots delay) r ns b
  unfolding unfit outcome started status word value
  start_accepted n e k p q t = finished a (Start slots delay) refl (record { state = fresh slots delay; answer = Started }) r ns b (le-ltb (length a) 65536 l) (rw (← e, k)) p q t
