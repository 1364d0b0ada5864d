-- No answer but ready and idle says that a page may be used: they come only where every page that the row holds has arrived; where one has not, the answer is fetch, or a refusal.
use mathlib.Core.Path.{◌≡◌, refl, sym, ◌∙◌, ap}
use mathlib.Core.Bool.{Bool, true, false}
use mathlib.Core.Logic.{◌⊎◌, inl, inr}
use Prim.Native.Nat.{ℕ, suc, ◌<◌}
use native.Mathlib.Omega.{arith}
use borrow.Author.Tests.{eqb-true}
use lib.Dec.{eqb}
use Rattle.seq.proofs.Tests.{true_false, and_true}
use Rattle.model.specs.declared.Answer.{Answer}
use Rattle.model.specs.declared.Answer.TheVariants.{Refused, Ready, Fetch, Wait}
use Rattle.std.specs.Prelude.{Option}
use Rattle.model.specs.declared.Cause.TheVariants.{Late, Taken}
use Rattle.model.specs.declared.Condition.{Condition}
use Rattle.model.specs.declared.Condition.TheVariants.{Free, Idle, Fetching, Waiting, Killed}
use Rattle.model.specs.declared.Mode.{Mode}
use Rattle.model.specs.declared.Outcome.{Outcome}
use Rattle.model.specs.declared.Row.{Row}
use Rattle.model.specs.declared.State.{State}
use Rattle.model.specs.State.{row_at, holding_at}
use Rattle.model.specs.Words.{holds, pins, slot_of}
use Rattle.model.proofs.PutLaws.{row_same}
use Rattle.rules.specs.Sound.{awaits, sound}
use Rattle.rules.specs.Answers.{word, value, may_use, told}
use Rattle.rules.specs.Calls.{waiting, looked}
use Rattle.model.specs.declared.Call.{Call}
use Rattle.rules.specs.Run.{outcome}
use Rattle.rules.specs.Content.{row_named}
use Rattle.rules.specs.Requests.{Names}
use Rattle.rules.specs.Arrivals.{AllArrived}
use Rattle.rules.specs.SoundFacts.{Sound, RowSound}
use Rattle.rules.proofs.Facts.SoundFacts.{facts}
use Rattle.rules.proofs.Leaves.ContentLaws.{asks_names}
use Rattle.rules.proofs.Leaves.CallEffects.{refused, looks, views, counts, Effect, unchanged, starts, begins, unpins, ends, ticks, sets, serves, effect}
use Rattle.rules.proofs.Promises.CallCases.{viewed_is}
use Rattle.rules.proofs.Promises.Serving.{Serving, waits, waits_g, joins, fills, serving}
use Rattle.rules.proofs.Stays.StaysSound.{stays_sound}
use Rattle.rules.proofs.Promises.Granting.{Grant, grant, granted_answer_lem, never_waits, grant_ready, grant_fetch}
use Rattle.rules.proofs.Promises.Arrived.{idle_arrived}

-- the answer says the condition that the row then has
data Says (x : Condition) (a : Answer) : Type 0 where
  says_ready : (slot : ℕ) (back : Option ℕ) → a ≡ Ready slot back → x ≡ Idle → Says x a
  says_fetch : (due slot : ℕ) (back : Option ℕ) → a ≡ Fetch due slot back → x ≡ Fetching due → Says x a
  says_wait : (page : ℕ) (mode : Mode) → a ≡ Wait → x ≡ Waiting page mode → Says x a
  says_look : a ≡ looked x → Says x a

-- a refusal, or an answer that says the condition of the row
abbrev Reply : ℕ → Outcome → Type 0
Reply row o = ((n : ℕ) × (o.answer ≡ Refused n)) ⊎ ((row < 32) × Says (row_at o.state row).condition o.answer)

module _ (s : State) (z : Sound s) where
  grant_says : (row page : ℕ) (mode : Mode) → row < 32 → (o : Outcome) → Grant s row page mode o → Says (row_at o.state row).condition o.answer
  grant_says row page mode b o g =
      granted_answer_lem g.before row g.slot mode g.arrival g.back o.answer (ap (λ (x : Outcome). x.answer) (sym g.same))
      (λ q k. says_ready g.slot g.back k (grant_ready s row page mode b o g g.slot g.back k).1)
      (λ q k. says_fetch g.arrival g.slot g.back k (grant_fetch s row page mode b o g g.arrival g.slot g.back k).1)

  served_says : (row page : ℕ) (mode : Mode) → row < 32 → (o : Outcome) → Serving s row page mode o → Says (row_at o.state row).condition o.answer
  unfolding waiting
  served_says row page mode b o (waits slot e v m q) = says_wait page mode (rw q) (rw q (ap (λ (x : Row). x.condition) (row_same s z.sized row _ b)))
  served_says row page mode b o (waits_g e c q) = says_wait page mode (rw q) (rw q (ap (λ (x : Row). x.condition) (row_same s z.sized row _ b)))
  served_says row page mode b o (joins slot arrival some e r q) = grant_says row page mode b o (grant s z row page mode b o (joins slot arrival some e r q) (λ w. never_waits _ _ _ _ _ _ (rw q at w)))
  served_says row page mode b o (fills slot e c q) = grant_says row page mode b o (grant s z row page mode b o (fills slot e c q) (λ w. never_waits _ _ _ _ _ _ (rw q at w)))

  reply : (c : Call) (row : ℕ) → Names c row → Reply row (outcome s c)
  reply c row n = go (outcome s c) (effect s c)
    where
      go : (o : Outcome) → Effect s c o → Reply row o
      go o (unchanged a (refused k q) e) = inl (suc k, rw (e, q))
      go o (unchanged a (looks level number q m w) e) = inr (rw (n.row_is, q) m.row_is, rw (e, n.row_is, q) (says_look w))
      go o (unchanged a (views level page q w) e) = true_false (sym (rw q at n.kind))
      go o (unchanged a (counts level k q w) e) = true_false (sym (rw q at n.kind))
      go o (starts slots delay q t e) = true_false (sym (rw q at n.kind))
      go o (begins level number deadline q t e) = true_false (sym (rw q at n.kind))
      go o (unpins level number page slot q t f p e) = true_false (sym (rw q at n.kind))
      go o (ends level number q m e) = true_false (sym (rw q at n.kind))
      go o (ticks room q w h e) = true_false (sym (rw q at n.kind))
      go o (sets b q t e) = true_false (sym (rw q at n.kind))
      go o (serves r page mode b a m e) =
          let w : row ≡ r = n.row_is ∙ sym a.row_is in
          rw (w, e) (inr (b, served_says r page mode b _ (serving s r page mode)))

-- ---- ready and idle

looked_idle : (x : Condition) → may_use (looked x) ≡ true → x ≡ Idle
unfolding may_use word
looked_idle Free e = true_false (sym e)
looked_idle Idle e = refl
looked_idle (Fetching due) e = true_false (sym e)
looked_idle (Waiting page mode) e = true_false (sym e)
looked_idle (Killed Late) e = true_false (sym e)
looked_idle (Killed Taken) e = true_false (sym e)

says_idle : (x : Condition) (a : Answer) → may_use a ≡ true → Says x a → x ≡ Idle
unfolding may_use word
says_idle x a e (says_ready slot back k i) = i
says_idle x a e (says_fetch due slot back k i) = true_false (sym (rw k at e))
says_idle x a e (says_wait page mode k i) = true_false (sym (rw k at e))
says_idle x a e (says_look k) = looked_idle x (rw k at e)

-- no other call is answered so
used_names : (s : State) (c : Call) (o : Outcome) → Effect s c o → may_use o.answer ≡ true → Names c (row_named c)
unfolding may_use word
used_names s c o (unchanged a (refused k q) e) u = true_false (sym (rw (e, q) at u))
used_names s c o (unchanged a (looks level number q m w) e) u = record { kind = rw q; row_is = refl }
used_names s c o (unchanged a (views level page q w) e) u =
    true_false (sym (rw (e, w) at u) ∙ viewed_is (λ x. may_use x ≡ false) refl (λ _. refl) (λ _. refl) (λ _. refl) (λ _. refl) s level (slot_of s page))
used_names s c o (unchanged a (counts level n q w) e) u = true_false (sym (rw (e, w) at u))
used_names s c o (starts slots delay q t e) u = true_false (sym (rw e at u))
used_names s c o (begins level number deadline q t e) u = true_false (sym (rw e at u))
used_names s c o (unpins level number page slot q t f p e) u = true_false (sym (rw e at u))
used_names s c o (ends level number q m e) u = true_false (sym (rw e at u))
used_names s c o (ticks room q w h e) u = true_false (sym (rw e at u))
used_names s c o (sets b q t e) u = true_false (sym (rw e at u))
used_names s c o (serves row page mode b a m e) u = record { kind = (asks_names c row page mode a).kind; row_is = refl }

-- an answer that says that a page may be used goes to a request or look of a row, and every page that the row holds has arrived
pub may_use_arrived : (s : State) → sound s ≡ true → (c : Call) → may_use (outcome s c).answer ≡ true → (row : ℕ) × Names c row × AllArrived (outcome s c).state row
unfolding may_use word
may_use_arrived s z c e =
    let n = used_names s c (outcome s c) (effect s c) e in
    (row_named c, n, go (reply s (facts s z) c (row_named c) n))
  where
    go : Reply (row_named c) (outcome s c) → AllArrived (outcome s c).state (row_named c)
    go (inl x) = true_false (sym (rw x.1 at e))
    go (inr x) = idle_arrived (outcome s c).state (facts (outcome s c).state (stays_sound s c z)) (row_named c) x.0 (says_idle _ _ e x.1)

-- ---- fetch

-- a row with a page that has not arrived is fetching until then
late_fetching : (s : State) → Sound s → (row slot : ℕ) → row < 32 → slot < 64 → holds s slot row ≡ true → s.clock < (holding_at s slot row).arrival → (row_at s row).condition ≡ Fetching (holding_at s slot row).arrival
unfolding awaits
late_fetching s z row slot b i h a = go (row_at s row).condition refl (z.row row b)
  where
    go : (x : Condition) → (row_at s row).condition ≡ x → RowSound s row x (row_at s row).deadline → (row_at s row).condition ≡ Fetching (holding_at s slot row).arrival
    go Free e k = true_false (sym (rw e at (z.held slot row i b h).live))
    go Idle e k = absurd (omega (arith, k.arrived slot i h))
    go (Fetching due) e k = last (awaits s row due slot) refl
      where
        last : (w : Bool) → awaits s row due slot ≡ w → (row_at s row).condition ≡ Fetching (holding_at s slot row).arrival
        last true w = e ∙ ap Fetching (sym (eqb-true (holding_at s slot row).arrival due (and_true (pins s slot row) (eqb (holding_at s slot row).arrival due) w).1))
        last false w = absurd (omega (arith, k.others slot i h w))
    go (Waiting page mode) e k = absurd (omega (arith, k.0.arrived slot i h))
    go (Killed cause) e k = true_false (sym (rw e at (z.held slot row i b h).live))

says_due : (x : Condition) (a : Answer) (due : ℕ) → x ≡ Fetching due → Says x a → told a ≡ record { word = 4; value = due }
unfolding told word value
says_due x a due f (says_ready slot back k i) = let n : Idle ≡ Fetching due = sym i ∙ f in true_false (cc)
says_due x a due f (says_fetch until slot back k i) = let n : Fetching until ≡ Fetching due = sym i ∙ f in let e : until ≡ due = cc in rw (k, e)
says_due x a due f (says_wait page mode k i) = let n : Waiting page mode ≡ Fetching due = sym i ∙ f in true_false (cc)
says_due x a due f (says_look k) = rw (k, f)

-- where a page that the row holds has not arrived, a request or look of the row is refused, or told fetch with that arrival
pub fetching_told : (s : State) → sound s ≡ true → (c : Call) (row slot : ℕ) → Names c row → row < 32 → slot < 64
    → holds (outcome s c).state slot row ≡ true → (outcome s c).state.clock < (holding_at (outcome s c).state slot row).arrival
    → (word (outcome s c).answer ≡ 0) ⊎ (told (outcome s c).answer ≡ record { word = 4; value = (holding_at (outcome s c).state slot row).arrival })
unfolding word
fetching_told s z c row slot n b i h a = go (reply s (facts s z) c row n)
  where
    go : Reply row (outcome s c) → (word (outcome s c).answer ≡ 0) ⊎ (told (outcome s c).answer ≡ record { word = 4; value = (holding_at (outcome s c).state slot row).arrival })
    go (inl x) = inl (rw x.1)
    go (inr x) = inr (says_due _ _ _ (late_fetching (outcome s c).state (facts (outcome s c).state (stays_sound s c z)) row slot b i h a) x.1)
