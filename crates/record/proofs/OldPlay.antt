-- Document 02, T-07: old records play the same until clock 4,000,000,000. What is printed for an old input is what the player of before printed: both players go on from areas that name one state, each in its layout.
use mathlib.Core.Path.{◌≡◌, refl, sym, ◌∙◌, ap, subst}
use mathlib.Core.Bool.{Bool, true, false, cond, not, ◌||◌}
use mathlib.Core.List.{List, [], ◌∷◌, ◌++◌}
use Prim.Native.Nat.{ℕ, zero, suc, ◌+◌, ◌<◌, ◌≤◌, ◌^◌}
use native.Mathlib.Decide.{ℕ_discrete}
use native.Mathlib.Omega.{arith}
use borrow.Author.Tests.{le-ltb, eqb-true}
use lib.Dec.{eqb, ltb, lit<}
use lib.ListN.{length, get_or, take, drop}
use lib.Seq.{take-take}
use Rattle.seq.proofs.Tests.{true_false, and_false_right, cond_same}
use Rattle.words.specs.Bytes.{AllUnder}
use Rattle.words.proofs.ByteLaws.{under_take, under_drop}
use Rattle.model.specs.declared.Answer.TheVariants.{Refused, Started}
use Rattle.model.specs.declared.Call.{Call}
use Rattle.model.specs.declared.Call.TheVariants.{Start}
use Rattle.model.specs.declared.Outcome.{Outcome}
use Rattle.model.specs.declared.State.{State}
use Rattle.model.specs.State.{fresh}
use Rattle.model.specs.Ranges.{StateOk}
use Rattle.rules.specs.Answers.{word, is_clock}
use Rattle.rules.specs.Calls.{unless, started, three_steps}
use Rattle.rules.specs.Content.{fields, is_start, is_tick, is_reading, Narrow}
use Rattle.rules.specs.EarlierClock.{outcome_until, MadeBefore}
use Rattle.rules.specs.Refusals.{start_refusal}
use Rattle.rules.specs.Run.{outcome, fills_of}
use Rattle.rules.specs.Sound.{sound}
use Rattle.rules.specs.Tries.{all_tried, list_bytes}
use Rattle.rules.proofs.Leaves.CallEffects.{reading_still}
use Rattle.rules.proofs.Leaves.ContentLaws.{start_is}
use Rattle.rules.proofs.Leaves.RefusalFacts.{start_taken}
use Rattle.rules.proofs.Promises.EarlierClock.{same_until, clock_below}
use Rattle.rules.proofs.Promises.Widths.{fresh_narrow, stays_narrow, sound_ok}
use Rattle.rules.proofs.Stays.StaysFresh.{fresh_sound}
use Rattle.rules.proofs.Stays.StaysSound.{stays_sound}
use Rattle.area.specs.Layout.{version, encoded, decoded}
use Rattle.area.proofs.RoundTrip.{decode_encode}
use Rattle.layout32.specs.Layout as Old
use Rattle.layout32.specs.Sound32.{last_clock32, sound_area32}
use Rattle.layout32.proofs.OldAreas.{old_area, old_made}
use Rattle.sabre.specs.Lent.{sound_area, fit_area, unfit, answer_on, is_refused, area_after, list_after}
use Rattle.sabre.proofs.SoundAreas.{sound_area_lem, encode_sound, sound_fit}
use Rattle.std.specs.Prelude.{Option, None, Some}
use Rattle.record.specs.declared.Progress.{Progress}
use Rattle.record.specs.Record.{big_endian, field, long_mark, short_mark, short_width, record_width, record_of}
use Rattle.record.specs.ShortRecord.{short_kinds, short_is_whole, short_record_of, short_first, short_records_of, NoneLong}
use Rattle.record.specs.Text.{header}
use Rattle.record.specs.Play.{admitted, answer_to, area_with, zero_list, list_with, Played, next_progress, played_record, unplayed, played_one, and_then, played, first_records, records_of, first_progress, printed}
use Rattle.record.specs.OldPlay.{old_outcome, old_unfit, old_answer_on, old_area_after, old_list_after, old_answer_to, old_area_with, old_list_with, old_played_record, old_played_one, old_played, old_printed, IsOld, AllOld, OldInput}
use Rattle.record.proofs.RecordLaws.{widths, short_width_lem}
use Rattle.record.proofs.RunLaws.{played_over}
use Rattle.record.proofs.ShortRecords.{four_under, short_record}

-- ---- two areas that name one state, each in its layout

record OneState (last : ℕ) (a b : List ℕ) : Type 0 where
  new : sound_area a ≡ true
  old : sound_area32 b ≡ true
  named : decoded a ≡ Old.decoded b
  early : (decoded a).clock ≤ last
  narrow : Narrow (2 ^ 32) (decoded a)

-- before an accepted start the areas are one, and after it they name one state
abbrev Paired : ℕ → Bool → List ℕ → List ℕ → Type 0
Paired last false a b = a ≡ b
Paired last true a b = OneState last a b

wider : (k m : ℕ) (a b : List ℕ) → k ≤ m → OneState k a b → OneState m a b
wider k m a b h x = record { new = x.new; old = x.old; named = x.named; early = omega (arith, x.early); narrow = x.narrow }

-- a clock that is at most k, and before the old last tick, is at most m after a tick
record Rises (k m : ℕ) : Type 0 where
  least : k ≤ m
  most : m ≤ last_clock32
  before : (n : ℕ) → n ≤ k → n < last_clock32 → n < m

-- a state that both layouts can have, in both
made : (last : ℕ) → last ≤ last_clock32 → (s : State) → sound s ≡ true → s.clock ≤ last → Narrow (2 ^ 32) s → (r q : List ℕ) → OneState last (encoded s ++ r) (Old.encoded s ++ q)
made last most s z early narrow r q =
    let ok : StateOk s = sound_ok s z (λ row. omega (arith, narrow row)) in
    let o = old_made s z (omega arith) narrow q in
    let n : decoded (encoded s ++ r) ≡ s = decode_encode version (lit< tt) s ok r in
    record { new = encode_sound s ok r z; old = o.0; named = n ∙ sym o.1; early = rw n early; narrow = rw n narrow }

-- an area that is long and fit is taken by every call
taken : (start fit : Bool) (n : ℕ) → 65536 ≤ n → fit ≡ true → cond start (ltb n 65536) (not fit) ≡ false
taken start fit n h e = rw (le-ltb n 65536 h, e) (cond_same start false)

module _ (k : ℕ) (a b : List ℕ) (x : OneState k a b) (c : Call) (early : MadeBefore last_clock32 (decoded a) c) where
  abbrev s : State
  s = decoded a

  same_outcome : old_outcome (Old.decoded b) c ≡ outcome s c
  same_outcome = ap (λ (t : State). old_outcome t c) (sym x.named) ∙ same_until last_clock32 (omega arith) s c early

  answered : answer_on a c ≡ (outcome s c).answer
  unfolding answer_on unfit
  answered = rw (taken (is_start c) (fit_area a) (length a) (sound_area_lem a x.new).long (sound_fit a x.new))

  old_answered : old_answer_on b c ≡ (outcome s c).answer
  unfolding old_answer_on old_unfit
  old_answered = rw (taken (is_start c) (sound_area32 b) (length b) (old_area b x.old).long x.old) (ap (λ (o : Outcome). o.answer) same_outcome)

  same_list : (list : List ℕ) → list_after a c list ≡ old_list_after b c list
  unfolding list_after old_list_after fills_of
  same_list list = rw (answered, old_answered, ← x.named) (go (is_clock (outcome s c).answer))
    where
      go : (k : Bool) → cond k (list_bytes (cond k (all_tried (three_steps s)).fills []) ++ drop 256 list) list ≡ cond k (list_bytes (all_tried (three_steps s)).fills ++ drop 256 list) list
      go true = refl
      go false = refl

  -- with a deadline of 32 bits the areas that it leaves name one state again
  next_same : (m : ℕ) → Rises k m → (fields c).deadline < 2 ^ 32 → OneState m (area_after a c) (old_area_after b c)
  unfolding area_after old_area_after
  next_same m v f = rw (answered, old_answered, same_outcome) (go (is_refused (outcome s c).answer) (is_reading c) refl)
    where
      z : sound s ≡ true
      z = (sound_area_lem a x.new).sound_state

      t : State
      t = (outcome s c).state

      sound_next : sound t ≡ true
      sound_next = stays_sound s c z

      early_next : t.clock ≤ m
      early_next = clock_below m s c z (omega (arith, x.early, v.least)) (λ e. v.before s.clock x.early (early e))

      narrow_next : Narrow (2 ^ 32) t
      narrow_next = stays_narrow (2 ^ 32) (lit< tt) s c z f x.narrow

      go : (refused reading : Bool) → is_reading c ≡ reading → OneState m (cond (refused || reading) a (encoded t ++ drop 65536 a)) (cond refused b (Old.encoded t ++ drop 65536 b))
      go true reading e = wider k m a b v.least x
      go false true e =
          let o = old_made t sound_next (omega (arith, early_next, v.most)) narrow_next (drop 65536 b) in
          record { new = x.new; old = o.0; named = sym (reading_still s c e) ∙ sym o.1; early = omega (arith, x.early, v.least); narrow = x.narrow }
      go false false e = made m v.most t sound_next early_next narrow_next (drop 65536 a) (drop 65536 b)

-- ---- a start on any area

fresh_early : (last slots delay : ℕ) → (fresh slots delay).clock ≤ last
unfolding fresh
fresh_early last slots delay = omega arith

fresh_same : (last : ℕ) → last ≤ last_clock32 → (slots delay : ℕ) → start_refusal slots delay ≡ 0 → (r q : List ℕ) → OneState last (encoded (fresh slots delay) ++ r) (Old.encoded (fresh slots delay) ++ q)
fresh_same last most slots delay e =
    let t = start_taken slots delay e in
    made last most (fresh slots delay) (fresh_sound slots delay t.slots_least t.slots_most t.delay_least t.delay_most) (fresh_early last slots delay) (fresh_narrow (2 ^ 32) (lit< tt) slots delay)

module _ (last : ℕ) (most : last ≤ last_clock32) (a : List ℕ) (slots delay : ℕ) where
  abbrev anew : Outcome
  anew = record { state = fresh slots delay; answer = Started }

  start_same : (answer_on a (Start slots delay) ≡ old_answer_on a (Start slots delay))
      × Paired last (not (is_refused (answer_on a (Start slots delay)))) (area_after a (Start slots delay)) (old_area_after a (Start slots delay))
  unfolding answer_on old_answer_on unfit old_unfit area_after old_area_after outcome_until outcome started word
  start_same = go (ltb (length a) 65536) (start_refusal slots delay) refl
    where
      go : (short : Bool) (n : ℕ) → start_refusal slots delay ≡ n
          → let v = cond short (Refused 1) (unless n (decoded a) anew).answer in
          let w = cond short (Refused 1) (unless n (Old.decoded a) anew).answer in
          (v ≡ w) × Paired last (not (is_refused v)) (cond (is_refused v || false) a (encoded (unless n (decoded a) anew).state ++ drop 65536 a))
          (cond (is_refused w) a (Old.encoded (unless n (Old.decoded a) anew).state ++ drop 65536 a))
      go true n e = (refl, refl)
      go false zero e = (refl, fresh_same last most slots delay e (drop 65536 a) (drop 65536 a))
      go false (suc n) e = (refl, refl)

-- ---- a record

-- what both print, where both stand, and the areas that both leave while the run goes on
record OneSame (last : ℕ) (p q : Played) : Type 0 where
  text : p.text ≡ q.text
  progress : p.progress ≡ q.progress
  areas : p.progress.over ≡ false → Paired last p.progress.started p.area q.area

-- a deadline of 32 bits
abbrev Small : Option Call → Type 0
Small None = Unit {0}
Small (Some c) = (fields c).deadline < 2 ^ 32

module _ (k m : ℕ) (v : Rises k m) (over : Bool) (number : ℕ) where
  abbrev at : Bool → Progress
  at started = record { started = started; over = over; number = number }

  bad_same : (started : Bool) (a b : List ℕ) → OneSame m (played_record (at started) a None) (old_played_record (at started) b None)
  unfolding played_record old_played_record answer_to old_answer_to area_with old_area_with list_with old_list_with next_progress
  bad_same started a b = record { text = refl; progress = refl; areas = λ e. true_false e }

  call_same : (a b : List ℕ) → OneState k a b → (c : Call) → Small (Some c) → MadeBefore last_clock32 (decoded a) c
      → OneSame m (played_record (at true) a (Some c)) (old_played_record (at true) b (Some c))
  unfolding played_record old_played_record answer_to old_answer_to area_with old_area_with list_with old_list_with next_progress
  call_same a b x c small early =
      let e : answer_on a c ≡ old_answer_on b c = answered k a b x c early ∙ sym (old_answered k a b x c early) in
      record { text = rw (e, same_list k a b x c early zero_list); progress = refl; areas = λ _. next_same k a b x c early m v small }

  start_played : (a : List ℕ) (slots delay : ℕ) → OneSame m (played_record (at false) a (Some (Start slots delay))) (old_played_record (at false) a (Some (Start slots delay)))
  unfolding played_record old_played_record answer_to old_answer_to area_with old_area_with list_with old_list_with next_progress
  start_played a slots delay =
      let x = start_same m v.most a slots delay in
      record { text = rw x.0; progress = rw x.0; areas = λ _. x.1 }

  admitted_same : (started : Bool) (a b r : List ℕ) (i : Option Call) → Paired k started a b → Small i → IsOld a r (admitted started i)
      → OneSame m (played_record (at started) a (admitted started i)) (old_played_record (at started) b (admitted started i))
  unfolding admitted
  admitted_same true a b r None x small h = bad_same true a b
  admitted_same true a b r (Some c) x small h = call_same a b x c small h.1
  admitted_same false a b r None x small h = bad_same false a b
  admitted_same false a b r (Some c) x small h = go (is_start c) refl
    where
      go : (start : Bool) → is_start c ≡ start → OneSame m (played_record (at false) a (cond start (Some c) None)) (old_played_record (at false) b (cond start (Some c) None))
      go true e =
          subst (λ (d : List ℕ). OneSame m (played_record (at false) a (Some c)) (old_played_record (at false) d (Some c))) x
          (subst (λ (d : Call). OneSame m (played_record (at false) a (Some d)) (old_played_record (at false) a (Some d))) (sym (start_is c e)) (start_played a (fields c).slots (fields c).delay))
      go false e = bad_same false a b

-- ---- the bytes of a record

abbrev AllSmall : List (Option Call) → Type 0
AllSmall [] = Unit {0}
AllSmall (i ∷ is) = Small i × AllSmall is

each_small : (is : List (Option Call)) → AllSmall is → (k : ℕ) → Small (get_or is k None)
each_small [] h k = tt
each_small (i ∷ is) h zero = h.0
each_small (i ∷ is) h (suc k) = each_small is h.1 k

-- a value of four bytes is small
short_small : (r : List ℕ) → AllUnder 256 r → Small (short_record_of r)
unfolding short_record_of short_kinds
short_small r u = go (short_is_whole r)
  where
    z : 0 < 2 ^ 32
    z = lit< tt

    go : (b : Bool) → Small (cond b (get_or (short_kinds (field r 3 1) (field r 4 1) (field r 5 1) (field r 6 2) (field r 8 4)) (field r 2 1) None) None)
    go true = each_small (short_kinds (field r 3 1) (field r 4 1) (field r 5 1) (field r 6 2) (field r 8 4))
        (z, (omega (arith, four_under r 8 u), (z, (z, (z, (tt, (z, (z, (z, (z, (z, tt))))))))))) (field r 2 1)
    go false = tt

-- a record without the mark C3 5B
one_same : (k m : ℕ) → Rises k m → (t : Progress) (a b : List ℕ) → (t.over ≡ false → Paired k t.started a b) → (r : List ℕ) → AllUnder 256 r → (field r 0 2 ≡ long_mark → ⊥)
    → (t.over ≡ false → IsOld a r (admitted t.started (record_of r))) → OneSame m (played_one t a r) (old_played_one t b r)
unfolding played_one old_played_one
one_same k m v t a b x r u e h = rw (short_record r u e) (go t.over x (rw (short_record r u e) at h))
  where
    still : (started : Bool) → Paired k started a b → Paired m started a b
    still false y = y
    still true y = wider k m a b v.least y

    go : (over : Bool) → (over ≡ false → Paired k t.started a b) → (over ≡ false → IsOld a r (admitted t.started (short_record_of r)))
        → OneSame m (cond over (unplayed t a) (played_record t a (admitted t.started (short_record_of r)))) (cond over (unplayed t b) (old_played_record t b (admitted t.started (short_record_of r))))
    go true y o = record { text = refl; progress = refl; areas = λ e. still t.started (x e) }
    go false y o = admitted_same k m v t.over t.number t.started a b r (short_record_of r) (y refl) (short_small r u) (o refl)

-- one with it is bad in both readings, or no old one
bad_admitted : (started : Bool) → admitted started None ≡ None
unfolding admitted
bad_admitted true = refl
bad_admitted false = refl

long_bad : (r : List ℕ) → field r 0 2 ≡ long_mark → None ≡ short_record_of r
unfolding short_record_of short_is_whole
long_bad r e = rw (and_false_right (eqb (length r) short_width) (eqb (field r 0 2) short_mark) (rw e))

long_old : (a r : List ℕ) → field r 0 2 ≡ long_mark → (i : Option Call) → IsOld a r i → i ≡ None
long_old a r e None k = refl
long_old a r e (Some c) k = absurd (k.0 e)

long_same : (t : Progress) (a b r q : List ℕ) → field r 0 2 ≡ long_mark → field q 0 2 ≡ long_mark → (t.over ≡ false → IsOld a r (admitted t.started (record_of r)))
    → ((played_one t a r).text ≡ (old_played_one t b q).text) × ((played_one t a r).progress.over ≡ true) × ((old_played_one t b q).progress.over ≡ true)
unfolding played_one old_played_one played_record old_played_record answer_to old_answer_to list_with old_list_with next_progress
long_same t a b r q e f k = go t.over refl
  where
    go : (over : Bool) → t.over ≡ over
        → let p = cond over (unplayed t a) (played_record t a (admitted t.started (record_of r))) in
        let o = cond over (unplayed t b) (old_played_record t b (admitted t.started (short_record_of q))) in
        (p.text ≡ o.text) × (p.progress.over ≡ true) × (o.progress.over ≡ true)
    go true h = (refl, h, h)
    go false h = rw (long_old a r e (admitted t.started (record_of r)) (k h), ← long_bad q f, bad_admitted t.started) (refl, refl, refl)

-- ---- records one after another

old_over_one : (t : Progress) (a r : List ℕ) → t.over ≡ true → old_played_one t a r ≡ unplayed t a
unfolding old_played_one
old_over_one t a r e = ap (λ (over : Bool). cond over (unplayed t a) (old_played_record t a (admitted t.started (short_record_of r)))) e

old_over : (t : Progress) (a : List ℕ) → t.over ≡ true → (rs : List (List ℕ)) → old_played t a rs ≡ unplayed t a
unfolding old_played
old_over t a e [] = refl
old_over t a e (r ∷ rs) = ap (λ (p : Played). and_then p (old_played p.progress p.area rs)) (old_over_one t a r e) ∙ old_over t a e rs

-- the first two bytes are those of the first record
front : (w : ℕ) (l : List ℕ) → 2 ≤ w → field (take w l) 0 2 ≡ field l 0 2
unfolding field
front w l h = ap (big_endian 0) (take-take 2 w l h)

-- the old last tick itself
until : Rises last_clock32 last_clock32
until = record { least = omega arith; most = omega arith; before = λ n _ h. h }

plays : (n : ℕ) (bytes : List ℕ) → AllUnder 256 bytes → (t : Progress) (a b : List ℕ) → (t.over ≡ false → Paired last_clock32 t.started a b) → AllOld t a (first_records n bytes)
    → (played t a (first_records n bytes)).text ≡ (old_played t b (short_first n bytes)).text
unfolding played old_played first_records short_first
plays zero bytes u t a b x k = refl
plays (suc n) [] u t a b x k = refl
plays (suc n) (d ∷ ds) u t a b x k = elim (ℕ_discrete (field (d ∷ ds) 0 2) long_mark) [
  | yes e ↦
      let l = d ∷ ds in
      let w = record_width l in
      let p = played_one t a (take w l) in
      let o = old_played_one t b (take short_width l) in
      let y = long_same t a b (take w l) (take short_width l) (front w l (omega (arith, (widths l).0)) ∙ e) (front short_width l (omega arith) ∙ e) k.0 in
      let f = played_over p.progress p.area y.1 (first_records n (drop w l)) in
      let g = old_over o.progress o.area y.2 (short_first n (drop short_width l)) in
      λ i. y.0 i ++ (ap (λ (z : Played). z.text) f ∙ sym (ap (λ (z : Played). z.text) g)) i
  | no e ↦
      let l = d ∷ ds in
      let w : short_width ≡ record_width l = short_width_lem l e in
      let r = take short_width l in
      let h = rw (← w) at k in
      let y = one_same last_clock32 last_clock32 until t a b x r (under_take 256 short_width l u) (λ z. e (sym (front short_width l (omega arith)) ∙ z)) h.0 in
      let p = played_one t a r in
      let o = old_played_one t b r in
      let rest = plays n (drop short_width l) (under_drop 256 short_width l u) p.progress p.area o.area y.areas h.1 in
      let same = ap (λ (z : Progress). (old_played z o.area (short_first n (drop short_width l))).text) y.progress in
      rw (← w) (λ i. y.text i ++ (rest ∙ same) i)
]

-- an input without a record of 16 bytes before its first bad one, in which every tick is made below clock 4,000,000,000, prints what it printed
pub old_records_play : (a input : List ℕ) → AllUnder 256 input → OldInput a input → printed a input ≡ old_printed a input
unfolding printed old_printed records_of short_records_of first_progress
old_records_play a input u h = ap (λ (l : List ℕ). header ++ l) (plays (length input) input u first_progress a a (λ _. refl) h)

-- ---- no record of 16 bytes, and no more records than the clock had ticks

start_no_tick : (c : Call) → is_start c ≡ true → is_tick c ≡ true → ⊥
start_no_tick c e f = omega (arith, eqb-true (fields c).kind 0 e, eqb-true (fields c).kind 6 f)

one_old : (k : ℕ) → k < last_clock32 → (started : Bool) (a b r : List ℕ) → Paired k started a b → (field r 0 2 ≡ long_mark → ⊥) → (i : Option Call) → IsOld a r (admitted started i)
unfolding admitted
one_old k h true a b r x e None = tt
one_old k h true a b r x e (Some c) = (e, λ _. omega (arith, x.early))
one_old k h false a b r x e None = tt
one_old k h false a b r x e (Some c) = go (is_start c) refl
  where
    go : (start : Bool) → is_start c ≡ start → IsOld a r (cond start (Some c) None)
    go true s = (e, λ f. absurd (start_no_tick c s f))
    go false s = tt

few : (n : ℕ) (bytes : List ℕ) → AllUnder 256 bytes → NoneLong (short_first n bytes) → (k : ℕ) → k + length (short_first n bytes) ≤ last_clock32
    → (t : Progress) (a b : List ℕ) → (t.over ≡ false → Paired k t.started a b) → AllOld t a (first_records n bytes)
unfolding first_records short_first
few zero bytes u h k l t a b x = tt
few (suc n) [] u h k l t a b x = tt
few (suc n) (d ∷ ds) u h k l t a b x =
    let bytes = d ∷ ds in
    let r = take short_width bytes in
    let w : short_width ≡ record_width bytes = short_width_lem bytes (λ e. h.0 (front short_width bytes (omega arith) ∙ e)) in
    let rises : Rises k (k + 1) = record { least = omega arith; most = omega (arith, l); before = λ n e _. omega arith } in
    let old : t.over ≡ false → IsOld a r (admitted t.started (record_of r)) = λ e. one_old k (omega (arith, l)) t.started a b r (x e) h.0 (record_of r) in
    let y = one_same k (k + 1) rises t a b x r (under_take 256 short_width bytes u) h.0 old in
    let rest = few n (drop short_width bytes) (under_drop 256 short_width bytes u) h.1 (k + 1) (omega (arith, l)) (played_one t a r).progress (played_one t a r).area (old_played_one t b r).area y.areas in
    rw (← w) (old, rest)

-- so an input that has no part of 12 bytes with the mark C3 5B, and at most 4,000,000,000 parts, prints what it printed
pub short_input_plays : (a input : List ℕ) → AllUnder 256 input → NoneLong (short_records_of input) → length (short_records_of input) ≤ last_clock32 → printed a input ≡ old_printed a input
unfolding records_of short_records_of first_progress
short_input_plays a input u h l = old_records_play a input u (few (length input) input u h 0 (omega (arith, l)) first_progress a a (λ _. refl))
