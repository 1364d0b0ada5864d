-- Document 02, T-07, over lent areas: what a call does with a sound area of the last 32-bit layout, that no area is sound in both layouts, and that runs which were handed over in the old one are answered as if they had not been.
use mathlib.Core.Path.{◌≡◌, refl, sym, ◌∙◌, ap}
use mathlib.Core.Bool.{Bool, true, false, cond, ◌||◌}
use mathlib.Core.List.{List, [], ◌∷◌, ◌++◌, append_assoc}
use Prim.Native.Nat.{ℕ, ◌<◌, ◌≤◌, ◌^◌}
use native.Mathlib.Omega.{arith}
use Rattle.seq.specs.Machine.{last_of, noted}
use Rattle.model.specs.declared.Answer.TheVariants.{Refused}
use Rattle.model.specs.declared.Call.{Call}
use Rattle.model.specs.declared.Call.TheVariants.{Look}
use Rattle.model.specs.declared.State.{State}
use Rattle.rules.specs.Answers.{told}
use Rattle.rules.specs.Secrecy.{is_kept, kept_calls}
use Rattle.rules.specs.Content.{is_start, is_reading, Fits}
use Rattle.rules.specs.Run.{outcome}
use Rattle.model.specs.State.{row_at}
use Rattle.area.specs.Layout.{version, decoded}
use Rattle.layout32.specs.Layout as Old
use Rattle.layout32.specs.Sound32.{last_clock32, sound_area32}
use Rattle.layout32.proofs.OldAreas.{old_area, old_made}
use Rattle.sabre.specs.Lent.{sound_area, fit_area, answer_on, is_refused, area_after}
use Rattle.sabre.proofs.SoundAreas.{old_fit, fit_area_lem, sound_version, old_version}
use Rattle.demands.specs.Runs.{AllFit, area_after_all, kept_answers_on, is_delivery_on, deliveries_on, started_area, Run, FromFreshStart, Compared}
use Rattle.demands.specs.HandedOver.{TakenOver, HandedOver, area_there, handed_area, AsInRun, From, area_from, Demand3HandedOver}
use Rattle.demands.proofs.Areas.{sound_answer}
use Rattle.demands.proofs.Steps.{step_on, changed_area, started_fit, run_fit_on}
use Rattle.demands.proofs.Refusals.{unsound_refused}
use Rattle.demands.proofs.Blind.{Between, between, blind}

-- ---- an area of the last 32-bit layout

-- both layouts read one state in it: its amounts are kept
pub amounts_kept : (a : List ℕ) → sound_area32 a ≡ true → decoded a ≡ Old.decoded a
amounts_kept a z = sym (old_area a z).named

-- every call answers from the state that it names there, look, view and count among them; what a start answers is the same on every state
pub old_answered : (a : List ℕ) (c : Call) → sound_area32 a ≡ true → answer_on a c ≡ (outcome (Old.decoded a) c).answer
old_answered a c z = sound_answer a c (old_fit a z) ∙ ap (λ s. (outcome s c).answer) (amounts_kept a z)

-- an accepted call that does not only read takes it over: it leaves the next state in the layout that is written
pub old_taken_over : (a : List ℕ) (c : Call) → sound_area32 a ≡ true → Fits c → is_refused (answer_on a c) ≡ false → is_reading c ≡ false → TakenOver a c
old_taken_over a c z f e n =
    let x = changed_area a c (old_fit a z) f e n in
    record { next = x.0 ∙ ap (λ s. (outcome s c).state) (amounts_kept a z); is_sound = x.1; is_new = sound_version (area_after a c) x.1 }

-- look, view and count, and a refused call, leave it as it was
pub old_left : (a : List ℕ) (c : Call) → is_refused (answer_on a c) || is_reading c ≡ true → area_after a c ≡ a
unfolding area_after
old_left a c e = rw e

-- no area is sound both old and new
pub never_both : (a : List ℕ) → sound_area a ≡ true → sound_area32 a ≡ true → ⊥
never_both a n o = let e : version ≡ Old.version = sym (sound_version a n) ∙ old_version a o in omega (arith, e)

-- any other area is refused by 1, by every call but start
pub other_refused : (a : List ℕ) (c : Call) → is_start c ≡ false → sound_area a ≡ false → sound_area32 a ≡ false → answer_on a c ≡ Refused 1
unfolding fit_area
other_refused a c s n o = unsound_refused a c s (rw (n, o))

-- ---- two areas that name one state, of whichever layout

record SameNamed (a b : List ℕ) : Type 0 where
  first : fit_area a ≡ true
  second : fit_area b ≡ true
  same : decoded a ≡ decoded b

module _ (a b : List ℕ) (x : SameNamed a b) where
  alike_answer : (c : Call) → answer_on a c ≡ answer_on b c
  alike_answer c = sound_answer a c x.first ∙ ap (λ s. (outcome s c).answer) x.same ∙ sym (sound_answer b c x.second)

  alike_next : (c : Call) → Fits c → SameNamed (area_after a c) (area_after b c)
  alike_next c f =
      let p = step_on a c x.first f in
      let q = step_on b c x.second f in
      record { first = p.2; second = q.2; same = p.1 ∙ ap (λ s. (outcome s c).state) x.same ∙ sym q.1 }

alike_last : (cs : List Call) (a b : List ℕ) → SameNamed a b → AllFit cs → SameNamed (area_after_all a cs) (area_after_all b cs)
unfolding area_after_all last_of
alike_last [] a b x f = x
alike_last (c ∷ cs) a b x f = alike_last cs (area_after a c) (area_after b c) (alike_next a b x c f.0) f.1

-- what is noted of runs of the same calls on them
module _ {E : Type 0} (mark : List ℕ → Call → Bool) (entry : List ℕ → Call → E)
    (same-mark : (a b : List ℕ) → SameNamed a b → (c : Call) → Fits c → mark a c ≡ mark b c)
    (same-entry : (a b : List ℕ) → SameNamed a b → (c : Call) → Fits c → entry a c ≡ entry b c) where
  alike_noted : (cs : List Call) (a b : List ℕ) → SameNamed a b → AllFit cs → noted area_after mark entry a cs ≡ noted area_after mark entry b cs
  unfolding noted
  alike_noted [] a b x f = refl
  alike_noted (c ∷ cs) a b x f =
      let rest = alike_noted cs (area_after a c) (area_after b c) (alike_next a b x c f.0) f.1 in
      λ i. cond (same-mark a b x c f.0 i) (same-entry a b x c f.0 i ∷ rest i) (rest i)

last_parts : (cs ds : List Call) (a : List ℕ) → area_after_all a (cs ++ ds) ≡ area_after_all (area_after_all a cs) ds
unfolding area_after_all last_of
last_parts [] ds a = refl
last_parts (c ∷ cs) ds a = last_parts cs ds (area_after a c)

-- what is noted of a run in two parts
module _ {E : Type 0} (mark : List ℕ → Call → Bool) (entry : List ℕ → Call → E) where
  noted_parts : (cs ds : List Call) (a : List ℕ) → noted area_after mark entry a (cs ++ ds) ≡ noted area_after mark entry a cs ++ noted area_after mark entry (area_after_all a cs) ds
  unfolding noted area_after_all last_of
  noted_parts [] ds a = refl
  noted_parts (c ∷ cs) ds a = go (mark a c) _ (noted area_after mark entry (area_after a c) cs) _ (noted_parts cs ds (area_after a c))
    where
      go : (m : Bool) (l k j : List E) → l ≡ k ++ j → cond m (entry a c ∷ l) l ≡ cond m (entry a c ∷ k) k ++ j
      go true l k j e = ap (λ (z : List E). entry a c ∷ z) e
      go false l k j e = e

same_delivery : (level number : ℕ) (a b : List ℕ) → SameNamed a b → (c : Call) → Fits c → is_delivery_on a c level number ≡ is_delivery_on b c level number
unfolding is_delivery_on
same_delivery level number a b x c f =
    rw (alike_answer a b x c, alike_answer a b x (Look level number), alike_answer (area_after a c) (area_after b c) (alike_next a b x c f) (Look level number))

same_clock : (a b : List ℕ) → SameNamed a b → (c : Call) → Fits c → (decoded (area_after a c)).clock ≡ (decoded (area_after b c)).clock
same_clock a b x c f = ap (λ (s : State). s.clock) (alike_next a b x c f).same

-- so they tell a clearance the same, and deliver at the same ticks
module _ (cs : List Call) (a b : List ℕ) (x : SameNamed a b) (f : AllFit cs) where
  alike_answers : (L : ℕ) → kept_answers_on L a cs ≡ kept_answers_on L b cs
  unfolding kept_answers_on
  alike_answers L = alike_noted (λ _ c. is_kept L c) (λ d c. told (answer_on d c)) (λ d e y c _. refl) (λ d e y c _. ap told (alike_answer d e y c)) cs a b x f

  alike_deliveries : (level number : ℕ) → deliveries_on a cs level number ≡ deliveries_on b cs level number
  unfolding deliveries_on
  alike_deliveries level number = alike_noted (λ d c. is_delivery_on d c level number) (λ d c. (decoded (area_after d c)).clock) (same_delivery level number) same_clock cs a b x f

-- ---- a run that was handed over in the last 32-bit layout

fit_parts : (cs ds : List Call) → AllFit (cs ++ ds) → AllFit cs × AllFit ds
fit_parts [] ds f = (tt, f)
fit_parts (c ∷ cs) ds f = let p = fit_parts cs ds f.1 in ((f.0, p.0), p.1)

module _ (r : Run) (f : FromFreshStart r) (h : HandedOver r) where
  fits : AllFit h.before × AllFit h.after
  fits = fit_parts h.before h.after (rw h.all at f.fit)

  handed_alike : SameNamed h.area (area_there r h)
  handed_alike = record {
    first = old_fit h.area h.sound_old;
    second = run_fit_on h.before (started_area r) (started_fit r f) fits.0;
    same = amounts_kept h.area h.sound_old ∙ h.same_state;
  }

  handed_last : SameNamed (handed_area r h) (area_after_all (started_area r) r.calls)
  handed_last = rw (h.all, last_parts h.before h.after (started_area r)) (alike_last h.after h.area (area_there r h) handed_alike fits.1)

  -- a place after the hand-over, in the run that was not
  module _ (x : From r h) where
    abbrev up_to_lem : List Call
    up_to_lem = h.before ++ x.done

    from_calls : r.calls ≡ up_to_lem ++ x.rest
    from_calls = h.all ∙ ap (λ (cs : List Call). h.before ++ cs) x.parts ∙ sym (append_assoc h.before x.done x.rest)

    from_fits : AllFit x.done × AllFit x.rest
    from_fits = fit_parts x.done x.rest (rw x.parts at fits.1)

    from_alike : SameNamed (area_from r h x) (area_after_all (started_area r) up_to_lem)
    from_alike = rw (last_parts h.before x.done (started_area r)) (alike_last x.done h.area (area_there r h) handed_alike from_fits.0)

-- a run can be handed over after any of its calls, if the clock and the deadlines fit then
pub can_hand_over : (r : Run) → FromFreshStart r → (before after : List Call) → r.calls ≡ before ++ after
    → (decoded (area_after_all (started_area r) before)).clock ≤ last_clock32
    → ((row : ℕ) → (row_at (decoded (area_after_all (started_area r) before)) row).deadline < 2 ^ 32) → HandedOver r
can_hand_over r f before after e early narrow =
    let s = decoded (area_after_all (started_area r) before) in
    let z = run_fit_on before (started_area r) (started_fit r f) (fit_parts before after (rw e at f.fit)).0 in
    let o = old_made s (fit_area_lem (area_after_all (started_area r) before) z).sound_state early narrow [] in
    record { before = before; after = after; all = e; area = Old.encoded s ++ []; sound_old = o.0; same_state = o.1 }

-- any call after it is answered as in the run that was not
pub handed_as_in_run : (r : Run) → FromFreshStart r → (h : HandedOver r) → AsInRun r h
handed_as_in_run r f h = record {
  answers = λ x. alike_answer (area_from r h x) (area_after_all (started_area r) (h.before ++ x.done)) (from_alike r f h x);
  delivered = alike_deliveries h.after h.area (area_there r h) (handed_alike r f h) (fits r f h).1;
}

handed_afterwards : (r : Run) → FromFreshStart r → (h : HandedOver r) → (c : Call) → answer_on (handed_area r h) c ≡ answer_on (area_after_all (started_area r) r.calls) c
handed_afterwards r f h = alike_answer (handed_area r h) (area_after_all (started_area r) r.calls) (handed_last r f h)

-- demand 3 for runs that were handed over
pub blind_handed_over : Demand3HandedOver
blind_handed_over L r q e h k =
    let f = e.first in
    let g = e.second in
    record {
      answers = λ x y w.
          let b = between_from x y w in
          alike_answers x.rest _ _ (from_alike r f h x) (from_fits r f h x).1 L
          ∙ b.first.answers
          ∙ sym b.second.answers
          ∙ sym (alike_answers y.rest _ _ (from_alike q g k y) (from_fits q g k y).1 L);
      delivered = λ x y w level number l n.
          let b = between_from x y w in
          alike_deliveries x.rest _ _ (from_alike r f h x) (from_fits r f h x).1 level number
          ∙ b.first.delivered level number l
          ∙ sym (b.second.delivered level number l)
          ∙ sym (alike_deliveries y.rest _ _ (from_alike q g k y) (from_fits q g k y).1 level number);
      afterwards = λ c y. ap told (handed_afterwards r f h c) ∙ (blind L r q e).afterwards c y ∙ sym (ap told (handed_afterwards q g k c));
    }
  where
    between_from : (x : From r h) (y : From q k) → kept_calls L x.rest ≡ kept_calls L y.rest → Between L r q e (h.before ++ x.done) x.rest (k.before ++ y.done) y.rest
    between_from x y = between L r q e (h.before ++ x.done) x.rest (k.before ++ y.done) y.rest (from_calls r e.first h x) (from_calls q e.second k y)

-- With what these rules answer to the calls before it, and deliver, the whole of a run that was handed over is told as the run that was not, and two such runs alike.
-- Of what the software before answered it says nothing.
module _ (r : Run) (f : FromFreshStart r) (h : HandedOver r) where
  whole_answers : (L : ℕ) → kept_answers_on L (started_area r) h.before ++ kept_answers_on L h.area h.after ≡ kept_answers_on L (started_area r) r.calls
  unfolding kept_answers_on
  whole_answers L =
      ap (λ l. kept_answers_on L (started_area r) h.before ++ l) (alike_answers h.after h.area (area_there r h) (handed_alike r f h) (fits r f h).1 L)
      ∙ sym (noted_parts (λ _ c. is_kept L c) (λ a c. told (answer_on a c)) h.before h.after (started_area r))
      ∙ ap (kept_answers_on L (started_area r)) (sym h.all)

  whole_deliveries : (level number : ℕ)
      → deliveries_on (started_area r) h.before level number ++ deliveries_on h.area h.after level number ≡ deliveries_on (started_area r) r.calls level number
  unfolding deliveries_on
  whole_deliveries level number =
      ap (λ l. deliveries_on (started_area r) h.before level number ++ l) ((handed_as_in_run r f h).delivered level number)
      ∙ sym (noted_parts (λ a c. is_delivery_on a c level number) (λ a c. (decoded (area_after a c)).clock) h.before h.after (started_area r))
      ∙ ap (λ cs. deliveries_on (started_area r) cs level number) (sym h.all)

module _ (L : ℕ) (r q : Run) (e : Compared L r q) (h : HandedOver r) (k : HandedOver q) where
  pub whole_told : kept_answers_on L (started_area r) h.before ++ kept_answers_on L h.area h.after ≡ kept_answers_on L (started_area q) k.before ++ kept_answers_on L k.area k.after
  whole_told = whole_answers r e.first h L ∙ (blind L r q e).answers ∙ sym (whole_answers q e.second k L)

  pub whole_delivered : (level number : ℕ) → level ≤ L → number ≤ 7
      → deliveries_on (started_area r) h.before level number ++ deliveries_on h.area h.after level number
      ≡ deliveries_on (started_area q) k.before level number ++ deliveries_on k.area k.after level number
  whole_delivered level number l n = whole_deliveries r e.first h level number ∙ (blind L r q e).delivered level number l n ∙ sym (whole_deliveries q e.second k level number)
