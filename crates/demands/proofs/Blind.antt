-- Demand 3 over lent areas: what a clearance is told, the ticks of its deliveries and the slots it finds open depend on its kept calls alone.
use mathlib.Core.Path.{◌≡◌, refl, sym, ◌∙◌, ap}
use mathlib.Core.Bool.{Bool, true, false, cond}
use mathlib.Core.List.{List, [], ◌∷◌, ◌++◌}
use native.Mathlib.Omega.{arith}
use Prim.Native.Nat.{ℕ, ◌≤◌}
use lib.Dec.{eqb}
use lib.ListN.{length, take, length-append}
use lib.Seq.{take_at}
use Rattle.seq.specs.Machine.{last_of, only}
use Rattle.model.specs.declared.Answer.{Answer}
use Rattle.model.specs.declared.Borders.{Borders}
use Rattle.model.specs.declared.Call.{Call}
use Rattle.model.specs.Parties.{are_borders}
use Rattle.model.specs.State.{fresh, with_borders}
use Rattle.rules.specs.Answers.{Told, told}
use Rattle.rules.specs.Content.{Fits}
use Rattle.rules.specs.Calls.{bordered}
use Rattle.rules.specs.Refusals.{borders_refusal}
use Rattle.rules.specs.Run.{outcome}
use Rattle.rules.specs.Secrecy.{is_kept, kept_calls}
use Rattle.rules.proofs.Leaves.ContentLaws.{question_kept}
use Rattle.rules.proofs.Facts.SoundFacts.{borders_facts}
use Rattle.rules.proofs.Promises.Widths.{borders_fit}
use Rattle.rules.proofs.Similar.{similar_under}
use Rattle.area.specs.Layout.{decoded}
use Rattle.sabre.specs.Lent.{area_after, status}
use Rattle.sabre.proofs.SoundAreas.{fit_area_lem}
use Rattle.demands.specs.Runs.{area_after_all, Run, started_area, last_borders, FromFreshStart, Compared, Demand3}
use Rattle.demands.proofs.Steps.{started_area_lem, started_fit, step_on, run_fit_on}
use Rattle.demands.proofs.TwoRuns.{Near, near_told, Good, Beside, beside_from}

-- such borders are 32-bit numbers
borders_fits : (b : Borders) → are_borders b ≡ true → Fits (Call.Borders b.first b.second b.third)
borders_fits b e =
    let k = borders_fit b e in
    record { level = omega arith; number = omega arith; page = omega arith; mode = omega arith; slots = omega arith; delay = omega arith; deadline = omega arith; first = k.first; second = k.second; third = k.third }

-- the run of the kept calls alone starts from the area that a fresh start and then a call for these borders leave
module _ (L : ℕ) (most : L ≤ 3) (r : Run) (f : FromFreshStart r) (last : Borders) (valid : are_borders last ≡ true) where
  abbrev middle : List ℕ
  middle = area_after (started_area r) (Call.Borders last.first last.second last.third)

  -- a run with equal slots and equal delay beside it
  middle_near : (q : Run) → FromFreshStart q → r.slots ≡ q.slots → r.delay ≡ q.delay → Near L most last (started_area q) middle
  unfolding outcome bordered borders_refusal fresh
  middle_near q g s d =
      let x = started_area_lem r f in
      let y = started_area_lem q g in
      let p = step_on (started_area r) (Call.Borders last.first last.second last.third) (started_fit r f) (borders_fits last valid) in
      let m : decoded middle ≡ with_borders (fresh q.slots q.delay) last = p.1 ∙ rw (x.0, valid, s, d) in
      record {
        first = started_fit q g;
        second = p.2;
        states = rw (y.0, m) (similar_under L most last (fresh q.slots q.delay) (rw y.0 at (fit_area_lem (started_area q) (started_fit q g)).sound_state) (rw m at (fit_area_lem middle p.2).sound_state));
      }

-- what is known of a run that ends with the borders
good : (L : ℕ) (most : L ≤ 3) (r : Run) → FromFreshStart r → (last : Borders) → last_borders r ≡ last → (cs : List Call) → r.calls ≡ cs → Good L most last (started_area r) cs
good L most r f last b cs e = rw (← e) (started_fit r f, f.fit, f.not_again, b)

-- the borders that a run ends with are in order
last_valid : (r : Run) → FromFreshStart r → are_borders (last_borders r) ≡ true
last_valid r f =
    let z = run_fit_on r.calls (started_area r) (started_fit r f) f.fit in
    (borders_facts (decoded (area_after_all (started_area r) r.calls)) (fit_area_lem (area_after_all (started_area r) r.calls) z).sound_state).valid

-- lists that end alike and are equal begin alike
same_front : (xs ys zs : List Call) → xs ++ zs ≡ ys ++ zs → xs ≡ ys
same_front xs ys zs e =
    let n : length xs ≡ length ys = omega (arith, length-append xs zs, length-append ys zs, ap length e) in
    sym (take_at xs zs (length xs) refl) ∙ ap (take (length xs)) e ∙ take_at ys zs (length xs) (sym n)

kept_parts : (L : ℕ) (cs ds : List Call) → kept_calls L (cs ++ ds) ≡ kept_calls L cs ++ kept_calls L ds
unfolding kept_calls only
kept_parts L [] ds = refl
kept_parts L (c ∷ cs) ds = go (is_kept L c) (kept_parts L cs ds)
  where
    go : (b : Bool) → kept_calls L (cs ++ ds) ≡ kept_calls L cs ++ kept_calls L ds
        → cond b (c ∷ kept_calls L (cs ++ ds)) (kept_calls L (cs ++ ds)) ≡ cond b (c ∷ kept_calls L cs) (kept_calls L cs) ++ kept_calls L ds
    go true e = ap (λ (ks : List Call). c ∷ ks) e
    go false e = e

-- two runs that are compared, each cut in two parts, the second with the same kept calls: one run of those stands between them
pub record Between (L : ℕ) (r q : Run) (e : Compared L r q) (cs ds xs ys : List Call) : Type 0 where
  pub area : List ℕ
  pub kept : List Call
  pub first : Beside L e.clearance (last_borders r) (area_after_all (started_area r) cs) ds area kept
  pub second : Beside L e.clearance (last_borders r) (area_after_all (started_area q) xs) ys area kept

pub between : (L : ℕ) (r q : Run) (e : Compared L r q) (cs ds xs ys : List Call) → r.calls ≡ cs ++ ds → q.calls ≡ xs ++ ys → kept_calls L ds ≡ kept_calls L ys → Between L r q e cs ds xs ys
between L r q e cs ds xs ys i j k =
    let most = e.clearance in
    let f = e.first in
    let g = e.second in
    let last = last_borders r in
    let valid = last_valid r f in
    let m = middle L most r f last valid in
    let whole : kept_calls L cs ++ kept_calls L ds ≡ kept_calls L xs ++ kept_calls L ds =
    sym (kept_parts L cs ds) ∙ ap (kept_calls L) (sym i) ∙ e.same_kept ∙ ap (kept_calls L) j ∙ kept_parts L xs ys ∙ ap (λ (ks : List Call). kept_calls L xs ++ ks) (sym k) in
    let front = same_front (kept_calls L cs) (kept_calls L xs) (kept_calls L ds) whole in
    record {
      area = area_after_all m (kept_calls L cs);
      kept = kept_calls L ds;
      first = beside_from L most last cs ds (kept_calls L cs) (kept_calls L ds) refl refl (started_area r) m (middle_near L most r f last valid r f refl refl) (good L most r f last refl (cs ++ ds) i);
      second = beside_from L most last xs ys (kept_calls L cs) (kept_calls L ds) front k (started_area q) m (middle_near L most r f last valid q g e.same_slots e.same_delay)
          (good L most q g last (sym e.same_borders) (xs ++ ys) j);
    }

-- Demand 3 holds, that is noninterference: the run of the kept calls alone stands between the two runs.
pub blind : Demand3
unfolding area_after_all last_of
blind L r q e =
    let most = e.clearance in
    let last = last_borders r in
    let b = between L r q e [] r.calls [] q.calls refl refl e.same_kept in
    let x = b.first in
    let y = b.second in
    record {
      answers = x.answers ∙ sym y.answers;
      delivered = λ level number l _. x.delivered level number l ∙ sym (y.delivered level number l);
      afterwards = λ c k.
          let n = question_kept L c k in
          near_told L most last _ _ x.areas (λ _. refl) c n ∙ sym (near_told L most last _ _ y.areas (λ _. sym e.same_borders) c n);
    }

-- what a call returns is part of what is told
pub returned_alike : (x y : Answer) → told x ≡ told y → status x ≡ status y
unfolding told status
returned_alike x y e = ap (λ (t : Told). cond (eqb t.word 0) t.value 0) e
