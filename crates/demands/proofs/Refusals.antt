-- Demand 1 over lent areas: which areas are refused, what a refused call and a question leave, and that no call touches or reads a byte past 65,536.
use mathlib.Core.Path.{◌≡◌, refl, sym, ◌∙◌, ap}
use mathlib.Core.Bool.{Bool, true, false, cond, ◌||◌}
use mathlib.Core.List.{List, ◌++◌}
use Prim.Native.Nat.{ℕ, zero, suc, ◌<◌, ◌≤◌}
use native.Mathlib.Omega.{arith}
use borrow.Author.Tests.{not-false, le-ltb}
use lib.Dec.{lit≤}
use lib.ListN.{length, take, drop, length-append, length-drop, take-append-drop}
use lib.Seq.{take_at, drop_at}
use Rattle.seq.proofs.Tests.{true_false, same_truth, or_false, or_true_right}
use Rattle.model.specs.declared.Answer.TheVariants.{Refused, Started}
use Rattle.model.specs.declared.Call.{Call}
use Rattle.model.specs.declared.Call.TheVariants.{Start, Look, View, Count}
use Rattle.model.specs.declared.Outcome.{Outcome}
use Rattle.model.specs.declared.State.{State}
use Rattle.model.specs.State.{fresh}
use Rattle.rules.specs.Answers.{word}
use Rattle.rules.specs.Calls.{unless, started}
use Rattle.rules.specs.Refusals.{start_refusal}
use Rattle.rules.specs.Content.{fields, is_start, is_reading}
use Rattle.rules.specs.Run.{outcome}
use Rattle.rules.proofs.Leaves.ContentLaws.{start_is}
use Rattle.area.specs.Layout.{version, encoded, encoded_as, decoded, version_in, exact_as}
use Rattle.area.proofs.RoundTrip.{encoded_long, decode_encode, encode_exact, version_there, exact_area, exact_long, exact_words}
use Rattle.sabre.specs.Lent.{unfit, answer_on, is_refused, area_after, fit_area}
use Rattle.demands.proofs.Areas.{unfit_is, unfit_other, short_unfit, fit_long, fit_answer, accepted_fit}
use Rattle.sabre.proofs.SoundAreas.{fit_area_lem, fit_ok, area_fit}

-- an area under 65,536 bytes is refused by number 1, whatever the call
pub short_refused : (a : List ℕ) (c : Call) → length a < 65536 → answer_on a c ≡ Refused 1
unfolding answer_on
short_refused a c h = rw (short_unfit a c h)

-- so is, by every call but start, an area that is sound in neither of the two layouts
pub unsound_refused : (a : List ℕ) (c : Call) → is_start c ≡ false → fit_area a ≡ false → answer_on a c ≡ Refused 1
unfolding answer_on
unsound_refused a c o e = rw (unfit_other a c o, e)

-- after a refusal every byte is as before
pub refused_leaves : (a : List ℕ) (c : Call) → is_refused (answer_on a c) ≡ true → area_after a c ≡ a
unfolding area_after
refused_leaves a c e = rw e

-- bytes past 65,536 are never touched
pub past_untouched : (a : List ℕ) (c : Call) → drop 65536 (area_after a c) ≡ drop 65536 a
unfolding area_after
past_untouched a c = go (is_refused (answer_on a c) || is_reading c)
  where
    go : (b : Bool) → drop 65536 (cond b a (encoded (outcome (decoded a) c).state ++ drop 65536 a)) ≡ drop 65536 a
    go true = refl
    go false = drop_at (encoded (outcome (decoded a) c).state) (drop 65536 a) 65536 (encoded_long version (outcome (decoded a) c).state)

-- a call leaves an area of the same length
pub same_length : (a : List ℕ) (c : Call) → length (area_after a c) ≡ length a
unfolding area_after
same_length a c = go (is_refused (answer_on a c) || is_reading c) refl
  where
    go : (b : Bool) → is_refused (answer_on a c) || is_reading c ≡ b → length (cond b a (encoded (outcome (decoded a) c).state ++ drop 65536 a)) ≡ length a
    go true e = refl
    go false e =
        let n = fit_long a c (accepted_fit a c (or_false (is_refused (answer_on a c)) (is_reading c) e).0) in
        let s = (outcome (decoded a) c).state in
        length-append (encoded s) (drop 65536 a) ∙ omega (arith, encoded_long version s, length-drop 65536 a)

-- look, view and count leave every byte
pub reading_leaves : (a : List ℕ) (c : Call) → is_reading c ≡ true → area_after a c ≡ a
unfolding area_after
reading_leaves a c r = rw (r, or_true_right (is_refused (answer_on a c)) true refl)

pub look_leaves : (a : List ℕ) (level number : ℕ) → area_after a (Look level number) ≡ a
look_leaves a level number = reading_leaves a (Look level number) refl

pub view_leaves : (a : List ℕ) (level page : ℕ) → area_after a (View level page) ≡ a
view_leaves a level page = reading_leaves a (View level page) refl

pub count_leaves : (a : List ℕ) (level : ℕ) → area_after a (Count level) ≡ a
count_leaves a level = reading_leaves a (Count level) refl

-- ---- bytes past 65,536 are never read

-- an area with the first 65,536 bytes of one that is sound in one of the two layouts is so too and names the same state
same_state : (a b : List ℕ) → take 65536 a ≡ take 65536 b → fit_area a ≡ true → (fit_area b ≡ true) × (decoded b ≡ decoded a)
same_state a b e z =
    let s = decoded a in
    let v = version_in a in
    let r = drop 65536 b in
    let p = fit_area_lem a z in
    let ok = fit_ok a z in
    let h = exact_words v a p.exactly 8 (lit≤ tt) in
    let x : take 65536 a ≡ encoded_as v s = ap (take 65536) (sym (exact_area v a p.exactly)) ∙ take_at (encoded_as v s) (drop 65536 a) 65536 (encoded_long v s) in
    let y : encoded_as v s ++ r ≡ b = rw (← x, e) (take-append-drop 65536 b) in
    let n : decoded b ≡ s = rw y at (decode_encode v h s ok r) in
    let w : version_in b ≡ v = rw y at (version_there v h s ok r) in
    let t : exact_as v b ≡ true = rw y at (encode_exact v h s ok r) in
    (area_fit b (record { long = exact_long v b t; exactly = rw w t; is_known = rw (w, n) p.is_known; sound_state = rw n p.sound_state }), n)

-- what a start answers, and what it leaves where it is accepted, is the same for every state
start_any : (s t : State) (slots delay : ℕ)
    → ((outcome s (Start slots delay)).answer ≡ (outcome t (Start slots delay)).answer)
    × (is_refused (outcome s (Start slots delay)).answer ≡ false → (outcome s (Start slots delay)).state ≡ (outcome t (Start slots delay)).state)
unfolding outcome started word
start_any s t slots delay = go (start_refusal slots delay)
  where
    new : Outcome
    new = record { state = fresh slots delay; answer = Started }

    go : (n : ℕ) → ((unless n s new).answer ≡ (unless n t new).answer) × (is_refused (unless n s new).answer ≡ false → (unless n s new).state ≡ (unless n t new).state)
    go zero = (refl, λ _. refl)
    go (suc n) = (refl, λ k. true_false k)

accepted_bytes : (a : List ℕ) (c : Call) → is_refused (answer_on a c) ≡ false → is_reading c ≡ false → take 65536 (area_after a c) ≡ encoded (outcome (decoded a) c).state
unfolding area_after
accepted_bytes a c e n = let s = (outcome (decoded a) c).state in rw (e, n) (take_at (encoded s) (drop 65536 a) 65536 (encoded_long version s))

module _ (a b : List ℕ) (a-long : 65536 ≤ length a) (b-long : 65536 ≤ length b) (e : take 65536 a ≡ take 65536 b) (c : Call) where
  same_sound : fit_area a ≡ fit_area b
  same_sound = same_truth (fit_area a) (fit_area b) (λ z. (same_state a b e z).0) (λ z. (same_state b a (sym e) z).0)

  same_fit : unfit a c ≡ unfit b c
  same_fit = unfit_is a c ∙ rw (le-ltb (length a) 65536 a-long, same_sound) (sym (unfit_is b c ∙ rw (le-ltb (length b) 65536 b-long)))

  same_outcome : unfit a c ≡ false
      → ((outcome (decoded a) c).answer ≡ (outcome (decoded b) c).answer)
      × (is_refused (outcome (decoded a) c).answer ≡ false → (outcome (decoded a) c).state ≡ (outcome (decoded b) c).state)
  same_outcome f = go (is_start c) refl
    where
      go : (x : Bool) → is_start c ≡ x
          → ((outcome (decoded a) c).answer ≡ (outcome (decoded b) c).answer)
          × (is_refused (outcome (decoded a) c).answer ≡ false → (outcome (decoded a) c).state ≡ (outcome (decoded b) c).state)
      go true o = rw (start_is c o) (start_any (decoded a) (decoded b) (fields c).slots (fields c).delay)
      go false o = rw (same_state a b e (not-false (fit_area a) (sym (unfit_other a c o) ∙ f))).1 (refl, λ _. refl)

  -- A call's answer and the first 65,536 bytes that it leaves do not depend on the bytes past them.
  pub past_unread : (answer_on a c ≡ answer_on b c) × (take 65536 (area_after a c) ≡ take 65536 (area_after b c))
  unfolding answer_on word
  past_unread = go (unfit a c) refl
    where
      -- the bytes that are left, where the answers are equal
      bytes : answer_on a c ≡ answer_on b c → (is_refused (answer_on a c) ≡ false → (outcome (decoded a) c).state ≡ (outcome (decoded b) c).state)
          → (x : Bool) → is_refused (answer_on a c) ≡ x → take 65536 (area_after a c) ≡ take 65536 (area_after b c)
      bytes w s true r = rw (refused_leaves a c r, refused_leaves b c (rw (← w) r)) e
      bytes w s false r = go (is_reading c) refl
        where
          go : (x : Bool) → is_reading c ≡ x → take 65536 (area_after a c) ≡ take 65536 (area_after b c)
          go true n = rw (reading_leaves a c n, reading_leaves b c n) e
          go false n = accepted_bytes a c r n ∙ ap encoded (s r) ∙ sym (accepted_bytes b c (rw (← w) r) n)

      go : (u : Bool) → unfit a c ≡ u → (answer_on a c ≡ answer_on b c) × (take 65536 (area_after a c) ≡ take 65536 (area_after b c))
      go true u =
          let w : answer_on a c ≡ answer_on b c = rw (u, ← same_fit, u) in
          (w, bytes w (λ r. true_false (rw u at r)) true (rw u))
      go false u =
          let o = same_outcome u in
          let w : answer_on a c ≡ answer_on b c = fit_answer a c u ∙ o.0 ∙ sym (fit_answer b c (sym same_fit ∙ u)) in
          (w, bytes w (λ r. o.1 (rw (← fit_answer a c u) r)) (is_refused (answer_on a c)) refl)
