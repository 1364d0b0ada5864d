-- What a sound area is, the bytes of a sound state, and what an area is that a call other than start takes.
use mathlib.Core.Path.{◌≡◌, refl, sym, ◌∙◌}
use mathlib.Core.Bool.{Bool, true, false, ◌&&◌, ◌||◌}
use mathlib.Core.List.{List, ◌++◌}
use Prim.Native.Nat.{ℕ, ◌<◌, ◌≤◌}
use native.Mathlib.Omega.{arith}
use native.Mathlib.Decide.{ℕ_discrete}
use borrow.Author.Tests.{leb-true, le-leb, ne_eqb, eqb-true}
use lib.Dec.{leb, eqb, lit<}
use lib.ListN.{length, drop, length-append}
use Rattle.seq.proofs.Tests.{and_true, both_true, or_true_right, not_true_false, same_truth}
use Rattle.model.specs.declared.State.{State}
use Rattle.model.specs.Ranges.{StateOk}
use Rattle.rules.specs.Sound.{sound}
use Rattle.area.specs.Layout.{version, encoded, decoded, version_in, exact_as, exact}
use Rattle.area.proofs.RoundTrip.{encoded_long, decode_encode, encode_exact, exact_area, exact_ok, exact_version}
use Rattle.layout32.specs.Layout as Old
use Rattle.layout32.specs.Sound32.{sound_area32}
use Rattle.layout32.specs.Known.{fits, known}
use Rattle.layout32.proofs.OldAreas.{old_area, area_old}
use Rattle.sabre.specs.Lent.{sound_area, fit_area, FitArea}

-- what the test says of an area
pub record SoundArea (a : List ℕ) : Type 0 where
  pub long : 65536 ≤ length a
  pub exactly : exact a ≡ true
  pub sound_state : sound (decoded a) ≡ true

pub sound_area_lem : (a : List ℕ) → sound_area a ≡ true → SoundArea a
unfolding sound_area
sound_area_lem a e =
    let p = and_true (leb 65536 (length a)) (exact a && sound (decoded a)) e in
    let q = and_true (exact a) (sound (decoded a)) p.1 in
    record { long = leb-true 65536 (length a) p.0; exactly = q.0; sound_state = q.1 }

pub area_sound : (a : List ℕ) → 65536 ≤ length a → exact a ≡ true → sound (decoded a) ≡ true → sound_area a ≡ true
unfolding sound_area
area_sound a l e h = both_true (le-leb 65536 (length a) l) (both_true e h)

pub sound_area_bytes : (a : List ℕ) → sound_area a ≡ true → encoded (decoded a) ++ drop 65536 a ≡ a
sound_area_bytes a e = exact_area version a (sound_area_lem a e).exactly

pub encode_sound : (s : State) → StateOk s → (r : List ℕ) → sound s ≡ true → sound_area (encoded s ++ r) ≡ true
encode_sound s k r h =
    let l : 65536 ≤ length (encoded s ++ r) = rw (length-append (encoded s) r, encoded_long version s) (omega arith) in
    area_sound (encoded s ++ r) l (encode_exact version (lit< tt) s k r) (rw (decode_encode version (lit< tt) s k r) h)

-- ---- areas that a call other than start takes

pub sound_fit : (a : List ℕ) → sound_area a ≡ true → fit_area a ≡ true
unfolding fit_area
sound_fit a e = rw e

pub old_fit : (a : List ℕ) → sound_area32 a ≡ true → fit_area a ≡ true
unfolding fit_area
old_fit a e = or_true_right (sound_area a) (sound_area32 a) e

-- such an area is of one of the two layouts
pub fit_either : {A : Type 0} (a : List ℕ) → fit_area a ≡ true → (sound_area a ≡ true → A) → (sound_area32 a ≡ true → A) → A
unfolding fit_area
fit_either {A} a e f g = go (sound_area a) refl e
  where
    go : (x : Bool) → sound_area a ≡ x → x || sound_area32 a ≡ true → A
    go true h k = f h
    go false h k = g k

-- each says its version
pub sound_version : (a : List ℕ) → sound_area a ≡ true → version_in a ≡ version
sound_version a e = exact_version version a (sound_area_lem a e).exactly (lit< tt)

pub old_version : (a : List ℕ) → sound_area32 a ≡ true → version_in a ≡ Old.version
old_version a e = exact_version Old.version a (old_area a e).exactly (lit< tt)

pub fit_area_lem : (a : List ℕ) → fit_area a ≡ true → FitArea a
unfolding known
fit_area_lem a e = fit_either a e
    (λ h. let p = sound_area_lem a h in
    let v = sound_version a h in
    record { long = p.long; exactly = rw v p.exactly; is_known = rw v; sound_state = p.sound_state })
    (λ h. let p = old_area a h in
    let v = old_version a h in
    record { long = p.long; exactly = rw v p.exactly; is_known = rw v p.narrow; sound_state = p.sound_state })

-- its numbers have their ranges
pub fit_ok : (a : List ℕ) → fit_area a ≡ true → StateOk (decoded a)
fit_ok a e = exact_ok (version_in a) a (fit_area_lem a e).exactly

pub area_fit : (a : List ℕ) → FitArea a → fit_area a ≡ true
unfolding known
area_fit a p = elim (ℕ_discrete (version_in a) version) [
  | yes v ↦ sound_fit a (area_sound a p.long (rw v at p.exactly) p.sound_state)
  | no v ↦
      let k = rw (ne_eqb (version_in a) version v) at p.is_known in
      let q = and_true (eqb (version_in a) Old.version) (fits (decoded a).clock (decoded a).rows) k in
      let o = eqb-true (version_in a) Old.version q.0 in
      old_fit a (area_old a p.long (rw o at p.exactly) q.1 p.sound_state)
]

-- a short area
pub short_unfit : (a : List ℕ) → length a < 65536 → fit_area a ≡ false
short_unfit a h = not_true_false (fit_area a) (λ e. omega (arith, (fit_area_lem a e).long))

-- a long area, by the tests of its bytes, of its version and of its state
pub long_fit : (a : List ℕ) (s : State) (v : ℕ) (e : Bool) → 65536 ≤ length a → s ≡ decoded a → e ≡ exact_as (version_in a) a → v ≡ version_in a
    → (b : Bool) → b ≡ e && known v s.clock s.rows && sound s → fit_area a ≡ b
long_fit a s v e l f g h b k = same_truth (fit_area a) b to from
  where
    same : b ≡ exact_as (version_in a) a && known (version_in a) (decoded a).clock (decoded a).rows && sound (decoded a)
    same = rw (← f, ← g, ← h) k

    to : fit_area a ≡ true → b ≡ true
    to e = let p = fit_area_lem a e in same ∙ both_true (both_true p.exactly p.is_known) p.sound_state

    from : b ≡ true → fit_area a ≡ true
    from e =
        let p = and_true (exact_as (version_in a) a && known (version_in a) (decoded a).clock (decoded a).rows) (sound (decoded a)) (sym same ∙ e) in
        let q = and_true (exact_as (version_in a) a) (known (version_in a) (decoded a).clock (decoded a).rows) p.0 in
        area_fit a (record { long = l; exactly = q.0; is_known = q.1; sound_state = p.1 })
