-- What the bytes of a record and its fields come to, and how much of the list its call is lent.
use mathlib.Core.Path.{◌≡◌, refl, ap}
use mathlib.Core.Bool.{Bool, true, false, cond, ◌&&◌}
use mathlib.Core.List.{List, [], ◌∷◌, ◌++◌}
use Prim.Native.Nat.{ℕ, zero, suc, ◌+◌, ◌*◌, ◌-◌, ◌^◌, ◌<◌, ◌≤◌}
use native.Mathlib.Nat.{pow-suc}
use native.Mathlib.Numerals.{add-one}
use native.Mathlib.Omega.{arith}
use borrow.Author.Tests.{ne_eqb, leb-true}
use lib.Dec.{leb, eqb}
use lib.ListN.{length, get_or, take, drop, length-drop}
use lib.Seq.{take-suc, get_or-drop}
use Rattle.seq.proofs.Tests.{and_left, and_right}
use Rattle.model.specs.declared.Call.{Call}
use Rattle.rules.specs.Content.{is_start}
use Rattle.std.specs.Prelude.{Option, None, Some}
use Rattle.record.specs.Record.{list_length, big_endian, field, kinds, of_kind, long_mark, short_width, long_width, record_width, is_whole, record_of}
use Rattle.record.specs.Play.{admitted}
use Rattle.record.specs.Inner.Room.{room_of}

big_last : (x : ℕ) (bs : List ℕ) (b : ℕ) → big_endian x (bs ++ (b ∷ [])) ≡ big_endian x bs * 256 + b
unfolding big_endian
big_last x [] b = refl
big_last x (d ∷ bs) b = big_last (x * 256 + d) bs b

-- a number of one byte more, and its bound
pub big_more : (x : ℕ) (bs : List ℕ) (i : ℕ) → i < length bs → big_endian x (take (i + 1) bs) ≡ big_endian x (take i bs) * 256 + get_or bs i 0
big_more x bs i h = rw (add-one i, take-suc bs i 0 h) (big_last x (take i bs) (get_or bs i 0))

pub big_room : (x i b : ℕ) → x < 256 ^ i → b < 256 → x * 256 + b < 256 ^ (i + 1)
big_room x i b h k = rw (add-one i, pow-suc) (omega arith)

-- a field of one byte more
pub field_more : (r : List ℕ) (at i : ℕ) → at + i < length r → field r at (i + 1) ≡ field r at i * 256 + get_or r (at + i) 0
unfolding field
field_more r at i h = rw get_or-drop at (big_more 0 (drop at r) i (rw length-drop (omega arith)))

-- each kind's call is lent at most the whole list
all_room : List (Option Call) → Bool
all_room [] = true
all_room (r ∷ rs) = leb (room_of r) list_length && all_room rs

each_room : (rs : List (Option Call)) → all_room rs ≡ true → (k : ℕ) → room_of (get_or rs k None) ≤ list_length
unfolding all_room
each_room [] h k = omega arith
each_room (r ∷ rs) h zero = leb-true (room_of r) list_length (and_left _ (all_room rs) h)
each_room (r ∷ rs) h (suc k) = each_room rs (and_right (leb (room_of r) list_length) _ h) k

record_room : (r : List ℕ) → room_of (record_of r) ≤ list_length
unfolding record_of of_kind kinds all_room
record_room r = go (is_whole r)
  where
    go : (b : Bool) → room_of (cond b (of_kind (field r 2 1) (field r 3 1) (field r 4 1) (field r 5 1) (field r 6 2) (field r 8 (record_width r - 8))) None) ≤ list_length
    go true = each_room (kinds (field r 3 1) (field r 4 1) (field r 5 1) (field r 6 2) (field r 8 (record_width r - 8))) refl (field r 2 1)
    go false = omega arith

pub admitted_room : (started : Bool) (r : List ℕ) → room_of (admitted started (record_of r)) ≤ list_length
unfolding admitted
admitted_room started r = go started (record_of r) (record_room r)
  where
    go : (s : Bool) (x : Option Call) → room_of x ≤ list_length → room_of (admitted s x) ≤ list_length
    go true x h = h
    go false None h = h
    go false (Some c) h = pick (is_start c)
      where
        pick : (b : Bool) → room_of (cond b (Some c) None) ≤ list_length
        pick true = h
        pick false = omega arith

-- the first two bytes tell the width
pub same_width : (a b : List ℕ) → take 2 a ≡ take 2 b → record_width a ≡ record_width b
unfolding record_width field
same_width a b e = ap (λ (m : List ℕ). cond (eqb (big_endian 0 m) long_mark) long_width short_width) e

module _ (r : List ℕ) where
  pub widths : (short_width ≤ record_width r) × (record_width r ≤ long_width)
  unfolding record_width
  widths = go (eqb (field r 0 2) long_mark)
    where
      go : (b : Bool) → (short_width ≤ cond b long_width short_width) × (cond b long_width short_width ≤ long_width)
      go true = (omega arith, omega arith)
      go false = (omega arith, omega arith)

  pub not_short : (record_width r ≡ short_width → ⊥) → record_width r ≡ long_width
  unfolding record_width
  not_short = go (eqb (field r 0 2) long_mark)
    where
      go : (b : Bool) → (cond b long_width short_width ≡ short_width → ⊥) → cond b long_width short_width ≡ long_width
      go true f = refl
      go false f = absurd (f refl)

  pub short_width_lem : (field r 0 2 ≡ long_mark → ⊥) → short_width ≡ record_width r
  unfolding record_width
  short_width_lem h = rw (ne_eqb (field r 0 2) long_mark h)

  pub cut : (length r ≡ record_width r → ⊥) → None ≡ record_of r
  unfolding record_of is_whole
  cut h = rw (ne_eqb (length r) (record_width r) h)
