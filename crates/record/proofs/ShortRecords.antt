-- Records of 12 bytes play as they did before document 02, T-07: they name the same calls, and an input without the mark C3 5B is cut as before.
use mathlib.Core.Path.{◌≡◌, refl, ◌∙◌, ap}
use mathlib.Core.List.{List, [], ◌∷◌, map}
use Prim.Native.Nat.{ℕ, zero, suc, ◌+◌, ◌*◌, ◌/◌, ◌%◌, ◌^◌, ◌<◌, ◌≤◌}
use native.Mathlib.Nat.{pow-zero, pow-succ', pow-le-pow_right, mul_assoc}
use native.Mathlib.Omega.{arith}
use borrow.Author.Tests.{ne_eqb}
use lib.ListN.{length, take, drop, length-take}
use lib.Seq.{take-take}
use Rattle.words.specs.Bytes.{part, AllUnder}
use Rattle.words.proofs.ByteLaws.{under_tail, under_take, under_drop, under_part}
use Rattle.seq.proofs.Tests.{or_none}
use Rattle.record.specs.Record.{big_endian, field, kinds, of_kind, long_mark, short_width, record_width, has_mark, is_whole, record_of}
use Rattle.record.specs.Play.{first_records, records_of}
use Rattle.record.specs.ShortRecord.{short_kinds, short_is_whole, short_record_of, short_first, short_records_of, NoneLong}
use Rattle.record.proofs.RecordLaws.{same_width, short_width_lem}

big_under : (x m : ℕ) (bs : List ℕ) → AllUnder 256 bs → x < m → big_endian x bs < m * 256 ^ length bs
unfolding big_endian
big_under x m [] u h = rw pow-zero (omega arith)
big_under x m (b ∷ bs) u h = rw (pow-succ', ← mul_assoc) (big_under (x * 256 + b) (m * 256) bs (under_tail 256 b bs u) (omega (arith, u 0)))

-- four bytes make a 32-bit number
pub four_under : (r : List ℕ) (at : ℕ) → AllUnder 256 r → field r at 4 < 4294967296
unfolding field
four_under r at u =
    let bs = part r at 4 in
    let l : length bs ≤ 4 = rw length-take (omega arith) in
    let p : 256 ^ length bs ≤ 256 ^ 4 = pow-le-pow_right (omega arith) {i = length bs} {j = 4} l in
    omega (arith, big_under 0 1 bs (under_part 256 r at 4 u) (omega arith))

same_kinds : (level number mode page value : ℕ) → value < 4294967296 → kinds level number mode page value ≡ short_kinds level number mode page value
unfolding kinds short_kinds
same_kinds level number mode page value h =
    let e : value / 65536 % 65536 ≡ value / 65536 = omega arith in
    rw e

-- a record without the mark C3 5B names the call that it named
pub short_record : (r : List ℕ) → AllUnder 256 r → (field r 0 2 ≡ long_mark → ⊥) → record_of r ≡ short_record_of r
unfolding record_of is_whole has_mark of_kind short_record_of short_is_whole
short_record r u h =
    rw (← short_width_lem r h, ne_eqb (field r 0 2) long_mark h, or_none, same_kinds (field r 3 1) (field r 4 1) (field r 5 1) (field r 6 2) (field r 8 4) (four_under r 8 u))

short_first_lem : (n : ℕ) (bytes : List ℕ) → NoneLong (short_first n bytes) → first_records n bytes ≡ short_first n bytes
unfolding first_records short_first
short_first_lem zero bytes h = refl
short_first_lem (suc n) [] h = refl
short_first_lem (suc n) (b ∷ bs) h =
    let l = b ∷ bs in
    let w : short_width ≡ record_width l = short_width_lem (take short_width l) h.0 ∙ same_width (take short_width l) l (take-take 2 short_width l (omega arith)) in
    rw (← w) (ap (λ (rs : List (List ℕ)). take short_width l ∷ rs) (short_first_lem n (drop short_width l) h.1))

-- an input none of whose parts of 12 bytes begins with the mark C3 5B has these parts for its records
pub short_records : (input : List ℕ) → NoneLong (short_records_of input) → records_of input ≡ short_records_of input
unfolding records_of short_records_of
short_records input h = short_first_lem (length input) input h

calls_first : (n : ℕ) (bytes : List ℕ) → AllUnder 256 bytes → NoneLong (short_first n bytes) → map record_of (short_first n bytes) ≡ map short_record_of (short_first n bytes)
unfolding short_first
calls_first zero bytes u h = refl
calls_first (suc n) [] u h = refl
calls_first (suc n) (b ∷ bs) u h =
    let l = b ∷ bs in
    rw (short_record (take short_width l) (under_take 256 short_width l u) h.0, calls_first n (drop short_width l) (under_drop 256 short_width l u) h.1)

-- so the records of such an input name the calls that they named
pub same_calls : (input : List ℕ) → AllUnder 256 input → NoneLong (short_records_of input) → map record_of (records_of input) ≡ map short_record_of (short_records_of input)
unfolding short_records_of
same_calls input u h = rw (short_records input h) (calls_first (length input) input u h)
