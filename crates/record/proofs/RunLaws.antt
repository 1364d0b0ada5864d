-- Records played one after another, the records of an input, and that nothing follows a bad record.
use Prim.{tt}
use mathlib.Core.Path.{◌≡◌, refl, ◌∙◌, sym, ap}
use mathlib.Core.Bool.{Bool, true, cond}
use mathlib.Core.List.{List, [], ◌∷◌, ◌++◌, append_assoc, append-nil}
use Prim.Native.Nat.{ℕ, zero, suc, ◌<◌, ◌≤◌}
use native.Mathlib.Omega.{arith}
use lib.ListN.{length, take, drop, length-append, length-drop, drop_of_length-le}
use lib.Seq.{take_all, take-append-le, take_at, drop_at}
use Rattle.record.specs.declared.Progress.{Progress}
use Rattle.record.specs.Record.{short_width, record_width, record_of}
use Rattle.record.specs.Text.{header}
use Rattle.record.specs.Play.{Played, admitted, played_record, unplayed, played_one, and_then, played, first_records, records_of, AllFull, input_of, first_progress, printed}
use Rattle.record.proofs.RecordLaws.{same_width, widths}

then_then : (p q s : Played) → and_then p (and_then q s) ≡ and_then (and_then p q) s
then_then p q s = λ i. record {
  progress = s.progress;
  area = s.area;
  text = sym (append_assoc p.text q.text s.text) i;
}

-- the records of a second list go on where the first stands, and the texts are joined
pub played_append : (t : Progress) (a : List ℕ) (xs ys : List (List ℕ)) → played t a (xs ++ ys) ≡ and_then (played t a xs) (played (played t a xs).progress (played t a xs).area ys)
unfolding played
played_append t a [] ys = refl
played_append t a (x ∷ xs) ys =
    let p = played_one t a x in
    let q = played p.progress p.area xs in
    ap (λ (r : Played). and_then p r) (played_append p.progress p.area xs ys) ∙ then_then p q (played q.progress q.area ys)

pub played_alone : (t : Progress) (a x : List ℕ) → played t a (x ∷ []) ≡ played_one t a x
unfolding played
played_alone t a x =
    let p = played_one t a x in
    λ i. record { progress = p.progress; area = p.area; text = append-nil p.text i }

enough : (m n : ℕ) (bytes : List ℕ) → length bytes ≤ m → length bytes ≤ n → first_records m bytes ≡ first_records n bytes
unfolding first_records
enough zero zero bytes h k = refl
enough zero (suc n) [] h k = refl
enough zero (suc n) (b ∷ bs) h k = absurd (omega arith)
enough (suc m) zero [] h k = refl
enough (suc m) zero (b ∷ bs) h k = absurd (omega arith)
enough (suc m) (suc n) [] h k = refl
enough (suc m) (suc n) (b ∷ bs) h k =
    let w = record_width (b ∷ bs) in
    let l : length (drop w (b ∷ bs)) ≤ length bs = rw length-drop (omega (arith, (widths (b ∷ bs)).0)) in
    ap (λ (rs : List (List ℕ)). take w (b ∷ bs) ∷ rs) (enough m n (drop w (b ∷ bs)) (omega arith) (omega arith))

-- some bytes are their first record and the records of the rest
pub first_record : (bytes : List ℕ) → 0 < length bytes → records_of bytes ≡ take (record_width bytes) bytes ∷ records_of (drop (record_width bytes) bytes)
unfolding records_of first_records
first_record [] h = absurd (omega arith)
first_record (b ∷ bs) h =
    let w = record_width (b ∷ bs) in
    ap (λ (rs : List (List ℕ)). take w (b ∷ bs) ∷ rs) (enough (length bs) (length (drop w (b ∷ bs))) (drop w (b ∷ bs)) (rw length-drop (omega (arith, (widths (b ∷ bs)).0))) (omega arith))

-- so a record of full width is one, and at the end one that is cut
pub full_record : (r bytes : List ℕ) → length r ≡ record_width r → records_of (r ++ bytes) ≡ r ∷ records_of bytes
full_record r bytes e =
    let l : short_width ≤ length r = omega (arith, (widths r).0) in
    let w : record_width (r ++ bytes) ≡ record_width r = same_width (r ++ bytes) r (take-append-le 2 r bytes (omega arith)) in
    first_record (r ++ bytes) (rw length-append (omega arith)) ∙ rw (w, take_at r bytes (record_width r) e, drop_at r bytes (record_width r) e)

pub last_record : (r : List ℕ) → 0 < length r → length r ≤ record_width r → records_of r ≡ r ∷ []
unfolding records_of first_records
last_record r h k = first_record r h ∙ rw (take_all (record_width r) r k, drop_of_length-le r {i = record_width r} k)

pub full_more : (rs : List (List ℕ)) (r : List ℕ) → AllFull rs → length r ≡ record_width r → AllFull (rs ++ (r ∷ []))
full_more [] r h e = (e, tt)
full_more (x ∷ rs) r h e = (h.0, full_more rs r h.1 e)

pub records_input : (rs : List (List ℕ)) (rest : List ℕ) → AllFull rs → records_of (input_of rs rest) ≡ rs ++ records_of rest
unfolding input_of
records_input [] rest h = refl
records_input (r ∷ rs) rest h = full_record r (input_of rs rest) h.0 ∙ ap (λ (xs : List (List ℕ)). r ∷ xs) (records_input rs rest h.1)

-- records that are read one by one and played print what their input prints
pub printed_records : (a : List ℕ) (rs : List (List ℕ)) (rest : List ℕ) → AllFull rs → printed a (input_of rs rest) ≡ header ++ (played first_progress a (rs ++ records_of rest)).text
unfolding printed
printed_records a rs rest h = rw (records_input rs rest h)

over_one : (t : Progress) (a r : List ℕ) → t.over ≡ true → played_one t a r ≡ unplayed t a
unfolding played_one
over_one t a r e = ap (λ (over : Bool). cond over (unplayed t a) (played_record t a (admitted t.started (record_of r)))) e

pub played_over : (t : Progress) (a : List ℕ) → t.over ≡ true → (rs : List (List ℕ)) → played t a rs ≡ unplayed t a
unfolding played
played_over t a e [] = refl
played_over t a e (r ∷ rs) = ap (λ (p : Played). and_then p (played p.progress p.area rs)) (over_one t a r e) ∙ played_over t a e rs

-- after a bad record nothing more is printed, whatever follows
pub printed_over : (a : List ℕ) (rs : List (List ℕ)) (rest : List ℕ) → AllFull rs → (played first_progress a rs).progress.over ≡ true → printed a (input_of rs rest) ≡ header ++ (played first_progress a rs).text
printed_over a rs rest h e =
    let p = played first_progress a rs in
    printed_records a rs rest h
    ∙ ap (λ (q : Played). header ++ q.text) (played_append first_progress a rs (records_of rest) ∙ ap (λ (q : Played). and_then p q) (played_over p.progress p.area e (records_of rest)))
    ∙ ap (λ (xs : List ℕ). header ++ xs) (append-nil p.text)
