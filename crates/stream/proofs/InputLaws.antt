-- Records that are read one by one and played, and their text.
use Prim.{tt}
use mathlib.Core.Path.{◌≡◌, refl, ◌∙◌, sym, ap}
use mathlib.Core.Bool.{Bool, true, false, cond}
use mathlib.Core.List.{List, [], ◌∷◌, ◌++◌, append_assoc, append-nil}
use Prim.Native.Nat.{ℕ, ◌+◌, ◌-◌, ◌<◌, ◌≤◌}
use native.Mathlib.Decide.{dec_lt}
use native.Mathlib.Omega.{arith}
use borrow.Author.Tests.{ltb-false}
use lib.Dec.{ltb}
use lib.ListN.{length, take, drop, length-append, length-take}
use lib.Seq.{length-take-le, take_at}
use Rattle.std.proofs.Common.{subst, None, Some, IfSome}
use Rattle.std.specs.Io.KnownBytes.{Appends, Consumes, IsAtEnd}
use Rattle.std.proofs.KnownBytes.{Appends-trans, Consumes-nil, Consumes-trans}
use Rattle.std.specs.declared.option.Option.{Option}
use Rattle.seq.proofs.Tests.{true_false}
use Rattle.words.specs.Bytes.{Wrote}
use Rattle.words.proofs.WroteLaws.{wrote_none}
use Rattle.record.specs.declared.Progress.{Progress}
use Rattle.record.specs.Record.{record_width}
use Rattle.record.specs.Text.{most_text, header}
use Rattle.record.specs.Play.{Played, unplayed, played_one, and_then, played, first_records, records_of, AllFull, input_of, first_progress, printed}
use Rattle.record.proofs.PlayLaws.{Came, one_small, cut_over}
use Rattle.record.proofs.RecordLaws.{widths}
use Rattle.record.proofs.RunLaws.{full_record, full_more, records_input, played_append, played_alone, played_over, last_record}
use Rattle.stream.specs.Left.{first_from, LeftBySome, printed_from}

-- a run begins at the first progress, but for whether the area counts as started
pub first_from_lem : (t : Progress) (started : Bool) → t ≡ first_progress → record { started = started; over = t.over; number = t.number } ≡ first_from started
unfolding first_progress first_from
first_from_lem t started e = ap (λ (u : Progress). record { started = started; over = u.over; number = u.number }) e

-- on an area that is not started a run prints what the player prints
pub printed_is : (a input : List ℕ) → printed_from false a input ≡ printed a input
unfolding printed_from printed first_from first_progress
printed_is a input = refl

-- what was read is no record, or one, which may be cut
module _ (t : Progress) (a : List ℕ) where
  read_none : played t a (records_of []) ≡ unplayed t a
  unfolding played records_of first_records
  read_none = refl

  module _ (r : List ℕ) (h : length r ≤ record_width r) where
    read_one : 0 < length r → played t a (records_of r) ≡ played_one t a r
    read_one p = ap (λ (rs : List (List ℕ)). played t a rs) (last_record r p h) ∙ played_alone t a r

    -- only a whole record lets the run go on
    pub read_full : 0 < length r → (played t a (records_of r)).progress.over ≡ false → length r ≡ record_width r
    read_full p e = elim (dec_lt (length r) (record_width r)) [
      | yes l ↦
          let o : (played_one t a r).progress.over ≡ true = cut_over t a r (λ q. absurd (omega arith)) in
          true_false (sym o ∙ ap (λ (q : Played). q.progress.over) (sym (read_one p)) ∙ e)
      | no l ↦ omega arith
    ]

    -- after a bad record nothing counts
    last_full : (rest : List ℕ) → length r ≡ record_width r → (played t a (records_of r)).progress.over ≡ true → played t a (records_of (r ++ rest)) ≡ played t a (records_of r)
    last_full rest w o =
        let p = played t a (r ∷ []) in
        let one : records_of r ≡ r ∷ [] = last_record r (omega (arith, (widths r).0)) h in
        let over : p.progress.over ≡ true = ap (λ (rs : List (List ℕ)). (played t a rs).progress.over) (sym one) ∙ o in
        ap (λ (rs : List (List ℕ)). played t a rs) (full_record r rest w)
        ∙ played_append t a (r ∷ []) (records_of rest)
        ∙ ap (λ (q : Played). and_then p q) (played_over p.progress p.area over (records_of rest))
        ∙ (λ i. record { progress = p.progress; area = p.area; text = append-nil p.text i })
        ∙ ap (λ (rs : List (List ℕ)). played t a rs) (sym one)

    -- what follows the last record of an input, which is none, cut or bad, does not count
    last_read : (rest : List ℕ) → (length r < record_width r → rest ≡ []) → (0 < length r → (played t a (records_of r)).progress.over ≡ true) → played t a (records_of (r ++ rest)) ≡ played t a (records_of r)
    last_read rest e o = elim (dec_lt (length r) (record_width r)) [
      | yes l ↦ ap (λ (xs : List ℕ). played t a (records_of (r ++ xs))) (e l) ∙ ap (λ (xs : List ℕ). played t a (records_of xs)) (append-nil r)
      | no l ↦
          let w : length r ≡ record_width r = omega arith in
          last_full rest w (o (omega (arith, (widths r).0)))
    ]

  read_small : (r : List ℕ) → length r ≤ record_width r → (length (played t a (records_of r)).text ≤ most_text) × ((played t a (records_of r)).progress.number ≤ t.number + 1)
  read_small [] h = rw read_none (omega arith, omega arith)
  read_small (b ∷ bs) h = rw (read_one (b ∷ bs) h (omega arith)) (one_small t a (b ∷ bs))

  module _ (bytes out : List ℕ) (at n : ℕ) where
    pub none_read : n ≡ 0 → Came (played t a (records_of (take n bytes))) t a out at out at
    none_read e = rw (e, read_none) (refl, (refl, wrote_none out at))

    module _ (h : n ≤ record_width (take n bytes)) (l : length (take n bytes) ≡ n) (p : Progress) (b out' : List ℕ) (end : ℕ) where
      pub one_read : (n ≡ 0 → ⊥) → Came (played_one t a (take n bytes)) p b out at out' end → Came (played t a (records_of (take n bytes))) p b out at out' end
      one_read f w = rw (read_one (take n bytes) (omega arith) (omega arith)) w

      pub turn_small : Came (played t a (records_of (take n bytes))) p b out at out' end → (end ≤ at + most_text) × (p.number ≤ t.number + 1)
      turn_small w =
          let s = read_small (take n bytes) (omega arith) in
          (omega (arith, w.1.1.ends, s.0), rw w.0 s.1)

-- no more bytes are taken than were read
pub read_within : (n : ℕ) (bytes : List ℕ) → n ≤ record_width (take n bytes) → length (take n bytes) ≤ record_width (take n bytes)
read_within n bytes h = omega (arith, h, length-take {A = ℕ})

-- the bytes of some records, and more after them
input_then : (rs : List (List ℕ)) (q : List ℕ) → input_of rs [] ++ q ≡ input_of rs q
unfolding input_of
input_then [] q = refl
input_then (r ∷ rs) q = append_assoc r (input_of rs []) q ∙ ap (λ (xs : List ℕ). r ++ xs) (input_then rs q)

input_more : (rs : List (List ℕ)) (r : List ℕ) → input_of (rs ++ (r ∷ [])) [] ≡ input_of rs [] ++ r
unfolding input_of
input_more [] r = append-nil r
input_more (x ∷ rs) r = ap (λ (xs : List ℕ). x ++ xs) (input_more rs r) ∙ sym (append_assoc x (input_of rs []) r)

-- what a writer and the bytes that stand before a place hold, after more was written there
wrote_take : (out out' xs : List ℕ) (at end : ℕ) → at ≤ length out → Wrote out at xs out' end → take end out' ≡ take at out ++ xs
wrote_take out out' xs at end h w =
    let long : length (take at out ++ xs) ≡ end = length-append (take at out) xs ∙ ap (λ n. n + length xs) (length-take-le at out h) ∙ sym w.ends in
    ap (λ (l : List ℕ). take end l) w.holds
    ∙ take_at (take at out ++ xs) (drop (at + length xs) out) end long

-- what is known of all that a reader has, from what it gave
some_read : (a b : Option (List ℕ)) (bs : List ℕ) (P : List ℕ → Type 0) → Consumes a b bs → ((rest : List ℕ) → (IsAtEnd b → rest ≡ []) → P (bs ++ rest)) → IfSome a P
some_read None b bs P p h = tt
some_read (Some x) None bs P p h = absurd p
some_read (Some x) (Some y) bs P p h = subst P (sym p) (h y (λ e. e))

-- a run from a start stands at n on b: what it read are whole records, and what it printed is their text, but for the bytes of out before a place
pub record Run (started : Bool) (a : List ℕ) (had has held holds : Option (List ℕ)) (n : Progress) (b out : List ℕ) (at count : ℕ) : Type 0 where
  pub records : List (List ℕ)
  pub full : AllFull records
  pub progress_is : n ≡ (played (first_from started) a records).progress
  pub area_is : b ≡ (played (first_from started) a records).area
  pub read : Consumes had has (input_of records [])
  pub told : List ℕ
  pub written : Appends held holds told
  pub text : told ++ take at out ≡ header ++ (played (first_from started) a records).text
  pub counted : count ≤ length (input_of records [])

pub left_none : (started : Bool) (a : List ℕ) → LeftBySome started a a
left_none started a = record { input = []; left = ap (λ (q : Played). q.area) (sym (read_none (first_from started) a)) }

-- a run that begins, after the header
pub run_first : (started : Bool) (a : List ℕ) (had held holds : Option (List ℕ)) (blank out : List ℕ) (end : ℕ) → Wrote blank 0 header out end
    → Appends held holds (take end out) → Run started a had had held holds (first_from started) a out 0 0
unfolding played input_of
run_first started a had held holds blank out end w h = record {
  records = [];
  full = tt;
  progress_is = refl;
  area_is = refl;
  read = Consumes-nil had;
  told = take end out;
  written = h;
  text = ap (λ (xs : List ℕ). xs ++ []) (wrote_take blank out header 0 end (omega arith) w);
  counted = omega arith;
}

module _ {started : Bool} {a : List ℕ} {had has held holds : Option (List ℕ)} {n : Progress} {b out : List ℕ} {at count : ℕ} (h : Run started a had has held holds n b out at count) where
  goes_on : (rs : List (List ℕ)) → played (first_from started) a (h.records ++ rs) ≡ and_then (played (first_from started) a h.records) (played n b rs)
  goes_on rs = rw (h.progress_is, h.area_is) (played_append (first_from started) a h.records rs)

  -- the text before the place is written, and the next goes there or to the front
  pub run_room : {holds' : Option (List ℕ)} {at' : ℕ} (full : Bool) → at' ≡ cond full 0 at → Appends holds holds' (take (at - at') out) → Run started a had has held holds' n b out at' count
  run_room {holds'} {at'} full e w = record {
    records = h.records;
    full = h.full;
    progress_is = h.progress_is;
    area_is = h.area_is;
    read = h.read;
    told = h.told ++ take (at - at') out;
    written = Appends-trans held holds holds' h.told (take (at - at') out) h.written w;
    text = append_assoc h.told (take (at - at') out) (take at' out) ∙ ap (λ (xs : List ℕ). h.told ++ xs) (go full e) ∙ h.text;
    counted = h.counted;
  }
    where
      go : (c : Bool) → at' ≡ cond c 0 at → take (at - at') out ++ take at' out ≡ take at out
      go true e =
          let all : at - 0 ≡ at = omega arith in
          rw e (ap (λ k. take k out ++ []) all ∙ append-nil (take at out))
      go false e =
          let none : at - at' ≡ 0 = omega (arith, e) in
          ap (λ k. take k out ++ take at' out) none ∙ ap (λ k. take k out) e

  pub left_whole : LeftBySome started a b
  left_whole = record {
    input = input_of h.records [];
    left = ap (λ (q : Played). q.area) (sym (read_none n b)) ∙ ap (λ (q : Played). q.area) (sym (goes_on (records_of [])))
        ∙ ap (λ (rs : List (List ℕ)). (played (first_from started) a rs).area) (sym (records_input h.records [] h.full));
  }

  -- no input is so long
  pub never_over : (most : ℕ) (P : List ℕ → Type 0) → count ≡ most → IfSome had (λ input. length input < most → P input)
  never_over most P e = some_read had has (input_of h.records []) (λ input. length input < most → P input) h.read
      (λ rest f l. absurd (omega (arith, h.counted, length-append (input_of h.records []) rest)))

  -- the next record, which may be none, cut or bad
  module _ (has' : Option (List ℕ)) {n' : Progress} (r : List ℕ) {b' out' : List ℕ} {end : ℕ} (k : length r ≤ record_width r) (c : Consumes has has' r) (v : Came (played n b (records_of r)) n' b' out at out' end) (m : at ≤ length out) where
    more_text : h.told ++ take end out' ≡ header ++ (and_then (played (first_from started) a h.records) (played n b (records_of r))).text
    more_text =
        let before = (played (first_from started) a h.records).text in
        let now = (played n b (records_of r)).text in
        ap (λ (xs : List ℕ). h.told ++ xs) (wrote_take out out' now at end m v.1.1)
        ∙ sym (append_assoc h.told (take at out) now)
        ∙ ap (λ (xs : List ℕ). xs ++ now) h.text
        ∙ append_assoc header before now

    pub run_more : 0 < length r → n'.over ≡ false → Run started a had has' held holds n' b' out' end (count + 1)
    run_more p o =
        let all : played (first_from started) a (h.records ++ (r ∷ [])) ≡ and_then (played (first_from started) a h.records) (played n b (records_of r)) = rw (last_record r p k) (goes_on (r ∷ [])) in
        record {
          records = h.records ++ (r ∷ []);
          full = full_more h.records r h.full (read_full n b r k p (ap (λ (u : Progress). u.over) (sym v.0) ∙ o));
          progress_is = v.0 ∙ ap (λ (q : Played). q.progress) (sym all);
          area_is = v.1.0 ∙ ap (λ (q : Played). q.area) (sym all);
          read = subst (Consumes had has') (sym (input_more h.records r)) (Consumes-trans had has has' (input_of h.records []) r h.read c);
          told = h.told;
          written = h.written;
          text = more_text ∙ ap (λ (q : Played). header ++ q.text) (sym all);
          counted = omega (arith, h.counted, ap length (input_more h.records r), length-append (input_of h.records []) r);
        }

    pub left_by : LeftBySome started a b'
    left_by = record {
      input = input_of h.records r;
      left = v.1.0 ∙ ap (λ (q : Played). q.area) (sym (goes_on (records_of r)))
          ∙ ap (λ (rs : List (List ℕ)). (played (first_from started) a rs).area) (sym (records_input h.records r h.full));
    }

    -- where nothing that counts follows, all that the reader had was played
    module _ (ends : length r < record_width r → IsAtEnd has') (last : 0 < length r → n'.over ≡ true) where
      all_played : (rest : List ℕ) → (IsAtEnd has' → rest ≡ [])
          → played (first_from started) a (records_of ((input_of h.records [] ++ r) ++ rest)) ≡ and_then (played (first_from started) a h.records) (played n b (records_of r))
      all_played rest e =
          let over : 0 < length r → (played n b (records_of r)).progress.over ≡ true = λ p. ap (λ (u : Progress). u.over) (sym v.0) ∙ last p in
          ap (λ (xs : List ℕ). played (first_from started) a (records_of xs)) (append_assoc (input_of h.records []) r rest ∙ input_then h.records (r ++ rest))
          ∙ ap (λ (rs : List (List ℕ)). played (first_from started) a rs) (records_input h.records (r ++ rest) h.full)
          ∙ goes_on (records_of (r ++ rest))
          ∙ ap (λ (q : Played). and_then (played (first_from started) a h.records) q) (last_read n b r k rest (λ l. e (ends l)) over)

      all_read : Consumes had has' (input_of h.records [] ++ r)
      all_read = Consumes-trans had has has' (input_of h.records []) r h.read c

      pub whole_area : (most : ℕ) → IfSome had (λ input. length input < most → b' ≡ (played (first_from started) a (records_of input)).area)
      whole_area most = some_read had has' (input_of h.records [] ++ r) (λ input. length input < most → b' ≡ (played (first_from started) a (records_of input)).area) all_read
          (λ rest e l. v.1.0 ∙ ap (λ (q : Played). q.area) (sym (all_played rest e)))

      pub whole_text : (most : ℕ) (holds' : Option (List ℕ)) → Appends holds holds' (take end out') → IfSome had (λ input. length input < most → Appends held holds' (printed_from started a input))
      unfolding printed_from
      whole_text most holds' w = some_read had has' (input_of h.records [] ++ r) (λ input. length input < most → Appends held holds' (header ++ (played (first_from started) a (records_of input)).text)) all_read
          (λ rest e l. subst (Appends held holds') (more_text ∙ ap (λ (q : Played). header ++ q.text) (sym (all_played rest e))) (Appends-trans held holds holds' h.told (take end out') h.written w))

pub room_left : (long end at : ℕ) → most_text ≤ long → end ≤ long → at ≡ cond (ltb (long - end) most_text) 0 end → at + most_text ≤ long
room_left long end at h k e = rw e (go (ltb (long - end) most_text) refl)
  where
    go : (b : Bool) → ltb (long - end) most_text ≡ b → cond b 0 end + most_text ≤ long
    go true f = h
    go false f =
        let l : most_text ≤ long - end = ltb-false (long - end) most_text f in
        omega arith
