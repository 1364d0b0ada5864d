-- Document 02, T-04, the player: what an accepted tick prints is its clock line, and a line for each fill of the tick, in turn.
use mathlib.Core.Path.{◌≡◌, refl, sym, ◌∙◌, ap}
use mathlib.Core.Bool.{true, false}
use mathlib.Core.List.{List, [], ◌∷◌, ◌++◌, append_assoc}
use Prim.Native.Nat.{ℕ, zero, suc, ◌+◌, ◌*◌, ◌-◌, ◌/◌, ◌%◌, ◌<◌, ◌≤◌}
use native.Mathlib.Omega.{arith}
use lib.ListN.{length, get_or, drop, replicate, length-append, length-replicate, get_or-replicate, get_or-append}
use lib.Seq.{drop-append-add}
use Rattle.words.specs.Bytes.{joined}
use Rattle.words.proofs.JoinLaws.{joined_same, joined_add}
use Rattle.model.specs.declared.Answer.TheVariants.{Clock}
use Rattle.std.specs.Prelude.{Option, None, Some}
use Rattle.model.specs.declared.Call.TheVariants.{Tick}
use Rattle.model.specs.Parties.{level_of, number_of}
use Rattle.rules.specs.Answers.{word, value, slot_told, back_told, page_back}
use Rattle.rules.specs.Run.{fills_of}
use Rattle.rules.specs.Tries.{Fill, entry_bytes, entries, list_bytes}
use Rattle.rules.proofs.Leaves.ListLaws.{fills_most, entries_length}
use Rattle.area.specs.Layout.{decoded}
use Rattle.sabre.specs.Lent.{answer_on, list_after, answer_numbers}
use Rattle.std.specs.Prelude.{Some}
use Rattle.record.specs.declared.Progress.{Progress}
use Rattle.record.specs.Record.{big_endian, field, list_length, record_of}
use Rattle.record.specs.Text.{line_of, fill_numbers, fill_line, fill_lines}
use Rattle.record.specs.FillText.{fill_text, fill_texts}
use Rattle.record.specs.Play.{admitted, answer_to, zero_list, list_with, played_record, played_one}
use Rattle.record.proofs.RecordLaws.{field_more}
use Rattle.record.proofs.TextLaws.{fill_back, fill_alone}

joined_one : (f : ℕ → List ℕ) → joined 1 f ≡ f 0
unfolding joined
joined_one f = refl

none_joined : (n : ℕ) → joined {A = ℕ} n (λ i. []) ≡ []
unfolding joined
none_joined zero = refl
none_joined (suc n) = rw (none_joined n)

-- ---- the fields of an entry

entry_long : (f : Fill) → length (entry_bytes f) ≡ 8
unfolding entry_bytes
entry_long f = refl

-- a field past some bytes
field_past : (xs list : List ℕ) (at from n : ℕ) → from ≡ length xs + at → field (xs ++ list) from n ≡ field list at n
unfolding field
field_past xs list at from n e = rw (e, drop-append-add xs list at)

-- a byte of zeros
zero_field : (m at : ℕ) (rest : List ℕ) → at < m → field (replicate m 0 ++ rest) at 1 ≡ 0
unfolding field big_endian
zero_field m at rest h =
    let b : at + 0 < m = omega arith in
    let l : at + 0 < length (replicate {A = ℕ} m 0) = rw (length-replicate {A = ℕ} m 0) b in
    let z : get_or (replicate m 0 ++ rest) (at + 0) 0 ≡ 0 = get_or-append (replicate m 0) rest 0 (at + 0) l ∙ get_or-replicate m (at + 0) 0 0 b in
    field_more (replicate m 0 ++ rest) at 0 (rw length-append (omega arith)) ∙ rw z (omega arith)

-- a byte, and two, as a number
one_byte : (b : ℕ) → b ≡ 0 * 256 + b
one_byte b = omega arith

two_bytes_lem : (x : ℕ) → x ≡ (0 * 256 + x / 256) * 256 + x % 256
two_bytes_lem x = omega arith

-- the numbers of the first entry
entry_numbers : (row slot page : ℕ) (back : Option ℕ) (rest : List ℕ)
    → 20 ∷ row ∷ (slot + 1) ∷ page_back back ∷ [] ≡ fill_numbers (entry_bytes (record { row = row; slot = slot; page = page; back = back }) ++ rest) 0
unfolding field big_endian entry_bytes
entry_numbers row slot page back rest = go back
  where
    bytes : Option ℕ → List ℕ
    bytes back = entry_bytes (record { row = row; slot = slot; page = page; back = back }) ++ rest

    r : row ≡ level_of row * 8 + number_of row
    r = omega arith

    go : (back : Option ℕ) → 20 ∷ row ∷ (slot + 1) ∷ page_back back ∷ [] ≡ fill_numbers (bytes back) 0
    go None =
        ap (λ (n : ℕ). 20 ∷ n ∷ (slot + 1) ∷ 0 ∷ []) r
        ∙ fill_alone (bytes None) 0 (level_of row) (number_of row) slot 1 (one_byte (level_of row)) (one_byte (number_of row)) (one_byte slot) (one_byte 1) (λ q. omega arith)
    go (Some written) =
        ap (λ (n : ℕ). 20 ∷ n ∷ (slot + 1) ∷ (written + 1) ∷ []) r
        ∙ fill_back (bytes (Some written)) 0 (level_of row) (number_of row) slot 2 (one_byte (level_of row)) (one_byte (number_of row)) (one_byte slot) (one_byte 2) written (two_bytes_lem written) refl

-- ---- the lines

module _ (number : ℕ) where
  -- the line of the first entry
  first_line : (f : Fill) (rest : List ℕ) → fill_line number (entry_bytes f ++ rest) 0 ≡ fill_text number f
  unfolding fill_line fill_text field big_endian entry_bytes
  first_line f rest = go f.back
    where
      go : (back : Option ℕ) → let g : Fill = record { row = f.row; slot = f.slot; page = f.page; back = back } in fill_line number (entry_bytes g ++ rest) 0 ≡ fill_text number g
      go None = ap (line_of number) (sym (entry_numbers f.row f.slot f.page None rest))
      go (Some written) = ap (line_of number) (sym (entry_numbers f.row f.slot f.page (Some written) rest))

  -- and those of the others
  next_line : (xs list : List ℕ) → length xs ≡ 8 → (i : ℕ) → fill_line number (xs ++ list) (1 + i) ≡ fill_line number list i
  unfolding fill_line fill_numbers
  next_line xs list h i =
      rw (
        field_past xs list (i * 8) ((1 + i) * 8) 1 (omega arith),
        field_past xs list (i * 8 + 1) ((1 + i) * 8 + 1) 1 (omega arith),
        field_past xs list (i * 8 + 2) ((1 + i) * 8 + 2) 1 (omega arith),
        field_past xs list (i * 8 + 3) ((1 + i) * 8 + 3) 1 (omega arith),
        field_past xs list (i * 8 + 6) ((1 + i) * 8 + 6) 2 (omega arith),
      )

  -- places that are zero have no lines
  zero_lines : (n m : ℕ) (rest : List ℕ) → n * 8 ≤ m → joined n (fill_line number (replicate m 0 ++ rest)) ≡ []
  unfolding fill_line
  zero_lines n m rest h =
      joined_same n (fill_line number (replicate m 0 ++ rest)) (λ i. []) (λ i b. rw (zero_field m (i * 8 + 3) rest (omega arith)))
      ∙ none_joined n

  entry_lines : (n : ℕ) (fs : List Fill) (m : ℕ) (rest : List ℕ) → length fs ≤ n → (n - length fs) * 8 ≤ m
      → joined n (fill_line number (entries fs ++ (replicate m 0 ++ rest))) ≡ fill_texts number fs
  unfolding entries fill_texts
  entry_lines n [] m rest h k = zero_lines n m rest (omega arith)
  entry_lines zero (f ∷ fs) m rest h k = absurd (omega arith)
  entry_lines (suc n) (f ∷ fs) m rest h k =
      let more : List ℕ = entries fs ++ (replicate m 0 ++ rest) in
      let line : ℕ → List ℕ = fill_line number (entry_bytes f ++ more) in
      let one : suc n ≡ 1 + n = omega arith in
      let p : joined 1 line ≡ fill_text number f = joined_one line ∙ first_line f more in
      let q : joined n (λ i. line (1 + i)) ≡ fill_texts number fs =
      joined_same n (λ i. line (1 + i)) (fill_line number more) (λ i b. next_line (entry_bytes f) more (entry_long f) i) ∙ entry_lines n fs m rest (omega arith) (omega arith) in
      let both : joined 1 line ++ joined n (λ i. line (1 + i)) ≡ fill_text number f ++ fill_texts number fs = λ i. p i ++ q i in
      ap (λ (xs : List ℕ). joined (suc n) (fill_line number xs)) (append_assoc (entry_bytes f) (entries fs) (replicate m 0 ++ rest))
      ∙ ap (λ (k : ℕ). joined k line) one
      ∙ joined_add 1 n line
      ∙ both

  -- the bytes of at most 32 fills are printed as a line for each, in turn, whatever follows
  pub fills_printed : (fs : List Fill) (rest : List ℕ) → length fs ≤ 32 → fill_lines number (list_bytes fs ++ rest) ≡ fill_texts number fs
  unfolding fill_lines list_bytes
  fills_printed fs rest h =
      rw append_assoc (entry_lines 32 fs (256 - length (entries fs)) rest h (omega (arith, entries_length fs)))

-- the record of a tick that is accepted
pub tick_printed : (t : Progress) (a bytes : List ℕ) (clock : ℕ) → t.over ≡ false → t.started ≡ true → record_of bytes ≡ Some (Tick list_length) → answer_on a (Tick list_length) ≡ Clock clock
    → (played_one t a bytes).text ≡ line_of t.number (8 ∷ clock ∷ 0 ∷ 0 ∷ []) ++ fill_texts t.number (fills_of (decoded a) (Tick list_length))
unfolding played_one played_record admitted answer_to list_with list_after answer_numbers word value slot_told back_told
tick_printed t a bytes clock o s r e =
    rw (o, s, r, e)
    (ap (λ (xs : List ℕ). line_of t.number (8 ∷ clock ∷ 0 ∷ 0 ∷ []) ++ xs) (fills_printed t.number (fills_of (decoded a) (Tick list_length)) (drop 256 zero_list) (fills_most (decoded a) (Tick list_length))))
