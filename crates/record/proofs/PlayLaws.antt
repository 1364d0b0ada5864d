-- What a record played on an area comes to, the length of its text, and the next record's number; after a cut record the run is over.
use mathlib.Core.Path.{◌≡◌, refl, ◌∙◌}
use mathlib.Core.Bool.{Bool, true, false, cond}
use mathlib.Core.List.{List}
use Prim.Native.Nat.{ℕ, ◌+◌, ◌≤◌}
use native.Mathlib.Omega.{arith}
use lib.ListN.{length, get_or, length-append}
use Rattle.model.specs.declared.Call.{Call}
use Rattle.sabre.specs.Lent.{answer_numbers}
use Rattle.std.specs.Prelude.{Option, None}
use Rattle.record.specs.declared.Progress.{Progress}
use Rattle.record.specs.Record.{record_width, record_of}
use Rattle.record.specs.Text.{line_of, fill_lines, most_text}
use Rattle.record.specs.Play.{Played, is_bad, admitted, answer_to, area_with, zero_list, list_with, next_progress, played_record, unplayed, played_one}
use Rattle.words.specs.Bytes.{Wrote}
use Rattle.words.proofs.WroteLaws.{wrote_none, wrote_more}
use Rattle.record.proofs.RecordLaws.{cut}
use Rattle.record.proofs.TextLaws.{line_most, fill_lines_most}

-- a run came to what p says: its progress, the area, and the text written over out from a place on
abbrev pub Came : Played → Progress → (b out : List ℕ) (at : ℕ) (out' : List ℕ) (end : ℕ) → Type 0
Came p n b out at out' end = (n ≡ p.progress) × ((b ≡ p.area) × Wrote out at p.text out' end)

module _ (t : Progress) (a bytes out : List ℕ) (at : ℕ) where
  pub one_over : t.over ≡ true → Came (played_one t a bytes) t a out at out at
  unfolding played_one
  one_over e = rw e (refl, (refl, wrote_none out at))

  pub one_played : (y : Option Call) (ns b zeros list mid out' : List ℕ) (middle end : ℕ) (n : Progress) → t.over ≡ false → y ≡ admitted t.started (record_of bytes)
      → ns ≡ answer_numbers (answer_to a y) → b ≡ area_with a y → zeros ≡ zero_list → list ≡ list_with a zeros y
      → Wrote out at (line_of t.number ns) mid middle → Wrote mid middle (fill_lines t.number list) out' end → middle ≤ length out → n ≡ next_progress t y (get_or ns 0 0)
      → Came (played_one t a bytes) n b out at out' end
  unfolding played_one played_record answer_numbers
  one_played y ns b zeros list mid out' middle end n e k told left z listed v w h m =
      let o : played_one t a bytes ≡ played_record t a y = rw (e, k) in
      let both = wrote_more out mid out' at middle end (line_of t.number ns) (fill_lines t.number list) v w h in
      rw o (m ∙ rw told, (left, rw (told, listed, z) at both))

-- a record's text is short, and the numbers rise by one
pub one_small : (t : Progress) (a bytes : List ℕ) → (length (played_one t a bytes).text ≤ most_text) × ((played_one t a bytes).progress.number ≤ t.number + 1)
unfolding played_one played_record next_progress
one_small t a bytes = go t.over
  where
    r : Option Call
    r = admitted t.started (record_of bytes)

    go : (b : Bool) → let p = cond b (unplayed t a) (played_record t a r) in (length p.text ≤ most_text) × (p.progress.number ≤ t.number + 1)
    go true = (omega arith, omega arith)
    go false =
        (rw length-append (omega (arith, line_most t.number (answer_numbers (answer_to a r)), fill_lines_most t.number (list_with a zero_list r))), omega arith)

-- after a cut record the run is over
pub cut_over : (t : Progress) (a r : List ℕ) → (length r ≡ record_width r → ⊥) → (played_one t a r).progress.over ≡ true
unfolding played_one played_record next_progress admitted
cut_over t a r f = go t.over refl
  where
    bad : (s : Bool) → is_bad (admitted s None) ≡ true
    bad true = refl
    bad false = refl

    go : (b : Bool) → t.over ≡ b → (cond b (unplayed t a) (played_record t a (admitted t.started (record_of r)))).progress.over ≡ true
    go true e = e
    go false e = rw (← cut r f) (bad t.started)
