-- Document 02, T-04, "one `fill` line for each after the clock line, under the tick's number, its value being level × 8 + row, with its slot and page back": the lines of what a tick filled.
use Rattle.std.specs.Prelude.{List, [], ◌∷◌, ◌++◌, ℕ, ◌+◌}
use Rattle.rules.specs.Answers.{page_back}
use Rattle.rules.specs.Tries.{Fill}
use Rattle.record.specs.Text.{line_of}

-- the line of one fill: the word fill has number 20, and slot and page are told as in the line of an answer
unfoldable pub fill_text : ℕ → Fill → List ℕ
fill_text number f = line_of number (20 ∷ f.row ∷ (f.slot + 1) ∷ page_back f.back ∷ [])

-- a line for each, in turn
unfoldable pub fill_texts : ℕ → List Fill → List ℕ
fill_texts number [] = []
fill_texts number (f ∷ fs) = fill_text number f ++ fill_texts number fs
