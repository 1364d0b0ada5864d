-- Document 01, "State", and document 02, T-02 and T-06: a page in a slot, a row's deadline, whether a row has begun and a row's place in the begin order of its level, as docs/LAYOUT.md lays them out.
use Rattle.std.specs.Prelude.{List, ℕ, ◌+◌, ◌*◌}
use Rattle.words.specs.Bytes.{word_at}

-- the words of a slot: the first says that a page is in it, the second which
abbrev pub filled_word : List ℕ → ℕ → ℕ
filled_word a slot = word_at a (2560 + slot * 64)

abbrev pub page_word : List ℕ → ℕ → ℕ
page_word a slot = word_at a (2560 + slot * 64 + 8)

-- the fourth word of a row is its deadline
abbrev pub deadline_word : List ℕ → ℕ → ℕ
deadline_word a row = word_at a (512 + row * 64 + 24)

-- 1 if a row has begun since the start, else 0
abbrev pub begun_word : List ℕ → ℕ
begun_word a = word_at a 64

-- the place of a row in the begin order of its level, from 1; 0 where it is free
abbrev pub place_word : List ℕ → ℕ → ℕ
place_word a row = word_at a (72 + row * 8)
