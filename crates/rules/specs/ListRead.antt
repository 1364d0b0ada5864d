-- Document 02, T-04, "8 bytes for each row so made ready or fetching, in turn (level, row, slot, back flag 1 for none or 2, then big-endian page and page written back or 0), the rest zero": what the bytes of a list say, read back.
use Rattle.std.specs.Prelude.{cond, List, [], ◌∷◌, ℕ, zero, suc, ◌+◌, ◌*◌, eqb, get_or, drop, None, Some}
use Rattle.model.specs.Parties.{row_of}
use Rattle.rules.specs.Tries.{Fill}

-- two bytes from a place on, the higher first
abbrev pub two_bytes : List ℕ → ℕ → ℕ
two_bytes bytes at = get_or bytes at 0 * 256 + get_or bytes (at + 1) 0

-- what the entry says that some bytes begin with: its level and row number, its slot, its page, and where the flag is 2 the page written back
unfoldable pub entry_in : List ℕ → Fill
entry_in bytes = record {
  row = row_of (get_or bytes 0 0) (get_or bytes 1 0);
  slot = get_or bytes 2 0;
  page = two_bytes bytes 4;
  back = cond (eqb (get_or bytes 3 0) 2) (Some (two_bytes bytes 6)) None;
}

-- the entries at n places of 8 bytes, in turn, up to the first place whose flag is 0
unfoldable pub entries_in : ℕ → List ℕ → List Fill
entries_in zero bytes = []
entries_in (suc n) bytes = cond (eqb (get_or bytes 3 0) 0) [] (entry_in bytes ∷ entries_in n (drop 8 bytes))

-- what a list says was filled: its first 256 bytes have 32 places
unfoldable pub fills_in : List ℕ → List Fill
fills_in list = entries_in 32 list
