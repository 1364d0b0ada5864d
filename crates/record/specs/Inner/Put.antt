-- For the code; `Wrote`, of a sheet: the sheet t is s after a list was written on it.
use Rattle.std.specs.Prelude.{◌≡◌, List, ℕ, ◌≤◌, length}
use Rattle.words.specs.Bytes.{Wrote}
use Rattle.record.specs.declared.Sheet.{Sheet}

pub record Put (s : Sheet) (xs : List ℕ) (t : Sheet) : Type 0 where
  pub same : t.out.ghost_name ≡ s.out.ghost_name
  pub long : length t.out.now ≡ length s.out.now
  pub within : t.end ≤ length s.out.now
  pub wrote : Wrote s.out.now s.end xs t.out.now t.end
