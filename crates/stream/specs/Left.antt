-- Document 01, "The player": what a run leaves of an area, and what it prints.
use Rattle.std.specs.Prelude.{◌≡◌, Bool, false, List, ◌++◌, ℕ}
use Rattle.record.specs.declared.Progress.{Progress}
use Rattle.record.specs.Text.{header}
use Rattle.record.specs.Play.{played, records_of}

-- where a run begins, on an area that counts as started or not
unfoldable pub first_from : Bool → Progress
first_from started = record { started = started; over = false; number = 1 }

-- b is what a becomes by the records of some input. A player that reads nothing meets this too: of standard input no contract names the bytes. Of a reader that names its bytes, `play_input` says more.
pub record LeftBySome (started : Bool) (a b : List ℕ) : Type 0 where
  pub input : List ℕ
  pub left : b ≡ (played (first_from started) a (records_of input)).area

-- what a run prints for its whole input
unfoldable pub printed_from : Bool → List ℕ → List ℕ → List ℕ
printed_from started a input = header ++ (played (first_from started) a (records_of input)).text

-- how many records a run counts up to, which none reaches
abbrev pub most_records : ℕ
most_records = 576460752303423488
