-- Document 01, "The parties": rows, classes, the access rule and its table, priority; of document 02, T-01, when a deadline has passed, T-02, the borders of the classes, and T-06, priority among equal deadlines.
use Rattle.std.specs.Prelude.{Bool, true, false, cond, ◌&&◌, List, [], ◌∷◌, ℕ, ◌+◌, ◌*◌, ◌/◌, ◌%◌, leb, ltb, eqb, get_or}
use Rattle.seq.specs.Order.{lex_less}
use Rattle.model.specs.declared.Mode.{Mode}
use Rattle.model.specs.declared.Mode.TheVariants.{Read, Write}
use Rattle.model.specs.declared.Rank.{Rank}
use Rattle.model.specs.declared.Borders.{Borders}

-- each level has eight rows of its own, numbers 0 to 7; over all levels a row is one number below 32
abbrev pub row_of : ℕ → ℕ → ℕ
row_of level number = level * 8 + number

abbrev pub level_of : ℕ → ℕ
level_of row = row / 8

abbrev pub number_of : ℕ → ℕ
number_of row = row % 8

-- class 0 lies below the first border, class 1 below the second, class 2 below the third, class 3 at or above it
unfoldable pub class_of : Borders → ℕ → ℕ
class_of b page = cond (ltb page b.first) 0 (cond (ltb page b.second) 1 (cond (ltb page b.third) 2 3))

-- the borders until others are set
abbrev pub usual_borders : Borders
usual_borders = record { first = 1024; second = 2048; third = 3072 }

-- borders that do not fall and do not exceed 4,096
unfoldable pub are_borders : Borders → Bool
are_borders b = leb b.first b.second && leb b.second b.third && leb b.third 4096

-- mode 0 is read, 1 is write
abbrev pub mode_of : ℕ → Mode
mode_of mode = cond (eqb mode 0) Read Write

abbrev pub mode_number : Mode → ℕ
mode_number Read = 0
mode_number Write = 1

-- reading needs level ≥ class; writing needs level ≤ class (Bell-LaPadula)
unfoldable pub allowed : ℕ → ℕ → Mode → Bool
allowed level class Read = leb class level
allowed level class Write = leb level class

-- all 32 pairings in one constant table, a line for each level: its verdict on each class, to read and to write
unfoldable pub access_table : List Bool
access_table =
    true ∷ true ∷ false ∷ true ∷ false ∷ true ∷ false ∷ true
    ∷ true ∷ false ∷ true ∷ true ∷ false ∷ true ∷ false ∷ true
    ∷ true ∷ false ∷ true ∷ false ∷ true ∷ true ∷ false ∷ true
    ∷ true ∷ false ∷ true ∷ false ∷ true ∷ false ∷ true ∷ true ∷ []

-- the table's entry for a level and a class up to 3
unfoldable pub table_entry : ℕ → ℕ → Mode → Bool
table_entry level class mode = get_or access_table (level * 8 + class * 2 + mode_number mode) false

-- the access to a page
abbrev pub may_access : Borders → ℕ → ℕ → Mode → Bool
may_access b level page mode = allowed level (class_of b page) mode

-- the last tick of the clock
abbrev pub last_clock : ℕ
last_clock = 9000000000000000000

-- a deadline is missed when it has passed: the clock is above it
abbrev pub is_past : ℕ → ℕ → Bool
is_past clock deadline = ltb deadline clock

-- a row's rank is what priority compares: level, then deadline, then who began earlier, by the place in the begin order of the level
abbrev pub rank_of : ℕ → ℕ → ℕ → Rank
rank_of row deadline place = record { level = level_of row; deadline = deadline; place = place }

-- priority: smaller is better
unfoldable pub better : Rank → Rank → Bool
better x y =
    lex_less x.level y.level
    (lex_less x.deadline y.deadline (ltb x.place y.place))
