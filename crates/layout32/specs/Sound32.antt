-- Document 02, T-07: a sound area of the last 32-bit layout, as it was before ticks had 64 bits.
use Rattle.std.specs.Prelude.{Bool, ◌&&◌, List, ℕ, leb, length}
use Rattle.model.specs.declared.State.{State}
use Rattle.rules.specs.Sound.{sound}
use Rattle.layout32.specs.Layout.{decoded, exact}

-- the last tick that the clock had
abbrev pub last_clock32 : ℕ
last_clock32 = 4000000000

-- sound, with that last tick
unfoldable pub sound32 : State → Bool
sound32 s = sound s && leb s.clock last_clock32

-- the area is long enough, its first 65,536 bytes are exactly those of the state that they name, and that state is sound
unfoldable pub sound_area32 : List ℕ → Bool
sound_area32 a = leb 65536 (length a) && (exact a && sound32 (decoded a))
