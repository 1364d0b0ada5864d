-- For the code; proved equal to the bytes of the changed state, proofs/Amends.antt: the version, and what a call makes of the begin orders, of the clock, of the borders and of whether a row has begun, written over the header, and the holdings of some
-- rows with zeros, in all 64 slots.
use Rattle.std.specs.Prelude.{Bool, cond, List, [], ◌∷◌, ℕ, zero, suc, ◌+◌, ◌*◌}
use Rattle.words.specs.Bytes.{spliced, word_bytes, zero_words}
use Rattle.model.specs.declared.Setting.{Setting}
use Rattle.model.specs.declared.Setting.TheVariants.{Left, Begun, Ended, Set}
use Rattle.model.specs.Inner.Changed.{places_after}
use Rattle.area.specs.Layout.{version, places_bytes, places_from}

-- the places in the begin orders
unfoldable pub places_put : Setting → List ℕ → List ℕ
places_put x a = spliced a 72 (places_bytes (places_after x (places_from a)))

-- the same, where a row begins or ends
unfoldable pub order_put : Setting → List ℕ → List ℕ
order_put Left a = a
order_put (Begun row place) a = places_put (Begun row place) a
order_put (Ended row) a = places_put (Ended row) a
order_put (Set first second third) a = a

-- the version and the clock
unfoldable pub header_put : ℕ → List ℕ → List ℕ
header_put clock a = spliced (spliced a 8 (word_bytes (version ∷ []))) 32 (word_bytes (clock ∷ []))

-- the borders, and the mark that a row has begun
unfoldable pub setting_put : Setting → List ℕ → List ℕ
setting_put Left a = a
setting_put (Begun row place) a = spliced a 64 (word_bytes (1 ∷ []))
setting_put (Ended row) a = a
setting_put (Set first second third) a = spliced a 40 (word_bytes (first ∷ second ∷ third ∷ []))

-- the holdings of a row on the first n slots
unfoldable pub row_dropped : ℕ → ℕ → List ℕ → List ℕ
row_dropped row zero a = a
row_dropped row (suc n) a = spliced (row_dropped row n a) (6656 + (n * 32 + row) * 24) (zero_words 3)

-- the holdings of those of the first n rows that pass a test
unfoldable pub rows_dropped : (ℕ → Bool) → ℕ → List ℕ → List ℕ
rows_dropped some zero a = a
rows_dropped some (suc n) a = cond (some n) (row_dropped n 64 (rows_dropped some n a)) (rows_dropped some n a)
