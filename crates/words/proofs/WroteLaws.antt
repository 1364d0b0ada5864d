-- Lists written over a slice one after another, and a byte.
use mathlib.Core.Path.{◌≡◌, refl, ◌∙◌, sym}
use mathlib.Core.List.{List, [], ◌∷◌, ◌++◌}
use Prim.Native.Nat.{ℕ, ◌+◌, ◌<◌, ◌≤◌}
use native.Mathlib.Nat.{add-zero}
use native.Mathlib.Omega.{arith}
use lib.ListN.{length, set, length-append}
use lib.Seq.{sets-eq}
use Rattle.words.specs.Bytes.{spliced, Wrote}
use Rattle.words.proofs.SpliceLaws.{spliced_none, spliced_more}

pub set_spliced : (a : List ℕ) (at b : ℕ) → at < length a → set a at b ≡ spliced a at (b ∷ [])
set_spliced a at b h = sets-eq (b ∷ []) a at (omega arith)

pub wrote_none : (a : List ℕ) (at : ℕ) → Wrote a at [] a at
wrote_none a at = record { ends = sym (add-zero at); holds = spliced_none a at }

pub wrote_one : (a : List ℕ) (at b : ℕ) → at < length a → Wrote a at (b ∷ []) (set a at b) (at + 1)
wrote_one a at b h = record { ends = refl; holds = set_spliced a at b h }

-- a second list written where the first ends
pub wrote_more : (a b d : List ℕ) (at n m : ℕ) (xs ys : List ℕ) → Wrote a at xs b n → Wrote b n ys d m → n ≤ length a → Wrote a at (xs ++ ys) d m
wrote_more a b d at n m xs ys v w h = record {
  ends = rw (length-append xs ys) (omega (arith, v.ends, w.ends));
  holds = w.holds ∙ rw v.holds (spliced_more a at xs ys n (sym v.ends) h);
}
