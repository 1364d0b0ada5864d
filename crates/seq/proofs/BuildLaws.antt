-- An array filled by a loop with a function of the place.
use mathlib.Core.Path.{◌≡◌}
use Prim.Native.Nat.{ℕ, ◌<◌}
use lib.ListN.{get_or, replicate, length-replicate}
use Rattle.seq.specs.Each.{each}
use Rattle.seq.proofs.EachLaws.{each_at}

module _ {A : Type 0} (f : ℕ → A) (n : ℕ) (d : A) where
  pub build_at : (i : ℕ) (e : A) → i < n → get_or (each (λ k _. f k) (replicate n d)) i e ≡ f i
  build_at i e h = each_at (λ k _. f k) (replicate n d) i e (rw (length-replicate n d) h)
