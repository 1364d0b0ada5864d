-- Lists written on a sheet one after another.
use mathlib.Core.Path.{refl, ◌∙◌}
use mathlib.Core.List.{List, [], ◌++◌}
use Prim.Native.Nat.{ℕ, ◌≤◌}
use native.Mathlib.Omega.{arith}
use lib.ListN.{length}
use Rattle.words.proofs.WroteLaws.{wrote_none, wrote_more}
use Rattle.record.specs.declared.Sheet.{Sheet}
use Rattle.record.specs.Inner.Put.{Put}

pub put_none : (s : Sheet) → s.end ≤ length s.out.now → Put s [] s
put_none s h = record { same = refl; long = refl; within = h; wrote = wrote_none s.out.now s.end }

pub put_more : {s t u : Sheet} {xs ys : List ℕ} → Put s xs t → Put t ys u → Put s (xs ++ ys) u
put_more {s} {t} {u} {xs} {ys} p q = record {
  same = q.same ∙ p.same;
  long = q.long ∙ p.long;
  within = omega (arith, q.within, p.long);
  wrote = wrote_more s.out.now t.out.now u.out.now s.end t.end u.end xs ys p.wrote q.wrote p.within;
}
