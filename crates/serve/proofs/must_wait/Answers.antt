use mathlib.Core.Path.{◌≡◌, refl, ◌∙◌}
use mathlib.Core.Bool.{Bool, false, ◌&&◌}
use Prim.Native.Nat.{◌<◌}
use native.Mathlib.Omega.{arith}
use Rattle.std.proofs.Common.{rules}
use borrow.Author.Tests.{tests}
use lib.ListN.{length, get_or}
use Rattle.std.specs.List.{zip}
use Rattle.std.proofs.lemmas.Iterator.{YieldsList-from_slice, YieldsList-from_zip}
use Rattle.std.proofs.lemmas.Slice.Zip.{get_or-zip, length-zip}
use Rattle.seq.proofs.IterLaws.{any_is}
use Rattle.model.specs.declared.Rank.{Rank}
use Rattle.model.specs.Parties.{better}
use Rattle.model.specs.Inner.Changed.{marked}
use Rattle.choice.specs.Inner.Summary.{no_rank}
use Rattle.serve.specs.Inner.SlotHoldings.{must_wait_in}
use Rattle.serve.proofs.must_wait.Goals as goal

pub returns : goal.returns
unfolding must_wait_in
returns c =
    let a = c.args in
    let marks = a.marks.now in
    let ranks = a.ranks.now in
    let n : length (zip marks ranks) ≡ 32 = length-zip marks ranks ∙ rw (c.told-marks, c.told-ranks) refl in
    any_is c.any.new.self _ c.any.result (λ other. marked marks other && better (get_or ranks other no_rank) (get_or ranks a.q.row no_rank))
    (λ (x : Bool × Rank). x.0 && better x.1 (get_or ranks a.q.row no_rank))
    (YieldsList-from_zip (YieldsList-from_slice marks (cc)) (YieldsList-from_slice ranks (cc)))
    (false, no_rank)
    (λ k h. let b : k < 32 = rw n at h in rw (get_or-zip marks ranks k (false, no_rank) (omega arith) (omega arith)) refl)
    (λ x b q k. (search (rules, tests), search (rules, tests)))
    c.any.ensures.ran
    ∙ rw n refl
