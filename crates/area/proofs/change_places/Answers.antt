use mathlib.Core.Path.{◌≡◌, ◌∙◌, ap}
use mathlib.Core.List.{List}
use Prim.Native.Nat.{ℕ, ◌+◌, ◌*◌}
use lib.ListN.{length, replicate}
use Rattle.std.proofs.Common.{rules}
use Rattle.seq.specs.Each.{each}
use Rattle.words.specs.Bytes.{spliced, word_at}
use Rattle.model.specs.declared.Setting.{Setting}
use Rattle.model.specs.Inner.Changed.{places_after}
use Rattle.area.specs.Layout.{places_bytes, places_from, no_places}
use Rattle.area.specs.Inner.Writes.{places_put}
use Rattle.area.proofs.change_places.Goals as goal

changed_put : (x : Setting) (a b old new : List ℕ) → old ≡ each (λ i _. word_at a (72 + i * 8)) (replicate 32 0) → new ≡ places_after x old → b ≡ spliced a 72 (places_bytes new) → b ≡ places_put x a
unfolding places_put places_from no_places
changed_put x a b old new e f g = g ∙ ap (λ (l : List ℕ). spliced a 72 (places_bytes l)) (f ∙ ap (places_after x) e)

pub returns : goal.returns
returns c =
    let old = c.read_all.new.xs in
    let new = c.changed_places-new in
    let n : length new.result ≡ 32 = search rules in
    changed_put c.args.x c.args.a.now _ old new.result c.read_all.ensures.read new.ensures (c.put_all.ensures 0 ∙ rw n)
