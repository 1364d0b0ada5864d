use mathlib.Core.Path.{refl, ap}
use mathlib.Core.Bool.{not}
use native.Mathlib.Omega.{arith}
use lib.Dec.{eqb}
use Prim.Native.Nat.{ℕ}
use Rattle.area.proofs.AreaSteps.{decode_state, exact_tests}
use Rattle.area.proofs.decode.Goals as goal

pub returns : goal.returns
returns c =
    let a = c.args.a.now in
    let s = c.fresh_state-s in
    let begun = ap (λ (n : ℕ). not (eqb n 0)) c.word-4.ensures in
    let state = decode_state a s.result _ _ s.ensures _ c.word.ensures c.word-2.ensures refl refl c.word-3.ensures c.get_borders-s.ensures begun
    c.read_all-places.ensures.read c.read_all-rows.ensures.read c.read_all-slots.ensures.read c.read_all-holdings.ensures.read in (
      state,
      exact_tests a s.result _ _ s.ensures (λ i. omega (arith, c.type_inv.a i)) c.requires _ _ _ _ _ _ state c.is_frame.ensures
          c.read_all-places.ensures.exact c.read_all-rows.ensures.exact c.read_all-slots.ensures.exact c.read_all-holdings.ensures.exact,
    )
