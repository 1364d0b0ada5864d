use Rattle.std.proofs.Common.{◌≡◌, ◌-◌, ◌<◌, ◌≤◌, ℕ, true, arith, refl, sym, ap, ◌∙◌, subst, ltb, length, take}
use lib.ListN.{length-replicate, length-take}
use Rattle.record.specs.declared.Progress.{Progress}
use Rattle.record.specs.Text.{most_text}
use Rattle.stream.specs.Left.{LeftBySome, first_from, most_records}
use Rattle.stream.proofs.ReadLaws.{read_long}
use Rattle.stream.proofs.InputLaws.{first_from_lem, read_within, turn_small, run_first, run_room, run_more, left_none, left_whole, left_by, whole_area, whole_text, never_over, room_left}
use Rattle.stream.proofs.play_input.Given as given
use Rattle.stream.proofs.play_input.Goals as goal
use Rattle.stream.proofs.play_input.Goals.{In-Ok, Joined-then-turn-eq0, then-turn-eq0-via-then-turn-eq0, then-turn-eq0-via-else-turn-eq0+then-turn}

-- after a turn the area is left by some records
turn_left : (g : given.Over) (c : In-Ok g) → LeftBySome c.args.started c.args.area.now c.play_next.new.area
turn_left g c =
    let e = c.in-Ok.ensures in
    left_by c.loop.invariant.6 _ _ (read_within _ c.play_next.new.bytes e.read) e.bytes (e.next, (e.left, e.text)) (omega (arith, c.loop.invariant.4, c.loop.invariant.2))

-- what ends a run is the end of the input, or a bad record
turn_last : (g : given.Over) (c : Joined-then-turn-eq0 g) → 0 < length (take c.in-Ok.turn.read c.play_next.new.bytes) → c.in-Ok.turn.progress.over ≡ true
turn_last g c p = elim c.then-turn-eq0.branch [
  | then-turn-eq0-via-then-turn-eq0 w ↦ absurd (omega (arith, length-take {A = ℕ}))
  | then-turn-eq0-via-else-turn-eq0+then-turn w ↦ w.if-turn.true
]

pub returns-in_err-write_all-clause-left : goal.returns-in_err-write_all-clause-left
returns-in_err-write_all-clause-left g c = left_none c.args.started c.args.area.now

pub loop-init : goal.loop-init
unfolding first_from
loop-init g c =
    let p = c.put_header-head in
    let first = first_from_lem c.first_progress.result c.args.started c.first_progress.ensures in (
      omega arith,
      refl,
      omega (arith, p.auto.out, length-replicate {A = ℕ} 65536 0),
      sym (length-replicate {A = ℕ} 16 0),
      omega arith,
      omega (arith, ap (λ (u : Progress). u.number) first),
      rw first (run_first c.args.started c.args.area.now _ _ _ _ p.new.out p.result p.ensures c.in_ok-write_all.ensures.bytes),
    )

pub returns-in_err-write_all-in-Err-clause-left : goal.returns-in_err-write_all-in-Err-clause-left
returns-in_err-write_all-in-Err-clause-left g c = subst (LeftBySome _ _) (sym c.in-Err.ensures.failed.0) (left_whole c.loop.invariant.6)

pub returns-in-Err-clause-left : goal.returns-in-Err-clause-left
returns-in-Err-clause-left g c = subst (LeftBySome _ _) (sym c.in-Err.ensures.failed.0) (left_whole c.loop.invariant.6)

pub returns-in_err-write_all-2-clause-left : goal.returns-in_err-write_all-2-clause-left
returns-in_err-write_all-2-clause-left g c = turn_left g (goal.at.returns-in_err-write_all-2-clause-left g c).In-Ok

pub returns-then-turn-eq0-clause-left : goal.returns-then-turn-eq0-clause-left
returns-then-turn-eq0-clause-left g c = turn_left g (goal.at.returns-then-turn-eq0-clause-left g c).In-Ok

pub returns-then-turn-eq0-clause-whole : goal.returns-then-turn-eq0-clause-whole
returns-then-turn-eq0-clause-whole g c =
    let e = c.in-Ok.ensures in
    let l = c.loop in
    let long = read_long c.in-Ok.turn.read c.play_next.new.bytes l.bytes e.read c.play_next.auto.bytes l.invariant.3 in
    whole_area l.invariant.6 _ _ (read_within _ c.play_next.new.bytes e.read) e.bytes (e.next, (e.left, e.text)) (omega (arith, l.invariant.4, l.invariant.2))
    (λ f. e.end (omega (arith, long, f))) (turn_last g (goal.at.returns-then-turn-eq0-clause-whole g c).Joined-then-turn-eq0) most_records

pub returns-then-turn-eq0-clause-printed : goal.returns-then-turn-eq0-clause-printed
returns-then-turn-eq0-clause-printed g c =
    let e = c.in-Ok.ensures in
    let l = c.loop in
    let long = read_long c.in-Ok.turn.read c.play_next.new.bytes l.bytes e.read c.play_next.auto.bytes l.invariant.3 in
    whole_text l.invariant.6 _ _ (read_within _ c.play_next.new.bytes e.read) e.bytes (e.next, (e.left, e.text)) (omega (arith, l.invariant.4, l.invariant.2))
    (λ f. e.end (omega (arith, long, f))) (turn_last g (goal.at.returns-then-turn-eq0-clause-printed g c).Joined-then-turn-eq0) most_records _ c.in_ok-write_all-2.ensures.bytes

pub returns-in_err-at-clause-left : goal.returns-in_err-at-clause-left
returns-in_err-at-clause-left g c = turn_left g (goal.at.returns-in_err-at-clause-left g c).In-Ok

pub loop-preserved : goal.loop-preserved
loop-preserved g c =
    let e = c.in-Ok.ensures in
    let bytes = c.play_next.new.bytes in
    let out = c.play_next.new.out in
    let turn = c.in-Ok.turn in
    let l = c.loop in
    let long = read_long turn.read bytes l.bytes e.read c.play_next.auto.bytes l.invariant.3 in
    let filled : 65536 ≡ length out = l.invariant.2 ∙ sym c.play_next.auto.out in
    let small = turn_small l.progress l.area bytes l.out l.at turn.read e.read long turn.progress c.play_next.new.area out turn.end (e.next, (e.left, e.text)) in
    let within : turn.end ≤ length out = omega (arith, small.0, l.invariant.4, filled) in
    let some : 0 < length (take turn.read bytes) = omega (arith, long, c.if-turn-eq0.false) in
    let run = run_more l.invariant.6 _ _ (read_within _ bytes e.read) e.bytes (e.next, (e.left, e.text)) (omega (arith, l.invariant.4, l.invariant.2)) some c.if-turn.false in (
      omega arith,
      c.play_next.auto.area ∙ l.invariant.1,
      filled,
      l.invariant.3 ∙ sym c.play_next.auto.bytes,
      omega (arith, room_left (length out) turn.end c.in_ok-at.at (omega (arith, filled)) within c.in_ok-at.ensures.place, filled),
      omega (arith, small.1, l.invariant.5),
      run_room run (ltb (length out - turn.end) most_text) c.in_ok-at.ensures.place c.in_ok-at.ensures.text,
    )

pub returns-in_err-write_all-3-clause-left : goal.returns-in_err-write_all-3-clause-left
returns-in_err-write_all-3-clause-left g c = left_whole c.loop.invariant.6

pub returns-clause-left : goal.returns-clause-left
returns-clause-left g c = left_whole c.loop.invariant.6

pub returns-clause-whole : goal.returns-clause-whole
returns-clause-whole g c = never_over c.loop.invariant.6 most_records _ (omega arith)

pub returns-clause-printed : goal.returns-clause-printed
returns-clause-printed g c = never_over c.loop.invariant.6 most_records _ (omega arith)
