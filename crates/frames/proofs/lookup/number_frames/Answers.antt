-- `frames::lookup::number_frames` meets its contract: the run is the rects of the numbers, and each turn numbers the next frame by the first of them that contains it.
use mathlib.Core.Path.{◌≡◌, ap, ◌∙◌}
use native.Mathlib.Omega.{arith}
use lib.ListN.{take}
use Rattle.lists.proofs.RunLaws.{length_run}
use Rattle.cells.specs.rects.Rects.{rect_at, rects_in}
use Rattle.frames.proofs.lookup.FirstLaws.{filled_take, number-few}
use Rattle.frames.proofs.lookup.NumberLaws.{numbering_next}
use Rattle.frames.proofs.lookup.number_frames.Goals as goal
use Rattle.frames.proofs.lookup.number_frames.Goals.{After-fill}

run_is : (c : After-fill) → take c.args.rects.count c.fill.new.run ≡ rects_in c.args.rects
run_is c = ap (take c.args.rects.count) c.fill.ensures ∙ filled_take _ c.args.rects.numbers.now c.args.rects.count

pub put_number-i-requires : goal.put_number-i-requires
put_number-i-requires c =
    let a = c.args in
    let e = rw (run_is (goal.at.put_number-i-requires c).After-fill) at c.number_in-k.ensures in
    let k = number-few (rects_in a.rects) c.seek-s.result.frame in (
      omega (arith, c.loop-i.invariant.long, c.requires.1),
      omega (arith, e, k, length_run (rect_at a.rects.numbers.now) 0 a.rects.count, c.requires.0),
    )

pub loop-i-preserved : goal.loop-i-preserved
loop-i-preserved c =
    let e = run_is (goal.at.loop-i-preserved c).After-fill in
    let to = rw e at c.live-from.ensures in
    (numbering_next c.loop-i.invariant c.loop-i-test.true c.requires.1 c.seek-s.ensures _ to.1 to.2 _ (rw e at c.number_in-k.ensures) _ _ c.put_number-i.ensures c.put_number-i.auto.found).1
