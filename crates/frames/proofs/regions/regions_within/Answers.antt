-- `frames::regions::regions_within` meets its contract.
use Rattle.std.proofs.lemmas.Result.{err_from_is_err_and}
use Rattle.std.proofs.lemmas.List.{length-take-le}
use Prim.Native.Nat.{◌*◌}
use Rattle.frames.proofs.regions.CornerLaws.{next_within}
use Rattle.frames.proofs.regions.RegionLaws.{adding_start, adding_more, adding_out, adding_end}
use native.Mathlib.Omega.{arith}
use Rattle.frames.proofs.regions.regions_within.Goals as goal

pub next_corner-i-requires : goal.next_corner-i-requires
next_corner-i-requires c = omega arith

pub loop-i-init : goal.loop-i-init
loop-i-init c = let l = c.args.layer in adding_start _ _ _ _ _ _ (next_within _ _ _ _ l.sized c.next_corner-i.ensures)

pub add_within-requires : goal.add_within-requires
add_within-requires c =
    (c.requires.0, c.loop-i-test.true, omega (arith, c.requires.1, c.loop-i.invariant.long))

pub returns-in_err-n : goal.returns-in_err-n
returns-in_err-n c =
    let p = err_from_is_err_and c.from_residual.result c.from_residual.ensures.1 in
    rw (p.1, p.2) (adding_out c.loop-i.invariant c.loop-i-test.true _ _ c.add_within.ensures _ c.in_err-n.was)

pub next_corner-i-requires-in-loop-i : goal.next_corner-i-requires-in-loop-i
next_corner-i-requires-in-loop-i c =
    let l = c.args.layer in
    omega (arith, c.loop-i-test.true, length-take-le (l.height * l.width) l.codes.now l.sized)

pub loop-i-smaller : goal.loop-i-smaller
loop-i-smaller c = omega (arith, c.loop-i-test.true, c.next_corner-i-in-loop-i.ensures.from)

pub loop-i-preserved : goal.loop-i-preserved
loop-i-preserved c =
    adding_more c.loop-i.invariant c.loop-i-test.true _ _ c.add_within.ensures _ c.in_ok-n.was c.add_within.auto.rects _ (next_within _ _ _ _ c.args.layer.sized c.next_corner-i-in-loop-i.ensures)

pub returns : goal.returns
returns c = adding_end c.loop-i.invariant c.loop-i-test.false
