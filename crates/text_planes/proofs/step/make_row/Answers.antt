-- `text_planes::step::make_row` meets its contract.
use Rattle.std.proofs.lemmas.Result.{err_from_is_err_and}
use native.Mathlib.Omega.{arith}
use Rattle.text_planes.proofs.step.RowLaws.{filling_start, filling_more, filling_out, filling_end}
use Rattle.text_planes.proofs.step.make_row.Goals as goal
use Rattle.text_planes.proofs.step.make_row.Goals.{Start}

pub corner_in_row-x-requires : goal.corner_in_row-x-requires
corner_in_row-x-requires c = (omega arith, c.requires)

pub loop-x-init : goal.loop-x-init
loop-x-init c = filling_start _ _ _ _ _ _ _ _ _ _ c.requires c.corner_in_row-x.ensures

pub add_frame-requires : goal.add_frame-requires
add_frame-requires c =
    let g = c.loop-x-test.true in
    (record { column = g; row = c.requires }, c.loop-x.invariant.fits, c.loop-x.invariant.starts g)

pub returns-in_err-s : goal.returns-in_err-s
returns-in_err-s c =
    let p = err_from_is_err_and c.from_residual.result c.from_residual.ensures.1 in
    let f = c.add_frame.ensures in
    let q = filling_out c.loop-x.invariant c.loop-x-test.true _ _ f.made f.kept _ c.in_err-s.was in
    rw (p.1, p.2) (record { made = q.0; fits = tt; kept = q.1 })

pub corner_in_row-x-requires-in-loop-x : goal.corner_in_row-x-requires-in-loop-x
corner_in_row-x-requires-in-loop-x c =
    (omega (arith, c.loop-x-test.true), c.requires)

pub loop-x-smaller : goal.loop-x-smaller
loop-x-smaller c = omega (arith, c.loop-x-test.true, c.corner_in_row-x-in-loop-x.ensures.from)

pub loop-x-preserved : goal.loop-x-preserved
loop-x-preserved c =
    let f = c.add_frame.ensures in
    filling_more c.loop-x.invariant c.loop-x-test.true _ _ f.made f.kept f.fits _ c.in_ok-s.was _ c.requires c.corner_in_row-x-in-loop-x.ensures

pub returns : goal.returns
returns c = let q = c.loop-x.invariant in record { made = filling_end q c.loop-x-test.false; fits = q.fits; kept = q.kept }
