-- `text_planes::step::add_grid_rows` meets its contract.
use Rattle.std.proofs.lemmas.Result.{err_from_is_err_and}
use mathlib.Core.Path.{◌∙◌}
use Rattle.text_planes.proofs.step.RowsLaws.{growing_start, growing_more, growing_out, growing_end}
use Rattle.text_planes.proofs.step.add_grid_rows.Goals as goal

pub loop-y-init : goal.loop-y-init
loop-y-init c = growing_start _ _ _ _ _ _ _ c.requires

pub add_grid_row-requires : goal.add_grid_row-requires
add_grid_row-requires c = c.loop-y-test.true

pub returns-in_err-s : goal.returns-in_err-s
returns-in_err-s c =
    let p = err_from_is_err_and c.from_residual.result c.from_residual.ensures.1 in
    let i = c.loop-y.invariant in
    rw (p.1, p.2) (record { made = growing_out i c.loop-y-test.true _ _ c.add_grid_row.ensures.made _ c.in_err-s.was; same = c.add_grid_row.ensures.same ∙ i.slice })

pub loop-y-preserved : goal.loop-y-preserved
loop-y-preserved c =
    growing_more c.loop-y.invariant c.loop-y-test.true _ _ c.add_grid_row.ensures.made c.add_grid_row.ensures.same _ c.in_ok-s.was

pub returns : goal.returns
returns c = let q = c.loop-y.invariant in record { made = growing_end q c.loop-y-test.false; same = q.slice }
