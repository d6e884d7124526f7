-- `frames::outline::recognize_table` meets its contract.
use Rattle.std.proofs.lemmas.Result.{err_from_is_err_and}
use mathlib.Core.Path.{sym, ◌∙◌}
use Prim.Native.Nat.{◌/◌, ◌%◌}
use Rattle.lists.proofs.PlaceLaws.{column_in, row_in_lem}
use Rattle.frames.proofs.outline.OutlineLaws.{walk_fits, table_made, no_body}
use native.Mathlib.Omega.{arith}
use Rattle.frames.proofs.outline.recognize_table.Goals as goal

pub returns-in_err-body : goal.returns-in_err-body
returns-in_err-body c =
    let p = err_from_is_err_and c.from_residual.result c.from_residual.ensures.1 in
    rw (p.1, p.2) (no_body _ _ _ _ _ _ (sym c.recognize_body.ensures ∙ c.in_err-body.was))

pub crossed-right-requires : goal.crossed-right-requires
crossed-right-requires c =
    let l = c.args.layer in
    walk_fits _ _ _ _ (c.args.cross % l.width) c.crossing_right.result (omega (arith, column_in l.width l.height c.args.cross c.requires, c.well_formed)) c.crossing_right.ensures

pub crossed-below-requires : goal.crossed-below-requires
crossed-below-requires c =
    let l = c.args.layer in
    walk_fits _ _ _ _ (c.args.cross / l.width) c.crossing_below.result (omega (arith, row_in_lem l.width l.height c.args.cross c.requires, c.well_formed)) c.crossing_below.ensures

pub returns : goal.returns
returns c =
    table_made _ _ _ _ _ _ (sym c.recognize_body.ensures ∙ c.in_ok-body.was) c.crossing_right.result c.crossing_below.result
    c.crossed-right.ensures c.crossing_right.ensures c.crossed-below.ensures c.crossing_below.ensures
