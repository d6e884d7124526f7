-- `clauses::checked_shape` meets its contract.
use Rattle.std.proofs.lemmas.Result.{err_from_is_err_and}
use Rattle.clauses.proofs.ShapeLaws.{checked_shape_lem, checked-sizes, checked_has}
use Rattle.clauses.proofs.checked_shape.Goals as goal

pub returns-in_err-s : goal.returns-in_err-s
returns-in_err-s c =
    let p = err_from_is_err_and c.from_residual.result c.from_residual.ensures.1 in
    rw (p.1, p.2) (record { shape = checked_shape_lem _ _ _ _ _ c.spot_of-main.ensures.spot c.spot_of-notes.ensures.spot c.in_err-s.ensures.shape; fits = tt })

pub pass_sizes-requires : goal.pass_sizes-requires
pass_sizes-requires c = let f = c.args.plane.fits in (c.in_ok-s.ensures.fits, f.rows)

pub returns-in_err-pass_sizes : goal.returns-in_err-pass_sizes
returns-in_err-pass_sizes c =
    let p = err_from_is_err_and c.from_residual-in_err-pass_sizes.result c.from_residual-in_err-pass_sizes.ensures.1 in
    rw (p.1, p.2) (record { shape = checked-sizes _ _ _ _ _ c.spot_of-main.ensures.spot c.spot_of-notes.ensures.spot c.in_ok-s.ensures.shape c.in_err-pass_sizes.ensures.sizes; fits = tt })

pub returns : goal.returns
returns c =
    record {
      shape = checked_has _ _ _ _ _ c.spot_of-main.ensures.spot c.spot_of-notes.ensures.spot c.in_ok-s.ensures.shape c.in_ok-pass_sizes.ensures.sizes;
      fits = c.pass_sizes.ensures.rules c.in_ok-pass_sizes.was;
    }
