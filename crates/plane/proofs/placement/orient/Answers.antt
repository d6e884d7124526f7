-- `plane::placement::orient` meets its contract.
use Rattle.std.proofs.lemmas.Result.{err_from_is_err_and}
use Rattle.plane.specs.placement.Orientation.{oriented_of}
use Rattle.plane.proofs.placement.CornerLaws.{placed-rows}
use Rattle.plane.proofs.placement.orient.Goals as goal

pub returns-in_err-p : goal.returns-in_err-p
unfolding oriented_of
returns-in_err-p c =
    let p = err_from_is_err_and c.from_residual.result c.from_residual.ensures.1 in
    rw (p.1, p.2, ← c.in_err-p.ensures)

pub rule_numbers-requires : goal.rule_numbers-requires
rule_numbers-requires c = placed-rows _ _ _ _ c.in_ok-p.ensures

pub returns-in_err-m : goal.returns-in_err-m
unfolding oriented_of
returns-in_err-m c =
    let p = err_from_is_err_and c.from_residual-in_err-m.result c.from_residual-in_err-m.ensures.1 in
    rw (p.1, p.2, ← c.in_ok-p.ensures, ← c.in_err-m.ensures)

pub returns : goal.returns
unfolding oriented_of
returns c =
    rw (← c.in_ok-p.ensures, ← c.in_ok-m.ensures, ← c.holds-horizontal.ensures, ← c.holds-vertical.ensures) c.oriented_by.ensures
