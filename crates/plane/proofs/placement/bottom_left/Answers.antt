-- `plane::placement::bottom_left` meets its contract.
use Rattle.std.proofs.lemmas.Result.{err_from_is_err_and}
use Rattle.plane.proofs.placement.CornerLaws.{bottom-corner, bottom-refused}
use Rattle.plane.proofs.placement.bottom_left.Goals as goal

pub returns-in-Some : goal.returns-in-Some
returns-in-Some c =
    bottom-corner _ _ _ c.requires _ (rw c.in-Some.is at c.in_ok-p.ensures)

pub returns-in-None : goal.returns-in-None
returns-in-None c =
    bottom-corner _ _ _ c.requires _ (rw c.in-None.is at c.in_ok-p.ensures)

pub returns-in_err-p : goal.returns-in_err-p
returns-in_err-p c =
    let p = err_from_is_err_and c.from_residual.result c.from_residual.ensures.1 in
    rw (p.1, p.2) (bottom-refused _ _ _ c.requires _ c.in_err-p.ensures)
