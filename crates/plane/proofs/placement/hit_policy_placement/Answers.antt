-- `plane::placement::hit_policy_placement` meets its contract.
use mathlib.Core.Path.{◌∙◌}
use native.Mathlib.Omega.{arith}
use Rattle.std.proofs.lemmas.Result.{err_from_is_err_and}
use Rattle.plane.proofs.placement.CornerLaws.{no_rows, top-corner, top-refused}
use Rattle.plane.proofs.placement.hit_policy_placement.Goals as goal

pub returns-then-plane-eq0 : goal.returns-then-plane-eq0
returns-then-plane-eq0 c = no_rows _ _ _ c.if-plane-eq0.true

pub returns-in-Some : goal.returns-in-Some
returns-in-Some c =
    top-corner _ _ _ (omega arith) _ (rw c.in-Some.is at c.in_ok-p.ensures)

pub returns-in-None : goal.returns-in-None
returns-in-None c =
    c.bottom_left.ensures
    ∙ top-corner _ _ _ (omega arith) _ (rw c.in-None.is at c.in_ok-p.ensures)

pub returns-in_err-p : goal.returns-in_err-p
returns-in_err-p c =
    let p = err_from_is_err_and c.from_residual.result c.from_residual.ensures.1 in
    rw (p.1, p.2) (top-refused _ _ _ (omega arith) _ c.in_err-p.ensures)
