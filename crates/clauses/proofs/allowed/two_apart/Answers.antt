-- `clauses::allowed::two_apart` meets its contract.
use Rattle.std.proofs.lemmas.Result.{err_from_is_err_and}
use Rattle.clauses.proofs.allowed.MetLaws.{apart_out, apart_not, apart_below}
use Rattle.clauses.proofs.allowed.two_apart.Goals as goal

pub returns-then-t : goal.returns-then-t
returns-then-t c =
    apart_below _ _ _ _ c.row_apart-then-t.result (rw c.if-t.true at c.in_ok-t.ensures) c.row_apart-then-t.ensures

pub returns : goal.returns
returns c = apart_not _ _ _ (rw c.if-t.false at c.in_ok-t.ensures)

pub returns-in_err-t : goal.returns-in_err-t
returns-in_err-t c =
    let p = err_from_is_err_and c.from_residual.result c.from_residual.ensures.1 in
    rw (p.1, p.2) (apart_out _ _ _ c.in_err-t.ensures)
