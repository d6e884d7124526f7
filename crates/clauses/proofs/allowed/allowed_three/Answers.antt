-- `clauses::allowed::allowed_three` meets its contract.
use Rattle.std.proofs.lemmas.Result.{err_from_is_err_and}
use Rattle.clauses.proofs.allowed.AllowedLaws.{three_inputs, three_no_inputs, three_outputs, three_no_outputs, three_told}
use Rattle.clauses.proofs.allowed.allowed_three.Goals as goal

pub returns-in_err-columns_are : goal.returns-in_err-columns_are
returns-in_err-columns_are c =
    let p = err_from_is_err_and c.from_residual.result c.from_residual.ensures.1 in
    rw (p.1, p.2) (three_inputs _ _ _ c.in_err-columns_are.ensures)

pub returns-then-not-branch : goal.returns-then-not-branch
returns-then-not-branch c = three_no_inputs _ _ _ c.in_ok-columns_are.ensures c.if-not-branch.true-raw

pub returns-in_err-columns_are-2 : goal.returns-in_err-columns_are-2
returns-in_err-columns_are-2 c =
    let p = err_from_is_err_and c.from_residual-in_err-columns_are-2.result c.from_residual-in_err-columns_are-2.ensures.1 in
    rw (p.1, p.2) (three_outputs _ _ _ c.in_ok-columns_are.ensures c.if-not-branch.false-raw c.in_err-columns_are-2.ensures)

pub returns-then-not-branch-2 : goal.returns-then-not-branch-2
returns-then-not-branch-2 c =
    three_no_outputs _ _ _ c.in_ok-columns_are.ensures c.if-not-branch.false-raw c.in_ok-columns_are-2.ensures c.if-not-branch-2.true-raw

pub returns : goal.returns
returns c =
    three_told _ _ _ c.in_ok-columns_are.ensures c.if-not-branch.false-raw c.in_ok-columns_are-2.ensures c.if-not-branch-2.false-raw
