-- `clauses::cell_tests::columns_are` meets its contract.
use Rattle.std.proofs.lemmas.Result.{err_from_is_err_and}
use Rattle.clauses.proofs.cell_tests.TestLaws.{every-start, every-out, every_not, every-next, every_end}
use Rattle.clauses.proofs.cell_tests.columns_are.Goals as goal

pub loop-i-init : goal.loop-i-init
loop-i-init c = every-start _ _ _

pub returns-then-not-branch : goal.returns-then-not-branch
returns-then-not-branch c =
    every_not c.loop-i.invariant c.loop-i-test.true c.in_ok-column_is.ensures c.if-not-branch.true-raw

pub returns-in_err-column_is : goal.returns-in_err-column_is
returns-in_err-column_is c =
    let p = err_from_is_err_and c.from_residual.result c.from_residual.ensures.1 in
    rw (p.1, p.2) (every-out c.loop-i.invariant c.loop-i-test.true c.in_err-column_is.ensures)

pub loop-i-preserved : goal.loop-i-preserved
loop-i-preserved c =
    every-next c.loop-i.invariant c.loop-i-test.true c.in_ok-column_is.ensures c.if-not-branch.false-raw

pub returns : goal.returns
returns c = every_end c.loop-i.invariant c.loop-i-test.false
