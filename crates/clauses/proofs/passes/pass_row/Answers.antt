-- `clauses::passes::pass_row` meets its contract.
use native.Mathlib.Omega.{arith}
use Rattle.std.proofs.lemmas.Result.{err_from_is_err_and}
use Rattle.clauses.proofs.passes.PassLaws.{fine-ok, fine_not, pass-start, pass_end, pass_stop, pass-next}
use Rattle.clauses.proofs.passes.pass_row.Goals as goal

pub loop-i-init : goal.loop-i-init
loop-i-init c = pass-start _ _ _ _ (omega arith)

pub returns-in_err-region_at : goal.returns-in_err-region_at
returns-in_err-region_at c =
    let p = err_from_is_err_and c.from_residual.result c.from_residual.ensures.1 in
    rw (p.1, p.2) (pass_stop c.loop-i.invariant (omega arith) (fine_not _ _ _ c.in_err-region_at.ensures))

pub loop-i-preserved : goal.loop-i-preserved
loop-i-preserved c =
    pass-next c.loop-i.invariant (omega arith) (fine-ok _ _ _ c.in_ok-region_at.ensures) _ (omega arith)

pub returns : goal.returns
returns c = pass_end c.loop-i.invariant (omega arith)
