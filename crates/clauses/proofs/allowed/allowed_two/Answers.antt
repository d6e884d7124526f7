-- `clauses::allowed::allowed_two` meets its contract.
use Rattle.std.proofs.lemmas.Result.{err_from_is_err_and}
use Rattle.clauses.proofs.allowed.AllowedLaws.{two_inputs, two_outputs, two_apart_lem, two_told}
use Rattle.clauses.proofs.allowed.allowed_two.Goals as goal

pub returns-in_err-inputs : goal.returns-in_err-inputs
returns-in_err-inputs c =
    let p = err_from_is_err_and c.from_residual.result c.from_residual.ensures.1 in
    rw (p.1, p.2) (two_inputs _ _ _ c.in_err-inputs.ensures)

pub returns-in_err-outputs : goal.returns-in_err-outputs
returns-in_err-outputs c =
    let p = err_from_is_err_and c.from_residual-in_err-outputs.result c.from_residual-in_err-outputs.ensures.1 in
    rw (p.1, p.2) (two_outputs _ _ _ c.in_ok-inputs.ensures c.in_err-outputs.ensures)

pub returns-in_err-apart : goal.returns-in_err-apart
returns-in_err-apart c =
    let p = err_from_is_err_and c.from_residual-in_err-apart.result c.from_residual-in_err-apart.ensures.1 in
    rw (p.1, p.2) (two_apart_lem _ _ _ c.in_ok-inputs.ensures c.in_ok-outputs.ensures c.in_err-apart.ensures)

pub returns : goal.returns
returns c = two_told _ _ _ c.in_ok-inputs.ensures c.in_ok-outputs.ensures c.in_ok-apart.ensures c.allowed_by.ensures
