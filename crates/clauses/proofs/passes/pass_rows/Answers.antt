-- `clauses::passes::pass_rows` meets its contract.
use mathlib.Core.Path.{refl, ◌∙◌}
use native.Mathlib.Omega.{arith}
use Rattle.std.proofs.lemmas.Result.{err_from_is_err_and}
use Rattle.clauses.proofs.passes.PassLaws.{fine-rows, pass-start, pass_end, pass_stop, pass-next}
use Rattle.clauses.proofs.passes.pass_rows.Goals as goal

pub loop-k-init : goal.loop-k-init
loop-k-init c = pass-start _ _ _ _ refl

pub returns-in_err-pass_row : goal.returns-in_err-pass_row
returns-in_err-pass_row c =
    let i = c.loop-k.invariant in
    let p = err_from_is_err_and c.from_residual.result c.from_residual.ensures.1 in
    rw (p.1, p.2) (pass_stop i (omega (arith, i.from)) c.in_err-pass_row.ensures ∙ fine-rows _ _ _ _ _)

pub loop-k-preserved : goal.loop-k-preserved
loop-k-preserved c =
    let i = c.loop-k.invariant in
    pass-next i (omega (arith, i.from)) c.in_ok-pass_row.ensures _ refl

pub returns : goal.returns
returns c = let i = c.loop-k.invariant in pass_end i (omega (arith, i.from)) ∙ fine-rows _ _ _ _ _
