-- `clauses::allowed::allowed_by` meets its contract.
use borrow.Author.Tests.{not-true, not-false}
use Rattle.clauses.proofs.allowed.allowed_by.Goals as goal

pub returns-then-not-inputs : goal.returns-then-not-inputs
returns-then-not-inputs c = rw (not-true c.args.inputs c.if-not-inputs.true-raw)

pub returns-then-has : goal.returns-then-has
returns-then-has c =
    let a = c.args in
    rw (not-false a.inputs c.if-not-inputs.false-raw, c.if-has.true)

pub returns-then-not-several : goal.returns-then-not-several
returns-then-not-several c =
    let a = c.args in
    rw (not-false a.inputs c.if-not-inputs.false-raw, c.if-has.false, not-true a.several c.if-not-several.true-raw)

pub returns-then-outputs : goal.returns-then-outputs
returns-then-outputs c =
    let a = c.args in
    rw (not-false a.inputs c.if-not-inputs.false-raw, c.if-has.false, not-false a.several c.if-not-several.false-raw, c.if-outputs.true)

pub returns : goal.returns
returns c =
    let a = c.args in
    rw (not-false a.inputs c.if-not-inputs.false-raw, c.if-has.false, not-false a.several c.if-not-several.false-raw, c.if-outputs.false)
