-- `plane::rule_numbers::rule_numbers` meets its contract.
use mathlib.Core.Path.{◌∙◌}
use borrow.Author.Tests.{lt-ltb, le-ltb}
use Rattle.std.proofs.lemmas.Result.{err_from_is_err_and}
use Rattle.plane.proofs.rule_numbers.HeldLaws.{held-column}
use Rattle.plane.proofs.rule_numbers.NumbersLaws.{left-told, left-refused}
use Rattle.plane.proofs.rule_numbers.rule_numbers.Goals as goal

pub count_behind-requires : goal.count_behind-requires
count_behind-requires c = held-column c.args.sheet.held

pub returns-then-m-gt0 : goal.returns-then-m-gt0
returns-then-m-gt0 c =
    rw (lt-ltb 0 c.in_ok-m.m c.if-m-gt0.true) at (left-told _ _ _ _ c.in_ok-m.ensures)

pub returns : goal.returns
returns c =
    c.numbers_right.ensures
    ∙ (rw (le-ltb 0 c.in_ok-m.m c.if-m-gt0.false) at (left-told _ _ _ _ c.in_ok-m.ensures))

pub returns-in_err-m : goal.returns-in_err-m
returns-in_err-m c =
    let p = err_from_is_err_and c.from_residual.result c.from_residual.ensures.1 in
    rw (p.1, p.2) (left-refused _ _ _ _ c.in_err-m.ensures)
