-- `plane::rule_numbers::numbers_right` meets its contract.
use Prim.Native.Nat.{◌-◌}
use borrow.Author.Tests.{lt-ltb, le-ltb}
use Rattle.std.proofs.lemmas.Result.{err_from_is_err_and}
use Rattle.plane.proofs.rule_numbers.HeldLaws.{held-row}
use Rattle.plane.proofs.rule_numbers.NumbersLaws.{right-told, right-refused}
use native.Mathlib.Omega.{arith}
use Rattle.plane.proofs.rule_numbers.numbers_right.Goals as goal

pub count_behind-requires : goal.count_behind-requires
count_behind-requires c =
    let r = c.args.sheet.plane.rows - 1 in
    rw c.width.ensures (held-row c.args.sheet.held r (omega (arith, c.requires)))

pub returns-then-m-gt0 : goal.returns-then-m-gt0
returns-then-m-gt0 c =
    rw (lt-ltb 0 c.in_ok-m.m c.if-m-gt0.true) at (right-told _ _ _ c.requires _ (rw c.width.ensures at c.in_ok-m.ensures))

pub returns : goal.returns
returns c =
    rw (le-ltb 0 c.in_ok-m.m c.if-m-gt0.false) at (right-told _ _ _ c.requires _ (rw c.width.ensures at c.in_ok-m.ensures))

pub returns-in_err-m : goal.returns-in_err-m
returns-in_err-m c =
    let p = err_from_is_err_and c.from_residual.result c.from_residual.ensures.1 in
    rw (p.1, p.2) (right-refused _ _ _ c.requires _ (rw c.width.ensures at c.in_err-m.ensures))
