-- `scan::line_checks::four_plain` meets its contract.
use Prim.Native.Nat.{◌+◌}
use native.Mathlib.Omega.{arith}
use Rattle.scan.specs.line_checks.LineEnds.{Plain}
use Rattle.scan.proofs.line_checks.PlainLaws.{plain_one, plain-join, all_four}
use Rattle.scan.proofs.line_checks.four_plain.Goals as goal

pub returns : goal.returns
returns c e =
    let t = all_four _ _ _ _ e in
    let a = c.args in
    let s = a.s.now in
    let two : Plain s a.at (a.at + 2) = plain-join (plain_one s _ (c.is_plain.ensures t.0)) (plain_one s _ (c.is_plain-2.ensures t.1)) (omega arith) (omega arith) in
    let three : Plain s a.at (a.at + 3) = plain-join two (plain_one s _ (c.is_plain-3.ensures t.2)) (omega arith) (omega arith) in
    plain-join three (plain_one s _ (c.is_plain-4.ensures t.3)) (omega arith) (omega arith)
