-- `scan::line_checks::sixteen_plain` meets its contract.
use Prim.Native.Nat.{◌+◌}
use native.Mathlib.Omega.{arith}
use Rattle.scan.specs.line_checks.LineEnds.{Plain}
use Rattle.scan.proofs.line_checks.PlainLaws.{plain-join, all_four}
use Rattle.scan.proofs.line_checks.sixteen_plain.Goals as goal

pub returns : goal.returns
returns c e =
    let t = all_four _ _ _ _ e in
    let a = c.args in
    let s = a.s.now in
    let eight : Plain s a.at (a.at + 8) = plain-join (c.four_plain.ensures t.0) (c.four_plain-2.ensures t.1) (omega arith) (omega arith) in
    let twelve : Plain s a.at (a.at + 12) = plain-join eight (c.four_plain-3.ensures t.2) (omega arith) (omega arith) in
    plain-join twelve (c.four_plain-4.ensures t.3) (omega arith) (omega arith)
