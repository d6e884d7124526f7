-- `values::emphasis::first_marked` meets its contract.
use native.Mathlib.Omega.{arith}
use Rattle.values.proofs.emphasis.Finding.{finding_start, finding_fits, finding_hit, finding_last, finding_more}
use Rattle.values.proofs.emphasis.first_marked.Goals as goal

pub loop-at-init : goal.loop-at-init
loop-at-init c = finding_start

pub overflow_add-result : goal.overflow_add-result
overflow_add-result c =
    let b = c.in-Some.ensures in
    omega (arith, finding_fits c.loop-at.invariant c.part_end-end.ensures c.trim_utf8_part-t.ensures b, b.ordered)

pub overflow_add-result-in-Some : goal.overflow_add-result-in-Some
overflow_add-result-in-Some c =
    omega (arith, finding_fits c.loop-at.invariant c.part_end-end.ensures c.trim_utf8_part-t.ensures c.in-Some.ensures)

pub returns-in-Some : goal.returns-in-Some
returns-in-Some c =
    finding_hit c.loop-at.invariant c.part_end-end.ensures c.trim_utf8_part-t.ensures c.in-Some.ensures

pub returns-then-end-s : goal.returns-then-end-s
returns-then-end-s c =
    finding_last c.loop-at.invariant c.part_end-end.ensures c.trim_utf8_part-t.ensures c.in_default.ensures c.if-end-s.true

pub loop-at-preserved : goal.loop-at-preserved
loop-at-preserved c =
    finding_more c.loop-at.invariant c.part_end-end.ensures c.trim_utf8_part-t.ensures c.in_default.ensures c.if-end-s.false

pub returns : goal.returns
returns c = absurd (omega arith)
