-- `plane::numerals::unsigned_number` meets its contract.
use Rattle.plane.proofs.numerals.NumberLaws.{digits_low, digits-high, digits_over, digits_more, digits_done}
use native.Mathlib.Omega.{arith}
use Rattle.plane.proofs.numerals.unsigned_number.Goals as goal

pub returns-then-c-lt48 : goal.returns-then-c-lt48
returns-then-c-lt48 c = digits_low c.loop-c.invariant c.loop-c-test.true c.if-c-lt48.true

pub returns-then-c-gt57 : goal.returns-then-c-gt57
returns-then-c-gt57 c = digits-high c.loop-c.invariant c.loop-c-test.true c.if-c-gt57.true

pub returns-then-d-a : goal.returns-then-d-a
returns-then-d-a c = digits_over c.loop-c.invariant c.loop-c-test.true c.if-c-lt48.false c.if-c-gt57.false (omega arith)

pub loop-c-preserved : goal.loop-c-preserved
loop-c-preserved c = digits_more c.loop-c.invariant c.loop-c-test.true c.if-c-lt48.false c.if-c-gt57.false c.from-d.result c.from-d.ensures (omega arith)

pub returns : goal.returns
returns c = digits_done c.loop-c.invariant c.loop-c-test.false
