-- `answers::lines::read_bytes` meets its contract.
use Rattle.answers.proofs.lines.Reading.{reading_start, reading_cut, reading_bad, reading_more, reading_left, reading_end, byte_small}
use native.Mathlib.Omega.{arith}
use Rattle.answers.proofs.lines.read_bytes.Goals as goal

pub loop-init : goal.loop-init
loop-init g c = reading_start c.clear.ensures

pub returns-then-s-at : goal.returns-then-s-at
returns-then-s-at g c = reading_cut c.loop.invariant c.loop-test.true c.if-s-at.true

pub returns-in_err-b : goal.returns-in_err-b
returns-in_err-b g c = rw c.from_residual.ensures (reading_bad c.loop.invariant c.loop-test.true c.if-s-at.false c.find-end.ensures c.in_err-b.ensures)

pub push-requires : goal.push-requires
push-requires g c = omega (arith, c.loop.invariant.long, c.loop-test.true, c.requires)

pub overflow_cast-b : goal.overflow_cast-b
overflow_cast-b g c = omega (arith, byte_small _ c.in_ok-b.ensures)

pub loop-preserved : goal.loop-preserved
loop-preserved g c = reading_more c.loop.invariant c.loop-test.true c.if-s-at.false c.find-end.ensures c.in_ok-b.ensures c.push.ensures.items

pub returns-then-at-s : goal.returns-then-at-s
returns-then-at-s g c = reading_left c.loop.invariant c.loop-test.false c.if-at-s.true

pub returns : goal.returns
returns g c = reading_end c.loop.invariant c.loop-test.false c.if-at-s.false
