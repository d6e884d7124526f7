-- `clauses::allowed::is_among` meets its contract.
use Rattle.clauses.proofs.allowed.MetLaws.{look_start, look_found, look_on, look_end}
use Rattle.clauses.proofs.allowed.is_among.Goals as goal

pub loop-i-init : goal.loop-i-init
loop-i-init c = look_start _ _ _ _ _

pub returns-then-plane-y : goal.returns-then-plane-y
returns-then-plane-y c = look_found c.loop-i.invariant c.loop-i-test.true c.if-plane-y.true

pub loop-i-preserved : goal.loop-i-preserved
loop-i-preserved c = look_on c.loop-i.invariant c.loop-i-test.true c.if-plane-y.false

pub returns : goal.returns
returns c = look_end c.loop-i.invariant c.loop-i-test.false
