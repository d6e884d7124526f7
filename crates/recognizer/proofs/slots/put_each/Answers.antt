-- `recognizer::slots::put_each` meets its contract.
use mathlib.Core.Path.{refl}
use native.Mathlib.Omega.{arith}
use Rattle.clauses.specs.Spelled.{join_run}
use Rattle.recognizer.proofs.slot_runs.SpeltLaws.{turning_start, turning_room, turning_more, turning_end, join_more}
use Rattle.recognizer.proofs.slots.put_each.Goals as goal

pub loop-i-init : goal.loop-i-init
unfolding join_run
loop-i-init g c = turning_start _ _ _ g.steps.size _ _ c.requires.1.0 (omega arith) refl

pub put-requires : goal.put-requires
put-requires g c = c.requires.1.1.0 _ _ c.loop-i-test.true (turning_room c.loop-i.invariant c.loop-i-test.true)

pub loop-i-preserved : goal.loop-i-preserved
loop-i-preserved g c =
    turning_more c.loop-i.invariant c.loop-i-test.true (c.requires.1.1.1 _ _ _ c.loop-i-test.true c.put.ensures) (g.steps.alike _) (join_more _ _)

pub returns : goal.returns
returns g c = turning_end c.loop-i.invariant c.loop-i-test.false
