use Rattle.replay.proofs.Replaying.{Between}
use Rattle.replay.proofs.replay.Given as goal

abbrev pub invariant-loop : goal.invariant-loop
invariant-loop g l = Between l.initial.input l.input l.count
