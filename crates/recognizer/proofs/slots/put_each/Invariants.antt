use Rattle.clauses.specs.Spelled.{join_run}
use Rattle.recognizer.proofs.slot_runs.SpeltLaws.{Turning}
use Rattle.recognizer.specs.slots.ShapedTexts.{bytes_of}
use Rattle.recognizer.proofs.slots.put_each.Given as goal

abbrev pub invariant-loop-i : goal.invariant-loop-i
invariant-loop-i g l =
    Turning (bytes_of l.shaped) l.initial.out (join_run g.steps.texts 0) g.steps.size l.n l.out l.i
