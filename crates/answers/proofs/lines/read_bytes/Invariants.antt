use Rattle.answers.proofs.lines.Reading.{Reading}
use Rattle.answers.proofs.lines.read_bytes.Given as goal

abbrev pub invariant-loop : goal.invariant-loop
invariant-loop g l = Reading l.s l.count l.text.items l.at l.counter
