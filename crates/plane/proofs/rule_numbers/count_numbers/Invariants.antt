use Rattle.cells.specs.Slices.{text_of}
use Rattle.plane.proofs.rule_numbers.CountLaws.{Counts}
use Rattle.plane.proofs.rule_numbers.count_numbers.Given as goal

abbrev pub invariant-loop-k : goal.invariant-loop-k
invariant-loop-k l = Counts (text_of l.sheet.texts) l.sheet.plane.cells.now l.line l.n l.from l.k l.m
