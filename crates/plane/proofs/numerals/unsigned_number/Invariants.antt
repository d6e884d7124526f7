use Rattle.plane.proofs.numerals.NumberLaws.{Digits}
use Rattle.plane.proofs.numerals.unsigned_number.Given as goal

abbrev pub invariant-loop-c : goal.invariant-loop-c
invariant-loop-c l = Digits l.s l.c-index l.a
