use Rattle.text_planes.proofs.texts.PartPutting.{Encoding}
use Rattle.text_planes.proofs.texts.put_part.Given as goal

abbrev pub invariant-loop-i : goal.invariant-loop-i
invariant-loop-i l = Encoding l.part l.initial.bytes l.at l.bytes l.i l.p
