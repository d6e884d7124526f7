use Rattle.text_planes.proofs.texts.Gathering.{Gathering}
use Rattle.text_planes.proofs.texts.gather.Given as goal

abbrev pub invariant-loop-k : goal.invariant-loop-k
invariant-loop-k l = Gathering l.text.width l.text.height l.text.codes.now l.rects l.initial.bytes l.initial.spans l.bytes l.spans l.k l.at
