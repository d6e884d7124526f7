use Rattle.cells.specs.rects.Rects.{rect_at}
use Rattle.text_planes.proofs.texts.TextPutting.{Joining}
use Rattle.text_planes.proofs.texts.put_text.Given as goal

abbrev pub invariant-loop-y : goal.invariant-loop-y
invariant-loop-y l = Joining l.text.width l.text.height l.text.codes.now (rect_at l.rects.numbers.now l.k) l.bottom l.initial.bytes l.start l.bytes l.y l.at
