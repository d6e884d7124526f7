use Rattle.model.specs.Layers.{picture_of}
use Rattle.answers.proofs.sketch.LayerLaws.{Rowing}
use Rattle.answers.proofs.sketch.put_row.Given as goal

abbrev pub invariant-loop-x : goal.invariant-loop-x
invariant-loop-x g l = Rowing l.initial.out.items (picture_of l.layer) l.layer.width l.y l.out.items l.x
