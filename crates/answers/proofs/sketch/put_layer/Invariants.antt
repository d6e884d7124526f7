use Rattle.model.specs.Layers.{picture_of}
use Rattle.answers.proofs.sketch.LayerLaws.{Layering}
use Rattle.answers.proofs.sketch.put_layer.Given as goal

abbrev pub invariant-loop-y : goal.invariant-loop-y
invariant-loop-y g l = Layering l.initial.out.items (picture_of l.layer) l.layer.width l.layer.height l.out.items l.y
