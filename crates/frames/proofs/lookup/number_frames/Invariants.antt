-- The frames before place i are numbered.
use Rattle.std.proofs.Common.{◌-◌, ◌*◌}
use Rattle.model.specs.Layers.{picture_of}
use Rattle.walks.specs.Frame.{frame_of}
use Rattle.walks.specs.Kinds.{grid}
use Rattle.cells.specs.rects.Rects.{rects_in}
use Rattle.frames.proofs.lookup.NumberLaws.{Numbering}
use Rattle.frames.proofs.lookup.number_frames.Given as goal

abbrev pub invariant-loop-i : goal.invariant-loop-i
invariant-loop-i l =
    let k = l.layer in
    Numbering (frame_of grid (picture_of k) k.width k.height) (rects_in l.rects) k.codes.now k.width k.height l.initial.found l.i l.from l.found

abbrev pub decreases-loop-i : goal.decreases-loop-i
decreases-loop-i l = l.layer.height * l.layer.width - l.i
