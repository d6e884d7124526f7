use Prim.Native.Nat.{◌-◌, ◌*◌}
use Rattle.model.specs.Layers.{picture_of}
use Rattle.walks.specs.Frame.{frame_of}
use Rattle.walks.specs.Kinds.{thin}
use Rattle.frames.proofs.regions.RegionLaws.{Adding}
use Rattle.frames.proofs.regions.regions_within.Given as goal

abbrev pub invariant-loop-i : goal.invariant-loop-i
invariant-loop-i l = let k = l.layer in
    Adding (frame_of thin (picture_of k) k.width k.height) k.codes.now k.width k.height l.initial.rects l.rects l.i l.n

abbrev pub decreases-loop-i : goal.decreases-loop-i
decreases-loop-i l = l.layer.height * l.layer.width - l.i
