-- `frames::regions::add_within` meets its contract.
use mathlib.Core.Path.{sym, ◌∙◌}
use Rattle.model.specs.Layers.{picture_of}
use Rattle.walks.specs.Frame.{frame_of}
use Rattle.walks.specs.Kinds.{thin}
use Rattle.frames.specs.regions.Regions.{Finder}
use Rattle.frames.proofs.regions.RegionLaws.{has_room, no_room}
use native.Mathlib.Omega.{arith}
use Rattle.frames.proofs.regions.add_within.Goals as goal
use Rattle.frames.proofs.regions.add_within.Goals.{Start}

abbrev found : Start → Finder
found s = let l = s.args.layer in frame_of thin (picture_of l) l.width l.height

pub returns-then-n-ge-REGIONS : goal.returns-then-n-ge-REGIONS
returns-then-n-ge-REGIONS c =
    let a = c.args in
    sym (no_room (found (goal.at.returns-then-n-ge-REGIONS c).Start) a.layer.width a.i a.rects.now a.n c.if-n-ge-REGIONS.true)

pub add_region-requires : goal.add_region-requires
add_region-requires c =
    (c.requires.0, c.requires.1, omega (arith, c.requires.2, c.if-n-ge-REGIONS.false))

pub returns : goal.returns
returns c =
    let a = c.args in
    c.add_region.ensures ∙ sym (has_room (found (goal.at.returns c).Start) a.layer.width a.i a.rects.now a.n c.if-n-ge-REGIONS.false)
