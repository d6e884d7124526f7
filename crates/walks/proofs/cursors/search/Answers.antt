-- `walks::cursors::search` meets its contract: a walk that ended well ended in the picture.
use native.Mathlib.Omega.{arith}
use Rattle.model.specs.Layers.{picture_of}
use Rattle.walks.proofs.cursors.CursorLaws.{fits}
use Rattle.walks.proofs.cursors.search.Goals as goal

pub onward-requires : goal.onward-requires
onward-requires c =
    let a = c.args in
    let l = a.layer in
    fits a.lines a.d (picture_of l) l.width l.height _ _ c.requires (omega (arith, c.well_formed)) (omega (arith, c.well_formed)) _ c.in_ok-k.ensures
