-- `answers::sketch::put_layers` meets its contract.
use mathlib.Core.Path.{sym}
use Rattle.model.specs.Layers.{picture_of}
use Rattle.print.proofs.WrittenLaws.{written_then, written_within, written_as}
use Rattle.answers.specs.sketch.Drawings.{thin_title, body_title, grid_title, layers_lines}
use Rattle.answers.proofs.sketch.LayerLaws.{layer_as}
use native.Mathlib.Omega.{arith}
use Rattle.answers.proofs.sketch.put_layers.Goals as goal

pub returns : goal.returns
unfolding layers_lines
returns g c =
    let a = c.args in
    let thin = written_as c.put_layer-2.ensures (layer_as thin_title (picture_of a.thins) (sym c.requires.2.columns) (sym c.requires.2.rows)) in
    let body = written_as c.put_layer-3.ensures (layer_as body_title (picture_of a.bodies) (sym c.requires.3.columns) (sym c.requires.3.rows)) in
    let grid = written_as c.put_layer-4.ensures (layer_as grid_title (picture_of a.grid) (sym c.requires.4.columns) (sym c.requires.4.rows)) in
    written_within
    (written_then c.put_layer.ensures (written_then thin (written_then body grid)))
    (omega (arith, c.requires.1.rows, c.requires.2.rows, c.requires.3.rows, c.requires.4.rows))
