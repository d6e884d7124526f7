-- `canvas::make_layers` meets its contract.
use mathlib.Core.Path.{ap, ◌∙◌}
use Rattle.lists.specs.Picture.{Picture, canvas}
use Rattle.canvas.specs.body_layer.Body.{body_picture}
use Rattle.canvas.specs.grid_layer.Grid.{grid_picture}
use Rattle.canvas.proofs.make_layers.Goals as goal

pub returns : goal.returns
returns c =
    let a = c.args in
    let t = a.text in
    let body = c.make_body.ensures.bodies_after ∙ ap (λ (T : Picture). body_picture a.r T (canvas t.width t.height a.bodies.now)) c.make_thin.ensures in
    record { thin = c.make_thin.ensures; body = body; grid = c.make_grid.ensures ∙ ap (grid_picture a.r) body }
