-- `canvas::body_layer::body_at` meets its contract.
use Rattle.canvas.proofs.body_layer.body_at.Goals as goal

pub returns : goal.returns
returns c = record { bodies_after = rw c.body-c.ensures; grid_after = rw c.body-c.ensures }
