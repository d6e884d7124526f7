-- `canvas::body_layer::shaded_code` meets its contract.
use borrow.Author.Tests.{lt-ltb, le-ltb}
use Rattle.canvas.specs.body_layer.Body.{shaded_code}
use Rattle.canvas.proofs.body_layer.shaded_code.Goals as goal

pub returns-then-y-top : goal.returns-then-y-top
unfolding shaded_code
returns-then-y-top c = simp (lt-ltb _ _ c.if-y-top.true)

pub returns : goal.returns
unfolding shaded_code
returns c = simp (le-ltb _ _ c.if-y-top.false)
