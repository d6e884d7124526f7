-- `canvas::body_layer::body_code` meets its contract.
use borrow.Author.Tests.{eq-eqb, ne_eqb, lt-ltb, le-ltb}
use Rattle.canvas.specs.body_layer.Body.{body_code}
use Rattle.canvas.proofs.body_layer.body_code.Goals as goal

pub returns-then-y-top : goal.returns-then-y-top
unfolding body_code
returns-then-y-top c = simp (lt-ltb _ _ c.if-y-top.true)

pub returns-then-y-top-2 : goal.returns-then-y-top-2
unfolding body_code
returns-then-y-top-2 c = simp (le-ltb _ _ c.if-y-top.false, eq-eqb _ _ c.if-y-top-2.true) c.top_code.ensures

pub returns-then-top-y : goal.returns-then-top-y
unfolding body_code
returns-then-top-y c = simp (le-ltb _ _ c.if-y-top.false, ne_eqb _ _ c.if-y-top-2.false, lt-ltb _ _ c.if-top-y.true)

pub returns : goal.returns
unfolding body_code
returns c = simp (le-ltb _ _ c.if-y-top.false, ne_eqb _ _ c.if-y-top-2.false, le-ltb _ _ c.if-top-y.false)
