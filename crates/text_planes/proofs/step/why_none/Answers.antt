-- `text_planes::step::why_none` meets its contract.
use mathlib.Core.Path.{sym, ap, ◌∙◌}
use Rattle.text_planes.specs.step.Made.{no_region}
use Rattle.text_planes.proofs.step.why_none.Goals as goal

pub returns-in-Ok : goal.returns-in-Ok
returns-in-Ok c = ap no_region ((sym c.in-Ok.is) ∙ c.recognize_rectangle.ensures)

pub returns-in-Err : goal.returns-in-Err
returns-in-Err c = ap no_region ((sym c.in-Err.is) ∙ c.recognize_rectangle.ensures)
