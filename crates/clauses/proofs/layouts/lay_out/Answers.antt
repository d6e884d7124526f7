-- `clauses::layouts::lay_out` meets its contract.
use mathlib.Core.Path.{◌∙◌}
use Rattle.clauses.proofs.layouts.LayoutLaws.{layout_none, layout_one, layout_many}
use Rattle.clauses.proofs.layouts.lay_out.Goals as goal

pub returns-then-m-eq0 : goal.returns-then-m-eq0
returns-then-m-eq0 c = layout_none _ _ _ _ _ c.if-m-eq0.true

pub returns-then-m-eq1 : goal.returns-then-m-eq1
returns-then-m-eq1 c = c.lay_one.ensures ∙ layout_one _ _ _ _ _ c.if-m-eq0.false c.if-m-eq1.true

pub returns : goal.returns
returns c = c.lay_many.ensures ∙ layout_many _ _ _ _ _ c.if-m-eq0.false c.if-m-eq1.false
