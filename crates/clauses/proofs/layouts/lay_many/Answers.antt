-- `clauses::layouts::lay_many` meets its contract.
use mathlib.Core.Path.{◌∙◌}
use Rattle.clauses.proofs.layouts.LayoutLaws.{many_one, many_valued, many_labelled, many_more}
use Rattle.clauses.proofs.layouts.lay_many.Goals as goal

pub returns-then-h-eq1 : goal.returns-then-h-eq1
returns-then-h-eq1 c = c.lay_named.ensures ∙ many_one _ _ _ _ _ c.if-h-eq1.true

pub returns-then-valued : goal.returns-then-valued
returns-then-valued c =
    c.lay_named-then-valued.ensures ∙ many_valued _ _ _ _ _ c.if-h-eq1.false c.if-h-eq2.true c.if-valued.true

pub returns-then-h-eq2 : goal.returns-then-h-eq2
returns-then-h-eq2 c =
    c.lay_labelled.ensures ∙ many_labelled _ _ _ _ _ c.if-h-eq1.false c.if-h-eq2.true c.if-valued.false

pub returns : goal.returns
returns c = c.lay_labelled-2.ensures ∙ many_more _ _ _ _ _ c.if-h-eq1.false c.if-h-eq2.false
