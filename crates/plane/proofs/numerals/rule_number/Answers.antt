-- `plane::numerals::rule_number` meets its contract.
use mathlib.Core.Path.{◌∙◌}
use Rattle.plane.proofs.numerals.NumberLaws.{no_text, with_plus, without_plus}
use Rattle.plane.proofs.numerals.rule_number.Goals as goal

pub returns-then-s-eq0 : goal.returns-then-s-eq0
returns-then-s-eq0 c = no_text _ c.if-s-eq0.true

pub returns-then-s-eq43 : goal.returns-then-s-eq43
returns-then-s-eq43 c = c.unsigned_number.ensures ∙ with_plus _ c.if-s-eq0.false c.if-s-eq43.true

pub returns : goal.returns
returns c = c.unsigned_number-2.ensures ∙ without_plus _ c.if-s-eq0.false c.if-s-eq43.false
