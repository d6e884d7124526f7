-- `plane::hit_policies::hit_policy` meets its contract.
use mathlib.Core.Path.{ap, ◌∙◌}
use Rattle.plane.specs.hit_policies.Letters.{policy_of}
use Rattle.plane.proofs.hit_policies.LetterLaws.{no_length, no_collect, one_byte, collect-bytes}
use Rattle.plane.proofs.hit_policies.hit_policy.Goals as goal

pub returns-then-s-eq1 : goal.returns-then-s-eq1
returns-then-s-eq1 c = c.letter_policy.ensures ∙ ap policy_of (one_byte _ c.if-s-eq1.true)

pub returns-then-s-ne2 : goal.returns-then-s-ne2
returns-then-s-ne2 c = no_length _ c.if-s-eq1.false c.if-s-ne2.true

pub returns-then-s-ne67 : goal.returns-then-s-ne67
returns-then-s-ne67 c = no_collect _ c.if-s-ne2.false c.if-s-ne67.true

pub returns : goal.returns
returns c = c.collect_policy.ensures ∙ ap policy_of (collect-bytes _ c.if-s-ne2.false c.if-s-ne67.false)
