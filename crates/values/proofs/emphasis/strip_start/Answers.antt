-- `values::emphasis::strip_start` meets its contract.
use mathlib.Core.Path.{refl, sym, ◌∙◌}
use native.Mathlib.Omega.{arith}
use Rattle.values.proofs.emphasis.Stripping.{prefix_gone, no-prefix}
use Rattle.values.proofs.emphasis.strip_start.Goals as goal

pub loop-rest-init : goal.loop-rest-init
loop-rest-init c = refl

pub loop-rest-smaller : goal.loop-rest-smaller
loop-rest-smaller c = omega (arith, c.in-Some.ensures.cases.2, c.requires)

pub loop-rest-preserved : goal.loop-rest-preserved
loop-rest-preserved c = c.loop-rest.invariant ∙ prefix_gone _ _ c.requires c.in-Some.ensures.cases

pub returns : goal.returns
returns c = sym (c.loop-rest.invariant ∙ no-prefix _ _ c.in_default.ensures.cases)
