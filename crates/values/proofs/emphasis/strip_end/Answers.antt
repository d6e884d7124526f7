-- `values::emphasis::strip_end` meets its contract.
use mathlib.Core.Path.{refl, sym, ◌∙◌}
use native.Mathlib.Omega.{arith}
use Rattle.values.proofs.emphasis.Stripping.{suffix_gone, no-suffix}
use Rattle.values.proofs.emphasis.strip_end.Goals as goal

pub loop-front-init : goal.loop-front-init
loop-front-init c = refl

pub loop-front-smaller : goal.loop-front-smaller
loop-front-smaller c = omega (arith, c.in-Some.ensures.cases.2, c.requires)

pub loop-front-preserved : goal.loop-front-preserved
loop-front-preserved c = c.loop-front.invariant ∙ suffix_gone _ _ c.requires c.in-Some.ensures.cases

pub returns : goal.returns
returns c = sym (c.loop-front.invariant ∙ no-suffix _ _ c.in_default.ensures.cases)
