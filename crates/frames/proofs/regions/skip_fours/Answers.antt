-- `frames::regions::skip_fours` meets its contract.
use mathlib.Core.Path.{sym, ◌∙◌}
use Rattle.frames.proofs.regions.CornerLaws.{seeking_start, seeking_four}
use Rattle.frames.proofs.regions.skip_fours.Goals as goal

pub loop-k-init : goal.loop-k-init
loop-k-init c = seeking_start _ _ _ c.requires

pub loop-k-preserved : goal.loop-k-preserved
loop-k-preserved c =
    seeking_four c.loop-k.invariant c.loop-k-test.true (sym c.in_four.ensures ∙ c.if-in_four.false)
