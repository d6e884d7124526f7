-- `frames::regions::next_corner` meets its contract.
use mathlib.Core.Path.{sym, ◌∙◌}
use Rattle.frames.proofs.regions.CornerLaws.{seeking_more, seeking_found, seeking_end}
use Rattle.frames.proofs.regions.next_corner.Goals as goal

pub loop-k-init : goal.loop-k-init
loop-k-init c = c.skip_fours-k.ensures

pub returns-then-is_corner : goal.returns-then-is_corner
returns-then-is_corner c = seeking_found c.loop-k.invariant (sym c.is_corner.ensures ∙ c.if-is_corner.true)

pub loop-k-preserved : goal.loop-k-preserved
loop-k-preserved c =
    seeking_more c.loop-k.invariant c.loop-k-test.true (sym c.is_corner.ensures ∙ c.if-is_corner.false)

pub returns : goal.returns
returns c = seeking_end c.loop-k.invariant c.loop-k-test.false
