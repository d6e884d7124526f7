-- `frames::lookup::first_containing` meets its contract.
use mathlib.Core.Path.{sym, ◌∙◌}
use Rattle.frames.proofs.lookup.FirstLaws.{searching_start, searching_found, searching_more, searching_end}
use Rattle.frames.proofs.lookup.first_containing.Goals as goal

pub loop-i-init : goal.loop-i-init
loop-i-init c = searching_start _ _ _ c.requires.0 c.requires.1

pub returns-then-contains : goal.returns-then-contains
returns-then-contains c = searching_found c.loop-i.invariant c.loop-i-test.true (sym c.contains.ensures ∙ c.if-contains.true)

pub loop-i-preserved : goal.loop-i-preserved
loop-i-preserved c = searching_more c.loop-i.invariant c.loop-i-test.true (sym c.contains.ensures ∙ c.if-contains.false)

pub returns : goal.returns
returns c = searching_end c.loop-i.invariant c.loop-i-test.false
