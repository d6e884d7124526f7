-- `characters::white_space::utf8_start` meets its contract.
use mathlib.Core.Path.{sym, ◌∙◌}
use Rattle.characters.proofs.utf8.Utf8Laws.{codes_bad, codes-none}
use Rattle.characters.proofs.white_space.TrimUtf8Laws.{leading_start, leading_stop, leading_end, leading_fits, leading_white, leading_dark}
use native.Mathlib.Omega.{arith}
use Rattle.characters.proofs.white_space.utf8_start.Goals as goal

pub loop-p-init : goal.loop-p-init
loop-p-init c = leading_start _

pub overflow_add-p : goal.overflow_add-p
overflow_add-p c = omega (arith, leading_fits c.loop-p.invariant (sym c.next-d.ensures ∙ c.in-Char.is))

pub loop-p-smaller : goal.loop-p-smaller
loop-p-smaller c = omega (arith, leading_fits c.loop-p.invariant (sym c.next-d.ensures ∙ c.in-Char.is))

pub loop-p-preserved : goal.loop-p-preserved
loop-p-preserved c = leading_white c.loop-p.invariant (sym c.next-d.ensures ∙ c.in-Char.is) (sym c.white_space.ensures ∙ c.if-white_space.true)

pub returns-else-white_space : goal.returns-else-white_space
returns-else-white_space c = leading_dark c.loop-p.invariant (sym c.next-d.ensures ∙ c.in-Char.is) (sym c.white_space.ensures ∙ c.if-white_space.false)

pub returns-in-IllFormed : goal.returns-in-IllFormed
returns-in-IllFormed c = leading_stop c.loop-p.invariant (codes_bad _ (sym c.next-d.ensures ∙ c.in-IllFormed.is))

pub returns-in-End : goal.returns-in-End
returns-in-End c = leading_stop c.loop-p.invariant (codes-none _ (sym c.next-d.ensures ∙ c.in-End.is))

pub returns : goal.returns
returns c = leading_end c.loop-p.invariant c.loop-p-test.false
