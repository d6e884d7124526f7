-- `characters::white_space::trim_utf8` meets its contract.
use mathlib.Core.Path.{sym, ◌∙◌}
use Rattle.characters.proofs.white_space.TrimUtf8Laws.{trimming_start, trimming_stop, trimming_none, trimming_end, trimming_fits, trimming_white, trimming_dark}
use native.Mathlib.Omega.{arith}
use Rattle.characters.proofs.white_space.trim_utf8.Goals as goal

pub loop-p-init : goal.loop-p-init
loop-p-init c = trimming_start c.utf8_start-from.ensures

pub overflow_add-p : goal.overflow_add-p
overflow_add-p c = omega (arith, trimming_fits c.loop-p.invariant (sym c.next-d.ensures ∙ c.in-Char.is))

pub loop-p-smaller-then-white_space : goal.loop-p-smaller-then-white_space
loop-p-smaller-then-white_space c = omega (arith, trimming_fits c.loop-p.invariant (sym c.next-d.ensures ∙ c.in-Char.is))

pub loop-p-preserved-then-white_space : goal.loop-p-preserved-then-white_space
loop-p-preserved-then-white_space c = trimming_white c.loop-p.invariant (sym c.next-d.ensures ∙ c.in-Char.is) (sym c.white_space.ensures ∙ c.if-white_space.true)

pub loop-p-smaller : goal.loop-p-smaller
loop-p-smaller c = omega (arith, trimming_fits c.loop-p.invariant (sym c.next-d.ensures ∙ c.in-Char.is))

pub loop-p-preserved : goal.loop-p-preserved
loop-p-preserved c = trimming_dark c.loop-p.invariant (sym c.next-d.ensures ∙ c.in-Char.is) (sym c.white_space.ensures ∙ c.if-white_space.false)

pub returns-in-IllFormed : goal.returns-in-IllFormed
returns-in-IllFormed c = trimming_stop c.loop-p.invariant (sym c.next-d.ensures ∙ c.in-IllFormed.is)

pub returns-in-End : goal.returns-in-End
returns-in-End c = trimming_none c.loop-p.invariant c.loop-p-test.true (sym c.next-d.ensures ∙ c.in-End.is)

pub returns : goal.returns
returns c = trimming_end c.loop-p.invariant c.loop-p-test.false
