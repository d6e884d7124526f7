-- `recognizer::slots::names_row` meets its contract.
use mathlib.Core.Path.{sym, ◌∙◌}
use Rattle.lists.proofs.Tests.{choose_on, choose_off}
use Rattle.recognizer.proofs.slots.names_row.Goals as goal

pub returns-then-s : goal.returns-then-s
returns-then-s c = c.saturating_sub.ensures ∙ sym (choose_on _ _ _ c.if-s.true)

pub returns : goal.returns
returns c = c.saturating_sub-2.ensures ∙ sym (choose_off _ _ _ c.if-s.false)
