-- `characters::utf8::rare` meets its contract.
use mathlib.Core.Path.{sym, ap, ◌∙◌}
use Rattle.characters.specs.utf8.Passed.{code_in}
use Rattle.characters.proofs.utf8.rare.Goals as goal

pub returns-in-Char : goal.returns-in-Char
returns-in-Char c = sym (ap code_in (sym c.from_table.ensures ∙ c.in-Char.is))

pub returns-in-IllFormed : goal.returns-in-IllFormed
returns-in-IllFormed c = sym (ap code_in (sym c.from_table.ensures ∙ c.in-IllFormed.is))

pub returns-in-End : goal.returns-in-End
returns-in-End c = sym (ap code_in (sym c.from_table.ensures ∙ c.in-End.is))
