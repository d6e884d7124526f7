-- `scan::text_lines::rest_of` meets its contract.
use mathlib.Core.Path.{ap, ◌∙◌}
use Rattle.characters.specs.utf8.Passed.{code_of}
use Rattle.scan.proofs.text_lines.rest_of.Goals as goal

pub returns : goal.returns
returns c = rw (c.code_of.ensures ∙ ap code_of c.next.ensures)
