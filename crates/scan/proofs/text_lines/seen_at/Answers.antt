-- `scan::text_lines::seen_at` meets its contract.
use mathlib.Core.Path.{sym, ◌∙◌}
use borrow.Author.Rules.{rules}
use Rattle.scan.proofs.text_lines.SeenLaws.{ascii, graphic, blank}
use Rattle.scan.proofs.text_lines.seen_at.Goals as goal

pub returns-then-a-gt32 : goal.returns-then-a-gt32
returns-then-a-gt32 c = let a = c.args in sym (graphic a.s.now a.at (search rules) (search rules) c.if-a-gt32.true)

pub returns-then-a-eq32 : goal.returns-then-a-eq32
returns-then-a-eq32 c = let a = c.args in sym (blank a.s.now a.at (search rules) (search rules) c.if-a-eq32.true)

pub returns : goal.returns
returns c = let a = c.args in c.seen_of.ensures ∙ sym (ascii a.s.now a.at (search rules) (search rules))
