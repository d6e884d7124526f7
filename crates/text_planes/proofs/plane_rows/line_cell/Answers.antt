-- `text_planes::plane_rows::line_cell` meets its contract.
use mathlib.Core.Path.{sym, ◌∙◌}
use Rattle.text_planes.proofs.plane_rows.line_cell.Goals as goal

pub returns-then-is_at : goal.returns-then-is_at
returns-then-is_at c = record { cell = rw (sym c.is_at.ensures ∙ c.if-is_at.true); small = c.args.l.small.0 }

pub returns-then-is_at-2 : goal.returns-then-is_at-2
returns-then-is_at-2 c =
    record { cell = rw (sym c.is_at.ensures ∙ c.if-is_at.false, sym c.is_at-2.ensures ∙ c.if-is_at-2.true); small = c.args.l.small.1 }

pub returns : goal.returns
returns c =
    record { cell = rw (sym c.is_at.ensures ∙ c.if-is_at.false, sym c.is_at-2.ensures ∙ c.if-is_at-2.false); small = c.args.l.small.2 }
