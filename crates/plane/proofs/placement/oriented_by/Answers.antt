-- `plane::placement::oriented_by` meets its contract.
use Rattle.plane.proofs.placement.oriented_by.Goals as goal

pub returns-in-TopLeft : goal.returns-in-TopLeft
returns-in-TopLeft c = rw (c.if-horizontal.true, c.in-TopLeft.is) c.as_rows.ensures

pub returns-in-BottomLeft : goal.returns-in-BottomLeft
returns-in-BottomLeft c = rw (c.if-horizontal.true, c.in-BottomLeft.is)

pub returns-in-NotPresent : goal.returns-in-NotPresent
returns-in-NotPresent c = rw (c.if-horizontal.true, c.in-NotPresent.is)

pub returns-in-TopLeft-p : goal.returns-in-TopLeft-p
returns-in-TopLeft-p c = rw (c.if-horizontal.false, c.if-vertical.true, c.in-TopLeft-p.is)

pub returns-in-BottomLeft-p : goal.returns-in-BottomLeft-p
returns-in-BottomLeft-p c = rw (c.if-horizontal.false, c.if-vertical.true, c.in-BottomLeft-p.is) c.as_columns.ensures

pub returns-in-NotPresent-p : goal.returns-in-NotPresent-p
returns-in-NotPresent-p c = rw (c.if-horizontal.false, c.if-vertical.true, c.in-NotPresent-p.is)

pub returns-in-TopLeft-p-2 : goal.returns-in-TopLeft-p-2
returns-in-TopLeft-p-2 c = rw (c.if-horizontal.false, c.if-vertical.false, c.in-TopLeft-p-2.is) c.as_rows-in-TopLeft-p-2.ensures

pub returns-in-BottomLeft-p-2 : goal.returns-in-BottomLeft-p-2
returns-in-BottomLeft-p-2 c = rw (c.if-horizontal.false, c.if-vertical.false, c.in-BottomLeft-p-2.is) c.as_columns-in-BottomLeft-p-2.ensures

pub returns-in-NotPresent-p-2 : goal.returns-in-NotPresent-p-2
returns-in-NotPresent-p-2 c = rw (c.if-horizontal.false, c.if-vertical.false, c.in-NotPresent-p-2.is) c.as_cross_tab.ensures
