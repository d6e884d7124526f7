-- `plane::lent::is_within` meets its contract.
use Rattle.plane.proofs.lent.LimitLaws.{rows_many, regions_many, bytes_many, rows_decide}
use Rattle.plane.proofs.lent.is_within.Goals as goal

pub returns-then-l-gt-PLANE_ROWS : goal.returns-then-l-gt-PLANE_ROWS
returns-then-l-gt-PLANE_ROWS c = let a = c.args in rows_many a.l.rows.now a.l.offsets.now a.l.bytes.now c.if-l-gt-PLANE_ROWS.true

pub returns-then-l-gt-REGIONS : goal.returns-then-l-gt-REGIONS
returns-then-l-gt-REGIONS c = let a = c.args in regions_many a.l.rows.now a.l.offsets.now a.l.bytes.now c.if-l-gt-REGIONS.true

pub returns-then-l-gt-TEXT_BYTES : goal.returns-then-l-gt-TEXT_BYTES
returns-then-l-gt-TEXT_BYTES c = let a = c.args in bytes_many a.l.rows.now a.l.offsets.now a.l.bytes.now c.if-l-gt-REGIONS.false c.if-l-gt-TEXT_BYTES.true

pub returns : goal.returns
returns c =
    let a = c.args in
    rows_decide a.l.rows.now a.l.offsets.now a.l.bytes.now c.if-l-gt-PLANE_ROWS.false c.if-l-gt-REGIONS.false c.if-l-gt-TEXT_BYTES.false _ c.rows_fit.ensures
