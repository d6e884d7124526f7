-- `plane::lent::counts_agree` meets its contract.
use Rattle.plane.proofs.lent.CountLaws.{kinds-differ, regions-differ, sizes_decide}
use Rattle.plane.proofs.lent.counts_agree.Goals as goal

pub returns-then-l-n : goal.returns-then-l-n
returns-then-l-n c =
    let a = c.args in
    kinds-differ a.l.rows.now a.l.kinds.now a.l.regions.now a.l.offsets.now a.l.sizes.now _ c.total-n.ensures c.if-l-n.true

pub returns-then-l-n-2 : goal.returns-then-l-n-2
returns-then-l-n-2 c =
    let a = c.args in
    regions-differ a.l.rows.now a.l.kinds.now a.l.regions.now a.l.offsets.now a.l.sizes.now _ c.total-n.ensures c.if-l-n.false c.if-l-n-2.true

pub returns : goal.returns
returns c =
    let a = c.args in
    sizes_decide a.l.rows.now a.l.kinds.now a.l.regions.now a.l.offsets.now a.l.sizes.now _ c.total-n.ensures c.if-l-n.false c.if-l-n-2.false
