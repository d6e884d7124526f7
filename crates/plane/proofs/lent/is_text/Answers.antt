-- `plane::lent::is_text` meets its contract.
use Rattle.plane.proofs.lent.TextLaws.{part_long, part_decides}
use Rattle.plane.proofs.lent.is_text.Goals as goal

pub returns-then-bytes-end : goal.returns-then-bytes-end
returns-then-bytes-end c = let a = c.args in part_long a.bytes.now a.offset a.size c.if-bytes-end.true

pub returns : goal.returns
returns c =
    let a = c.args in
    part_decides a.bytes.now a.offset a.size _ c.if-bytes-end.false c.validate.ensures c.is_ok.ensures.value
