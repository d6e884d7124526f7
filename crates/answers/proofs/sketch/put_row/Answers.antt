-- `answers::sketch::put_row` meets its contract.
use Rattle.lists.specs.Picture.{pic}
use Rattle.lists.proofs.PictureLaws.{within_in}
use Rattle.print.proofs.WrittenLaws.{written_one}
use Rattle.answers.proofs.sketch.LayerLaws.{rowing_start, rowing_more, rowing_end}
use Rattle.answers.proofs.sketch.put_row.Goals as goal

pub loop-x-init : goal.loop-x-init
loop-x-init g c = rowing_start _ _ _ _

pub loop-x-preserved : goal.loop-x-preserved
loop-x-preserved g c =
    let l = c.args.layer in
    let t = c.loop-x-test.true in
    rowing_more c.loop-x.invariant t (within_in l.width l.height (pic l.width l.codes.now) c.loop-x.x c.args.y t c.requires.1) c.put_code.ensures

pub returns : goal.returns
returns g c = rowing_end c.loop-x.invariant c.loop-x-test.false c.requires.2 (written_one c.push.ensures.items)
