-- `answers::sketch::put_layer` meets its contract.
use Rattle.print.proofs.WrittenLaws.{written_long}
use Rattle.answers.proofs.sketch.LayerLaws.{layering_start, layering_more, layering_end}
use native.Mathlib.Omega.{arith}
use Rattle.answers.proofs.sketch.put_layer.Goals as goal

pub loop-y-init : goal.loop-y-init
loop-y-init g c = layering_start _ _ _ _

pub put_row-requires : goal.put_row-requires
put_row-requires g c =
    omega (arith, c.requires, written_long c.put_word.ensures, written_long c.loop-y.invariant.written, c.loop-y-test.true)

pub loop-y-preserved : goal.loop-y-preserved
loop-y-preserved g c = layering_more c.loop-y.invariant c.loop-y-test.true c.put_row.ensures

pub returns : goal.returns
returns g c = layering_end c.loop-y.invariant c.loop-y-test.false c.put_word.ensures
