-- `print::put_listed` meets its contract.
use native.Mathlib.Omega.{arith}
use Rattle.print.proofs.WrittenLaws.{written_long, listing_start, listing_more, listing_end}
use Rattle.print.proofs.put_listed.Goals as goal

pub loop-b-init : goal.loop-b-init
loop-b-init g c = listing_start _ _

pub put_byte-requires : goal.put_byte-requires
put_byte-requires g c = omega (arith, written_long c.put_number.ensures, written_long c.loop-b.invariant.written, c.loop-b-test.true)

pub loop-b-preserved : goal.loop-b-preserved
loop-b-preserved g c = listing_more c.loop-b.invariant c.loop-b-test.true c.put_byte.ensures

pub returns : goal.returns
returns g c = listing_end c.loop-b.invariant c.loop-b-test.false c.put_number.ensures
