-- `answers::sketch::put_regions` meets its contract.
use Rattle.print.proofs.WrittenLaws.{written_long}
use Rattle.answers.proofs.sketch.RegionLaws.{listing_start, listing_room, listing_more, listing_end}
use native.Mathlib.Omega.{arith}
use Rattle.answers.proofs.sketch.put_regions.Goals as goal

pub loop-k-init : goal.loop-k-init
loop-k-init g c = listing_start _ _ _

pub put_region-requires : goal.put_region-requires
put_region-requires g c =
    (search arith, listing_room c.loop-k.invariant c.requires.1 c.loop-k-test.true (omega (arith, c.requires.0, written_long c.put_count.ensures)))

pub loop-k-preserved : goal.loop-k-preserved
loop-k-preserved g c = listing_more c.loop-k.invariant c.requires.1 c.loop-k-test.true c.put_region.ensures

pub returns : goal.returns
returns g c = listing_end c.loop-k.invariant c.requires.1 c.loop-k-test.false c.put_count.ensures
