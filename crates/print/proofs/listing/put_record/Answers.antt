-- `print::listing::put_record` meets its contract.
use Rattle.print.proofs.listing.LineLaws.{listing_start, listing_room, listing_more, listing_end}
use Rattle.print.proofs.WrittenLaws.{written_long}
use native.Mathlib.Omega.{arith}
use Rattle.print.proofs.listing.put_record.Goals as goal

pub word_at-i-end-requires : goal.word_at-i-end-requires
word_at-i-end-requires g c = omega (arith, c.requires.1.whole)

pub put_head-requires : goal.put_head-requires
put_head-requires g c = (omega arith, omega (arith, c.requires.1.whole))

pub loop-i-init : goal.loop-i-init
loop-i-init g c = listing_start _ _

pub put_slot-requires : goal.put_slot-requires
put_slot-requires g c =
    (search arith, listing_room c.loop-i.invariant c.requires.1 (omega (arith, c.word_at-i-end.ensures, c.loop-i-test.true)) (omega (arith, written_long c.put_head.ensures, c.requires.0)))

pub loop-i-preserved : goal.loop-i-preserved
loop-i-preserved g c = listing_more c.loop-i.invariant c.requires.1 (omega (arith, c.word_at-i-end.ensures, c.loop-i-test.true)) c.put_slot.ensures

pub returns : goal.returns
returns g c = listing_end c.loop-i.invariant c.requires.1 (omega (arith, c.word_at-i-end.ensures, c.loop-i-test.false)) c.put_head.ensures
