-- `print::listing::put_slot` meets its contract.
use mathlib.Core.Path.{sym, ◌∙◌}
use Rattle.print.proofs.WrittenLaws.{written_then, written_within, written_as}
use Rattle.print.specs.listing.RecordLines.{absent_line, present_line}
use Rattle.print.proofs.listing.LineLaws.{slot_absent, slot_present}
use native.Mathlib.Omega.{arith}
use Rattle.print.proofs.listing.put_slot.Goals as goal

pub returns-then-is_absent : goal.returns-then-is_absent
unfolding absent_line
returns-then-is_absent g c = let e = sym c.is_absent.ensures ∙ c.if-is_absent.true in
    written_within
    (written_as (written_then c.put_word.ensures (written_then c.put_number.ensures c.put_word-then-is_absent.ensures))
    (slot_absent c.args.bytes.now c.args.i c.word_at-offset.ensures c.word_at-size.ensures e))
    (omega arith)

pub returns : goal.returns
unfolding present_line
returns g c = let e = sym c.is_absent.ensures ∙ c.if-is_absent.false in
    written_within
    (written_as (written_then c.put_word.ensures (written_then c.put_number.ensures c.put_part.ensures))
    (slot_present c.args.bytes.now c.args.i c.word_at-offset.ensures c.word_at-size.ensures e))
    (omega (arith, c.word_at-size.ensures))
