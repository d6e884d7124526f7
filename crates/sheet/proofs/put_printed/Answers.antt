-- `sheet::put_printed` meets its contract.
use Rattle.print.proofs.WrittenLaws.{written_as, written_within}
use Rattle.sheet.proofs.PrintedLaws.{printed_long, printed-sheet}
use native.Mathlib.Omega.{arith}
use Rattle.sheet.proofs.put_printed.Goals as goal

pub returns-then-s-gt-TEXT_BYTES : goal.returns-then-s-gt-TEXT_BYTES
returns-then-s-gt-TEXT_BYTES g c =
    written_within (written_as c.put_word.ensures (printed_long c.args.s.now c.if-s-gt-TEXT_BYTES.true)) (omega arith)

pub returns : goal.returns
returns g c =
    written_as c.put_sheet.ensures (printed-sheet c.args.s.now (omega (arith, c.if-s-gt-TEXT_BYTES.false)))
