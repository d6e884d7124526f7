-- `sheet::print_record` meets its contract.
use Rattle.sheet.proofs.PrintedLaws.{printed_known}
use native.Mathlib.Omega.{arith}
use Rattle.sheet.proofs.print_record.Goals as goal

pub returns : goal.returns
returns g c =
    let h = rw (c.take.ensures.inner, c.take.ensures.limit, c.new-input.ensures.items) at c.in_ok-read_to_end.ensures.bytes in
    let w = rw c.deref.ensures.value at c.put_printed.ensures in
    let a = rw c.deref-2.ensures.0 at c.write_all.ensures.bytes in
    printed_known c.write_all.result _ _ _ _ 61441 h (omega arith) c.new-out.ensures w a
