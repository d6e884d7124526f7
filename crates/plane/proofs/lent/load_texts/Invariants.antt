use Prim.Native.Nat.{◌≤◌}
use lib.ListN.{length}
use Rattle.cells.proofs.SpanLaws.{SpansFilled}
use Rattle.plane.proofs.lent.TextLaws.{text_on}
use Rattle.plane.proofs.lent.load_texts.Given as goal

abbrev pub invariant-loop-k : goal.invariant-loop-k
invariant-loop-k l = (l.k ≤ length l.l.offsets.now) × SpansFilled (text_on l.l.offsets.now l.l.sizes.now l.l.bytes.now) l.l.bytes.now l.initial.spans l.spans l.k
