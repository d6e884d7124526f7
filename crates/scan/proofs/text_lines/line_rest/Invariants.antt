use Prim.Native.Nat.{◌-◌}
use lib.ListN.{length, drop}
use Rattle.characters.specs.utf8.Utf8.{decode}
use Rattle.characters.specs.utf8.Passed.{code_of}
use Rattle.scan.proofs.text_lines.LineReading.{Scanned}
use Rattle.scan.proofs.text_lines.line_rest.Given as goal

abbrev pub invariant-loop-p : goal.invariant-loop-p
invariant-loop-p l = Scanned l.s l.from l.p l.k l.count (code_of (decode (drop l.last l.s)))

abbrev pub decreases-loop-p : goal.decreases-loop-p
decreases-loop-p l = length l.s - l.p
