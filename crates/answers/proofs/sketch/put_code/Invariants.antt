use mathlib.Core.Path.{◌≡◌}
use mathlib.Core.List.{◌++◌}
use lib.ListN.{take}
use Rattle.answers.proofs.sketch.put_code.Given as goal

abbrev pub invariant-loop-b : goal.invariant-loop-b
invariant-loop-b g l = l.out.items ≡ l.initial.out.items ++ take l.b-index l.bytes
