use mathlib.Core.Path.{◌≡◌}
use Prim.Native.Nat.{◌-◌, ◌≤◌}
use lib.ListN.{length, take, drop}
use Rattle.characters.specs.white_space.Trim.{trim_end}
use Rattle.characters.proofs.white_space.codes_end.Given as goal

abbrev pub invariant-loop-i : goal.invariant-loop-i
invariant-loop-i l = (l.from ≤ l.i) × (l.i ≤ length l.s) × (trim_end (drop l.from l.s) ≡ trim_end (take (l.i - l.from) (drop l.from l.s)))
