use mathlib.Core.Path.{◌≡◌}
use Prim.Native.Nat.{◌≤◌}
use lib.ListN.{length, drop}
use Rattle.characters.specs.white_space.Trim.{trim_start}
use Rattle.characters.proofs.white_space.codes_start.Given as goal

abbrev pub invariant-loop-i : goal.invariant-loop-i
invariant-loop-i l = (l.i ≤ length l.s) × (trim_start l.s ≡ trim_start (drop l.i l.s))
