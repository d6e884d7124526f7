use mathlib.Core.Path.{◌≡◌}
use Prim.Native.Nat.{◌*◌, ◌^◌, ◌≤◌}
use lib.ListN.{length}
use Rattle.plane.proofs.lent.SumLaws.{start_of}
use Rattle.plane.proofs.lent.total.Given as goal

abbrev pub invariant-loop-m : goal.invariant-loop-m
invariant-loop-m l = (l.m-index ≤ length l.rows) × (l.n ≡ start_of l.rows l.m-index) × (l.n ≤ l.m-index * 2 ^ 32)
