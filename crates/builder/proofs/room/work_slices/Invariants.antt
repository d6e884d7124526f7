use mathlib.Core.Path.{◌≡◌}
use Prim.Native.Nat.{◌-◌, ◌≤◌}
use lib.ListN.{length, drop}
use Rattle.builder.specs.room.Room.{room_from}
use Rattle.builder.proofs.room.work_slices.Given as goal

abbrev pub invariant-loop-i : goal.invariant-loop-i
invariant-loop-i l = (l.i ≤ length l.lens) × (room_from 0 l.lens l.sizes ≡ room_from l.i (drop l.i l.lens) (drop l.i l.sizes))
