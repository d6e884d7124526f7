-- `builder::room::work_slices` meets its contract.
use mathlib.Core.Path.{refl, sym, ◌∙◌}
use Prim.Native.Nat.{◌-◌, ◌<◌}
use native.Mathlib.Omega.{arith}
use lib.ListN.{length}
use Rattle.builder.proofs.room.RoomLaws.{room_stop, room_on, room_end}
use Rattle.builder.proofs.room.work_slices.Goals as goal

pub loop-i-init : goal.loop-i-init
loop-i-init c = (omega arith, refl)

pub returns-then-lens-i : goal.returns-then-lens-i
returns-then-lens-i c =
    let i = c.loop-i.i in
    let h : i < length c.args.lens.now = omega arith in
    let g : i < length c.args.sizes.now = omega arith in
    room_stop _ _ i h g c.if-lens-i.true ∙ sym c.loop-i.invariant.1

pub loop-i-preserved : goal.loop-i-preserved
loop-i-preserved c =
    let i = c.loop-i.i in
    let h : i < length c.args.lens.now = omega arith in
    let g : i < length c.args.sizes.now = omega arith in
    (omega arith, c.loop-i.invariant.1 ∙ room_on _ _ i h g c.if-lens-i.false)

pub returns : goal.returns
returns c =
    room_end _ _ c.loop-i.i (omega arith) ∙ sym c.loop-i.invariant.1
