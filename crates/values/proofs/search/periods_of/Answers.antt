-- `values::search::periods_of` meets its contract.
use mathlib.Core.Path.{ap}
use mathlib.Core.List.{List}
use Prim.Native.Nat.{◌-◌}
use native.Mathlib.Omega.{arith}
use lib.ListN.{length}
use Rattle.values.specs.search.Periods.{Safe}
use Rattle.values.specs.declared.search.Stretch.{Stretch}
use Rattle.values.proofs.search.Building.{building_start, building_more, building_end, building_safe, building_fits, building_shift, building_less, building_place, building_rises, building_last, building_add}
use Rattle.values.proofs.search.periods_of.Goals as goal
use Rattle.values.proofs.search.periods_of.Goals.{After-shift_after-s}

pub loop-reach-init : goal.loop-reach-init
loop-reach-init c = rw (ap (λ (l : List Stretch). length l) c.clear.ensures) (building_start c.requires c.clear.ensures)

pub overflow_sub-reach : goal.overflow_sub-reach
overflow_sub-reach c = omega (arith, c.loop-reach.invariant.apart)

pub loop-reach-smaller-then-p-reach : goal.loop-reach-smaller-then-p-reach
loop-reach-smaller-then-p-reach c = omega (arith, c.loop-reach.invariant.apart)

pub loop-reach-preserved-then-p-reach : goal.loop-reach-preserved-then-p-reach
loop-reach-preserved-then-p-reach c = building_more c.loop-reach.invariant c.loop-reach-test.true c.if-p-reach.true

pub push-requires : goal.push-requires
push-requires c =
    (omega arith, building_place c.loop-reach.invariant c.is_new.ensures c.if-is_new.true (omega arith))

pub loop-reach-smaller-then-is_new : goal.loop-reach-smaller-then-is_new
loop-reach-smaller-then-is_new c =
    building_rises c.loop-reach.invariant c.is_new.ensures c.if-is_new.true

pub loop-reach-preserved-then-is_new : goal.loop-reach-preserved-then-is_new
loop-reach-preserved-then-is_new c =
    rw c.push.ensures.len (building_add c.loop-reach.invariant c.is_new.ensures c.if-is_new.true c.push.ensures.items c.if-p-reach.false)

pub overflow_sub-reach-else-is_new : goal.overflow_sub-reach-else-is_new
overflow_sub-reach-else-is_new c = omega (arith, c.loop-reach.invariant.apart)

-- the shift is safe
safe : (c : After-shift_after-s) → Safe c.args.p.now (c.loop-reach.reach - c.loop-reach.e) c.shift_after-s.result.by c.shift_after-s.result.keep
safe c = building_safe c.loop-reach.invariant c.is_new.ensures c.if-is_new.false c.if-p-reach.false (rw c.as_slice.ensures.value at c.shift_after-s.ensures)

pub overflow_add-e : goal.overflow_add-e
overflow_add-e c =
    let w = c.loop-reach.invariant in
    let q = safe (goal.at.overflow_add-e c).After-shift_after-s in
    omega (arith, building_fits w c.is_new.ensures c.if-is_new.false c.if-p-reach.false c.loop-reach-test.true q)

pub overflow_add-reach-else-is_new : goal.overflow_add-reach-else-is_new
overflow_add-reach-else-is_new c =
    let w = c.loop-reach.invariant in
    let q = safe (goal.at.overflow_add-reach-else-is_new c).After-shift_after-s in
    omega (arith, building_fits w c.is_new.ensures c.if-is_new.false c.if-p-reach.false c.loop-reach-test.true q)

pub loop-reach-smaller : goal.loop-reach-smaller
loop-reach-smaller c =
    let w = c.loop-reach.invariant in
    let q = safe (goal.at.loop-reach-smaller c).After-shift_after-s in
    building_less w c.is_new.ensures c.if-is_new.false c.if-p-reach.false c.loop-reach-test.true q

pub loop-reach-preserved : goal.loop-reach-preserved
loop-reach-preserved c =
    let w = c.loop-reach.invariant in
    let q = safe (goal.at.loop-reach-preserved c).After-shift_after-s in
    building_shift w c.is_new.ensures c.if-is_new.false c.if-p-reach.false c.loop-reach-test.true q

pub push-requires-then-is_new-2 : goal.push-requires-then-is_new-2
push-requires-then-is_new-2 c =
    (omega arith, building_place c.loop-reach.invariant c.is_new-2.ensures c.if-is_new-2.true (omega arith))

pub returns-then-is_new-2 : goal.returns-then-is_new-2
returns-then-is_new-2 c =
    rw c.push-then-is_new-2.ensures.len (building_last c.loop-reach.invariant c.is_new-2.ensures c.if-is_new-2.true c.push-then-is_new-2.ensures.items c.loop-reach-test.false)

pub returns-else-is_new-2 : goal.returns-else-is_new-2
returns-else-is_new-2 c = building_end c.loop-reach.invariant c.is_new-2.ensures c.if-is_new-2.false c.loop-reach-test.false (omega arith)
