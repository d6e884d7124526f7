-- `values::rewriting::measure` meets its contract.
use native.Mathlib.Omega.{arith}
use Rattle.values.proofs.search.Searching.{found_here}
use Rattle.values.proofs.rewriting.Replacing.{measuring_start, measuring_end, measuring_copy, measuring_fits, measuring_hit}
use Rattle.values.proofs.rewriting.measure.Goals as goal

pub loop-i-init : goal.loop-i-init
loop-i-init c = measuring_start c.requires

pub find-r-requires : goal.find-r-requires
find-r-requires c = c.loop-i.invariant.inside

pub overflow_add-size : goal.overflow_add-size
overflow_add-size c = let m = measuring_copy c.loop-i.invariant c.find-r.ensures in omega (arith, m.less, m.inside)

pub returns-then-r-s : goal.returns-then-r-s
returns-then-r-s c = measuring_end (measuring_copy c.loop-i.invariant c.find-r.ensures) (omega arith)

pub overflow_add-size-in-loop-i : goal.overflow_add-size-in-loop-i
overflow_add-size-in-loop-i c =
    let f = c.find-r.ensures in
    let m = measuring_copy c.loop-i.invariant f in
    let h = measuring_hit m (found_here f c.if-r-s.false) in
    omega (arith, h.less, h.inside)

pub overflow_add-i : goal.overflow_add-i
overflow_add-i c =
    let f = c.find-r.ensures in
    let m = measuring_copy c.loop-i.invariant f in
    omega (arith, measuring_fits m (found_here f c.if-r-s.false))

pub loop-i-smaller : goal.loop-i-smaller
loop-i-smaller c =
    let f = c.find-r.ensures in
    let m = measuring_copy c.loop-i.invariant f in
    omega (arith, measuring_fits m (found_here f c.if-r-s.false), m.sizes.0, f.low)

pub loop-i-preserved : goal.loop-i-preserved
loop-i-preserved c =
    let f = c.find-r.ensures in
    let m = measuring_copy c.loop-i.invariant f in
    measuring_hit m (found_here f c.if-r-s.false)

pub returns : goal.returns
returns c = measuring_end c.loop-i.invariant c.loop-i-test.false
