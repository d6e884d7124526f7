-- `values::rewriting::rewrite` meets its contract.
use native.Mathlib.Omega.{arith}
use Rattle.values.proofs.search.Searching.{found_here}
use Rattle.values.proofs.rewriting.Replacing.{rewriting_start, rewriting_end, rewriting_room, rewriting_reach, rewriting_copy, rewriting_inside, rewriting_fits, rewriting_hit}
use Rattle.values.proofs.rewriting.rewrite.Goals as goal

pub loop-i-init : goal.loop-i-init
loop-i-init c = rewriting_start c.requires

pub find-r-requires : goal.find-r-requires
find-r-requires c = c.loop-i.invariant.inside

pub put_bytes-requires : goal.put_bytes-requires
put_bytes-requires c = rewriting_room c.loop-i.invariant c.find-r.ensures

pub overflow_add-end : goal.overflow_add-end
overflow_add-end c =
    omega (arith, rewriting_reach c.loop-i.invariant c.find-r.ensures, c.loop-i.invariant.long, c.well_formed)

pub shape_of-out-then-r-s : goal.shape_of-out-then-r-s
shape_of-out-then-r-s c =
    let f = c.find-r.ensures in
    let m = rewriting_copy c.loop-i.invariant f c.put_bytes.ensures c.put_bytes.auto.out in
    m.long

pub returns-then-r-s : goal.returns-then-r-s
returns-then-r-s c =
    let f = c.find-r.ensures in
    let m = rewriting_copy c.loop-i.invariant f c.put_bytes.ensures c.put_bytes.auto.out in let w = rewriting_end m (omega arith) in record { value = w.0; out_after = w.1 }

pub put_bytes-requires-in-loop-i : goal.put_bytes-requires-in-loop-i
put_bytes-requires-in-loop-i c =
    let f = c.find-r.ensures in
    let m = rewriting_copy c.loop-i.invariant f c.put_bytes.ensures c.put_bytes.auto.out in
    rewriting_fits m (found_here f c.if-r-s.false)

pub overflow_add-end-in-loop-i : goal.overflow_add-end-in-loop-i
overflow_add-end-in-loop-i c =
    let f = c.find-r.ensures in
    let m = rewriting_copy c.loop-i.invariant f c.put_bytes.ensures c.put_bytes.auto.out in
    omega (arith, rewriting_fits m (found_here f c.if-r-s.false), m.long, c.well_formed)

pub overflow_add-i : goal.overflow_add-i
overflow_add-i c =
    let f = c.find-r.ensures in
    let m = rewriting_copy c.loop-i.invariant f c.put_bytes.ensures c.put_bytes.auto.out in
    omega (arith, rewriting_inside m (found_here f c.if-r-s.false))

pub loop-i-smaller : goal.loop-i-smaller
loop-i-smaller c =
    let f = c.find-r.ensures in
    let m = rewriting_copy c.loop-i.invariant f c.put_bytes.ensures c.put_bytes.auto.out in
    omega (arith, rewriting_inside m (found_here f c.if-r-s.false), m.some, f.low)

pub loop-i-preserved : goal.loop-i-preserved
loop-i-preserved c =
    let f = c.find-r.ensures in
    let m = rewriting_copy c.loop-i.invariant f c.put_bytes.ensures c.put_bytes.auto.out in
    rewriting_hit m (found_here f c.if-r-s.false) c.put_bytes-in-loop-i.ensures c.put_bytes-in-loop-i.auto.out

pub shape_of-out : goal.shape_of-out
shape_of-out c = c.loop-i.invariant.long

pub returns : goal.returns
returns c = let w = rewriting_end c.loop-i.invariant c.loop-i-test.false in record { value = w.0; out_after = w.1 }
