-- `values::search::find` meets its contract.
use native.Mathlib.Omega.{arith}
use Rattle.values.proofs.search.Searching.{searching_start, searching_end, searching_found, searching_more, searching_fits, searching_less, searching_shift, safe_shift}
use Rattle.values.proofs.search.find.Goals as goal

pub loop-i-init : goal.loop-i-init
loop-i-init c = searching_start c.requires

pub returns-then-j-text : goal.returns-then-j-text
returns-then-j-text c = searching_found c.loop-i.invariant c.loop-i-test.true c.if-j-text.true

pub loop-i-preserved-then-s-i : goal.loop-i-preserved-then-s-i
loop-i-preserved-then-s-i c = searching_more c.loop-i.invariant c.loop-i-test.true c.if-j-text.false c.if-s-i.true

pub overflow_add-i-else-s-i : goal.overflow_add-i-else-s-i
overflow_add-i-else-s-i c =
    let w = c.loop-i.invariant in
    let q = safe_shift c.args.p.known w.along c.shift_after-b.ensures in
    omega (arith, searching_fits w c.loop-i-test.true c.if-j-text.false q)

pub loop-i-smaller : goal.loop-i-smaller
loop-i-smaller c =
    let w = c.loop-i.invariant in
    let q = safe_shift c.args.p.known w.along c.shift_after-b.ensures in
    searching_less w c.loop-i-test.true c.if-j-text.false q

pub loop-i-preserved : goal.loop-i-preserved
loop-i-preserved c =
    let w = c.loop-i.invariant in
    let q = safe_shift c.args.p.known w.along c.shift_after-b.ensures in
    searching_shift w c.loop-i-test.true c.if-j-text.false q c.if-s-i.false

pub returns : goal.returns
returns c = searching_end c.loop-i.invariant c.loop-i-test.false
