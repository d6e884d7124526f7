-- `answers::lines::find` meets its contract.
use Rattle.std.proofs.Common.{◌≡◌, length, arith}
use Rattle.answers.proofs.lines.Finding.{seeking_start, seeking_end, seeking_found, seeking_more}
use Rattle.answers.proofs.lines.find.Goals as goal

pub loop-i-init : goal.loop-i-init
loop-i-init c = seeking_start c.requires

pub returns-then-s-i : goal.returns-then-s-i
returns-then-s-i c = seeking_found c.loop-i.invariant c.loop-i-test.true c.if-s-i.true

pub loop-i-preserved : goal.loop-i-preserved
loop-i-preserved c = seeking_more c.loop-i.invariant c.loop-i-test.true c.if-s-i.false

pub returns : goal.returns
returns c =
    let e : c.loop-i.i ≡ length c.args.s.now = omega (arith, c.loop-i-test.false, c.loop-i.auto.i-end, c.requires) in
    rw e at (seeking_end c.loop-i.invariant c.loop-i-test.false)
