-- `plane::lent::cells_known` meets its contract.
use mathlib.Core.Path.{sym, ◌∙◌}
use lib.ListN.{length}
use Rattle.plane.proofs.lent.KindLaws.{known_at}
use Rattle.plane.proofs.lent.AllAtLaws.{all_start, all_more, all-out, all_end}
use native.Mathlib.Omega.{arith}
use Rattle.plane.proofs.lent.cells_known.Goals as goal

pub loop-k-init : goal.loop-k-init
loop-k-init c = let a = c.args in (omega arith, all_start (known_at (length a.l.offsets.now) a.l.kinds.now a.l.regions.now))

pub returns-then-not-is_known : goal.returns-then-not-is_known
returns-then-not-is_known c =
    let a = c.args in
    all-out (known_at (length a.l.offsets.now) a.l.kinds.now a.l.regions.now) _ c.loop-k.k c.loop-k-test.true (sym c.is_known.ensures ∙ c.if-not-is_known.true)

pub loop-k-preserved : goal.loop-k-preserved
loop-k-preserved c =
    let a = c.args in
    (omega (arith, c.loop-k-test.true), all_more (known_at (length a.l.offsets.now) a.l.kinds.now a.l.regions.now) c.loop-k.k c.loop-k.invariant.1 (sym c.is_known.ensures ∙ c.if-not-is_known.false))

pub returns : goal.returns
returns c =
    let a = c.args in
    all_end (known_at (length a.l.offsets.now) a.l.kinds.now a.l.regions.now) _ c.loop-k.k c.loop-k.invariant.1 c.loop-k.invariant.0 c.loop-k-test.false
