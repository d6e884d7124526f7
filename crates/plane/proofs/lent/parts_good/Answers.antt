-- `plane::lent::parts_good` meets its contract.
use mathlib.Core.Path.{sym, ◌∙◌}
use Rattle.plane.proofs.lent.TextLaws.{good_at}
use Rattle.plane.proofs.lent.AllAtLaws.{all_start, all_more, all-out, all_end}
use native.Mathlib.Omega.{arith}
use Rattle.plane.proofs.lent.parts_good.Goals as goal

pub loop-k-init : goal.loop-k-init
loop-k-init c = let a = c.args in (omega arith, all_start (good_at a.l.offsets.now a.l.sizes.now a.l.bytes.now))

pub returns-then-not-is_text : goal.returns-then-not-is_text
returns-then-not-is_text c =
    let a = c.args in
    all-out (good_at a.l.offsets.now a.l.sizes.now a.l.bytes.now) _ c.loop-k.k c.loop-k-test.true (sym c.is_text.ensures ∙ c.if-not-is_text.true)

pub loop-k-preserved : goal.loop-k-preserved
loop-k-preserved c =
    let a = c.args in
    (omega (arith, c.loop-k-test.true), all_more (good_at a.l.offsets.now a.l.sizes.now a.l.bytes.now) c.loop-k.k c.loop-k.invariant.1 (sym c.is_text.ensures ∙ c.if-not-is_text.false))

pub returns : goal.returns
returns c =
    let a = c.args in
    all_end (good_at a.l.offsets.now a.l.sizes.now a.l.bytes.now) _ c.loop-k.k c.loop-k.invariant.1 c.loop-k.invariant.0 c.loop-k-test.false
