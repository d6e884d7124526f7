-- `canvas::grid_layer::has_code` meets its contract. The invariant: none of the first k places holds the code.
use borrow.Author.Rules.{rules}
use mathlib.Core.Path.{◌≡◌, sym}
use native.Mathlib.Omega.{arith}
use borrow.Author.Tests.{eq-eqb, ne_eqb}
use Rattle.lists.proofs.OneOfLaws.{any_none, any_more, any_found}
use Rattle.canvas.proofs.grid_layer.has_code.Goals as goal

pub loop-k-init : goal.loop-k-init
loop-k-init c = (search rules, any_none _)

pub returns-then-s-place : goal.returns-then-s-place
returns-then-s-place c = sym (any_found _ _ c.loop-k.k c.loop-k-test.true (rw (sym c.place.ensures) (eq-eqb _ _ c.if-s-place.true)))

pub loop-k-preserved : goal.loop-k-preserved
loop-k-preserved c = (search rules, any_more _ _ c.loop-k.invariant.1 (rw (sym c.place.ensures) (ne_eqb _ _ c.if-s-place.false)))

pub returns : goal.returns
returns c =
    let q : c.args.l.count ≡ c.loop-k.k = omega arith in
    rw q (sym c.loop-k.invariant.1)
