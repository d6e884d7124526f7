-- `canvas::grid_layer::copy_layer` meets its contract. The invariant: the first i characters are copied.
use mathlib.Core.Path.{◌≡◌, refl, ap, ◌∙◌}
use mathlib.Core.List.{◌++◌}
use Prim.Native.Nat.{ℕ, ◌*◌}
use native.Mathlib.Omega.{arith}
use lib.ListN.{take, drop, length-set}
use Rattle.lists.proofs.TurnsLaws.{pass-more}
use Rattle.canvas.proofs.grid_layer.copy_layer.Goals as goal

pub loop-i-init : goal.loop-i-init
loop-i-init c = (refl, refl)

pub loop-i-preserved : goal.loop-i-preserved
loop-i-preserved c =
    let a = c.args in
    let l = c.loop-i in
    (length-set l.dst l.i _ ∙ l.invariant.0, pass-more a.src.codes.now a.dst.now l.dst l.i _ 0 (omega (arith, a.src.sized, c.loop-i-test.true)) (omega (arith, c.requires, c.loop-i-test.true)) refl l.invariant.1)

pub returns : goal.returns
returns c =
    let a = c.args in
    let q : c.loop-i.i ≡ a.src.height * a.src.width = omega (arith, c.loop-i-test.false, c.loop-i.auto.i-end) in
    c.loop-i.invariant.1 ∙ ap (λ (i : ℕ). take i a.src.codes.now ++ drop i a.dst.now) q
