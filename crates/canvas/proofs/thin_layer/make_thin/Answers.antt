-- `canvas::thin_layer::make_thin` meets its contract. The invariant: THIN of the first i characters is made, and `kept` has THIN's character of its TEXT's.
use mathlib.Core.Path.{refl, ap, ◌∙◌}
use native.Mathlib.Omega.{arith}
use lib.ListN.{set, length-set}
use Rattle.canvas.specs.thin_layer.Thin.{thin_of}
use Rattle.canvas.proofs.thin_layer.ThinLaws.{thin-blank, thin-canvas}
use Rattle.canvas.proofs.thin_layer.Turning.{turning_start, turning_more, turning_end}
use Rattle.canvas.proofs.thin_layer.make_thin.Goals as goal
use Rattle.canvas.proofs.thin_layer.make_thin.Goals.{then-code-kept, else-code-kept}

pub loop-i-init : goal.loop-i-init
loop-i-init c = (turning_start _ _ _, thin-blank)

pub loop-i-preserved : goal.loop-i-preserved
loop-i-preserved c =
    let l = c.loop-i in
    elim c.if-code-kept.branch [
      | then-code-kept w ↦
          rw (w.kept-is, w.thin-kept.ensures)
          (turning_more l.invariant.0 _ c.loop-i-test.true (length-set l.thins l.i _) refl, refl)
      | else-code-kept w ↦
          rw w.kept-is
          (turning_more l.invariant.0 _ c.loop-i-test.true (length-set l.thins l.i _) (ap (set l.thins l.i) (l.invariant.1 ∙ ap thin_of (omega (arith, w.if-code-kept.false)))), l.invariant.1)
    ]

pub returns : goal.returns
returns c =
    let a = c.args in
    thin-canvas a.text.width a.text.height a.text.codes.now a.thins.now _ c.requires (turning_end c.loop-i.invariant.0 c.loop-i-test.false)
