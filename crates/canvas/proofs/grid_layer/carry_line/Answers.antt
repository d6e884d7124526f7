-- `canvas::grid_layer::carry_line` meets its contract. The invariant: the first k characters of the line are carried.
use mathlib.Core.Path.{refl, sym, ◌∙◌}
use native.Mathlib.Omega.{arith}
use Rattle.canvas.specs.grid_layer.Passes.{place_in}
use Rattle.canvas.proofs.grid_layer.CarryLaws.{own_stays, line_carried_lem, line_stays}
use Rattle.canvas.proofs.thin_layer.Turning.{turning_start, turning_more, turning_end}
use Rattle.canvas.proofs.grid_layer.carry_line.Goals as goal
use Rattle.canvas.proofs.grid_layer.carry_line.Goals.{then-grid-place, else-grid-place}

pub loop-k-init : goal.loop-k-init
loop-k-init c = turning_start _ _ _

pub loop-k-preserved : goal.loop-k-preserved
loop-k-preserved c =
    let a = c.args in
    let l = c.loop-k in
    elim c.if-grid-place.branch [
      | then-grid-place w ↦
          rw w.grid-is (turning_more l.invariant _ c.loop-k-test.true w.carry_at.auto.grid w.carry_at.ensures)
      | else-grid-place w ↦
          rw w.grid-is
          (turning_more l.invariant _ c.loop-k-test.true refl
          (own_stays a.d c.requires.line_stays a.l.off a.l.count l.k l.grid (place_in a.l l.k) (rw (sym c.place.ensures) (omega (arith, w.if-grid-place.false)))))
    ]

pub returns-after-loop-k : goal.returns-after-loop-k
returns-after-loop-k c =
    let a = c.args in
    turning_end c.loop-k.invariant c.loop-k-test.false
    ∙ line_carried_lem a.d a.l.off (place_in a.l) a.l.count a.grid.now (sym c.has_code.ensures ∙ c.if-has_code.true)

pub returns-else-has_code : goal.returns-else-has_code
returns-else-has_code c =
    let a = c.args in
    line_stays a.d a.l.off (place_in a.l) a.l.count a.grid.now (sym c.has_code.ensures ∙ c.if-has_code.false)
