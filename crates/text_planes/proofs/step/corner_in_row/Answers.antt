-- `text_planes::step::corner_in_row` meets its contract.
use Prim.Native.Nat.{suc, ◌+◌, ◌*◌, ◌≤◌}
use native.Mathlib.Nat.{suc-mul, mul-le-mul_right}
use native.Mathlib.Omega.{arith}
use Rattle.frames.proofs.regions.CornerLaws.{next_within}
use Rattle.text_planes.proofs.step.RowLaws.{corner-column}
use Rattle.text_planes.proofs.step.corner_in_row.Goals as goal

pub returns : goal.returns
returns c =
    let a = c.args in
    let l = a.layer in
    let end : suc a.y * l.width ≤ l.height * l.width = mul-le-mul_right l.width c.requires.1 in
    corner-column l.codes.now l.width a.x a.y _ (next_within _ (a.y * l.width + l.width) _ _ (omega (arith, end, suc-mul a.y l.width, l.sized)) c.next_corner.ensures)
