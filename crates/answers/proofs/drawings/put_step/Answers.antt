-- `answers::drawings::put_step` meets its contract.
use mathlib.Core.Path.{refl}
use Rattle.print.proofs.WrittenLaws.{written_as, written_within}
use Rattle.answers.proofs.drawings.DrawingLaws.{made_lines, not_made, canvas_most}
use native.Mathlib.Omega.{arith}
use Rattle.answers.proofs.drawings.put_step.Goals as goal

pub slice_bounds-make_plane-end : goal.slice_bounds-make_plane-end
slice_bounds-make_plane-end g c = refl

pub slice_bounds-make_plane-end-2 : goal.slice_bounds-make_plane-end-2
slice_bounds-make_plane-end-2 g c = refl

pub make_plane-requires : goal.make_plane-requires
make_plane-requires g c = omega (arith, c.requires, canvas_most c.requires.1)

pub returns-in-Ok : goal.returns-in-Ok
returns-in-Ok g c = written_as c.put_plane.ensures (made_lines _ _ _ c.make_plane.ensures.made c.in-Ok.is)

pub returns-in-Err : goal.returns-in-Err
returns-in-Err g c = written_within (written_as c.put_refusal.ensures (not_made _ _ _ c.make_plane.ensures.made c.in-Err.is)) (omega arith)
