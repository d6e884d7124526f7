-- `answers::plane_lines::put_upright` meets its contract.
use Rattle.print.proofs.WrittenLaws.{written_long, written_then}
use Rattle.answers.specs.plane_lines.Planes.{upright_lines}
use native.Mathlib.Omega.{arith}
use Rattle.answers.proofs.plane_lines.put_upright.Goals as goal

pub put_plane-requires : goal.put_plane-requires
put_plane-requires g c = omega (arith, written_long c.put_three.ensures, c.requires)

pub returns : goal.returns
unfolding upright_lines
returns g c = written_then c.put_three.ensures c.put_plane.ensures
