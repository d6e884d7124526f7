-- `answers::sketch::put_region` meets its contract.
use Rattle.print.proofs.WrittenLaws.{written_then, written_long, written_within}
use Rattle.answers.specs.sketch.Drawings.{region_line}
use native.Mathlib.Omega.{arith}
use Rattle.answers.proofs.sketch.put_region.Goals as goal

pub put_text-requires : goal.put_text-requires
put_text-requires g c = omega (arith, c.requires, written_long c.put_rect.ensures)

pub returns : goal.returns
unfolding region_line
returns g c = written_within (written_then c.put_rect.ensures c.put_text.ensures) (omega arith)
