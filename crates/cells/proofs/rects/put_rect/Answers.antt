-- `cells::rects::put_rect` meets its contract.
use lib.ListN.{length-set}
use Rattle.cells.proofs.rects.RectsLaws.{next_rect}
use native.Mathlib.Omega.{arith}
use Rattle.cells.proofs.rects.put_rect.Goals as goal

pub bounds-rects-p-2 : goal.bounds-rects-p-2
bounds-rects-p-2 c = simp length-set (omega arith)

pub bounds-rects-p-3 : goal.bounds-rects-p-3
bounds-rects-p-3 c = simp length-set (omega arith)

pub bounds-rects-p-4 : goal.bounds-rects-p-4
bounds-rects-p-4 c = simp length-set (omega arith)

pub returns : goal.returns
returns c = next_rect c.args.rects.now c.args.n c.args.r c.requires.0
