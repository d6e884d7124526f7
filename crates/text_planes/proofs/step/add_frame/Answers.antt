-- `text_planes::step::add_frame` meets its contract.
use Rattle.std.specs.Prelude.{Err}
use mathlib.Core.Path.{refl, ap, ◌∙◌}
use Prim.Native.Nat.{◌+◌, ◌*◌, ◌<◌}
use native.Mathlib.Omega.{arith}
use lib.ListN.{length}
use Rattle.lists.proofs.PictureLaws.{place-fits}
use Rattle.cells.proofs.WriterLaws.{same_kept}
use Rattle.text_planes.specs.plane_cells.Made.{row_of}
use Rattle.text_planes.specs.step.Made.{frames_in}
use Rattle.text_planes.proofs.step.RowLaws.{with_region, no_region_lem, number_at}
use Rattle.text_planes.proofs.step.add_frame.Goals as goal
use Rattle.text_planes.proofs.step.add_frame.Goals.{Start}

inside : (t : Start) → t.args.at.y * t.args.n.grid.width + t.args.at.x < length t.args.n.found.now
inside t =
    let n = t.args.n in
    place-fits n.grid.height n.grid.width t.args.at.x t.args.at.y (length n.found.now) t.requires.0.column t.requires.0.row n.numbers

pub overflow_mul-k : goal.overflow_mul-k
overflow_mul-k c = omega (arith, inside (goal.at.overflow_mul-k c).Start, c.well_formed)

pub overflow_add-k : goal.overflow_add-k
overflow_add-k c = omega (arith, inside (goal.at.overflow_add-k c).Start, c.well_formed)

pub offset_bounds-n-at : goal.offset_bounds-n-at
offset_bounds-n-at c = omega (arith, inside (goal.at.offset_bounds-n-at c).Start, c.well_formed)

pub bounds-n-at : goal.bounds-n-at
bounds-n-at c = inside (goal.at.bounds-n-at c).Start

pub add_cells-requires : goal.add_cells-requires
add_cells-requires c =
    (omega (arith, c.if-k-n.true, c.args.n.few), c.requires.1, c.args.plane.now.fits.room)

pub returns-then-k-n : goal.returns-then-k-n
returns-then-k-n c =
    let a = c.args in record {
      made = λ rs n m.
          c.add_cells.ensures.made
          ∙ with_region a.n.outline (frames_in c.args.n) rs a.plane.now.rows a.at.y a.at.x (row_of c.args.s c.args.plane.now) _ (number_at (frames_in c.args.n) rs a.n.grid.width a.n.grid.height a.n.grid.codes.now a.n.found.now a.at.x a.at.y c.requires.0.column c.requires.0.row c.requires.2 m) (omega (arith, n, c.if-k-n.true));
      fits = c.add_cells.ensures.fits;
      kept = record { same = refl; rows = refl; before = c.add_cells.ensures.before };
    }

pub returns : goal.returns
returns c =
    let a = c.args in record {
      made = λ rs n m.
          ap Err c.why_none.ensures
          ∙ no_region_lem a.n.outline (frames_in c.args.n) rs a.plane.now.rows a.at.y a.at.x (row_of c.args.s c.args.plane.now) _ (number_at (frames_in c.args.n) rs a.n.grid.width a.n.grid.height a.n.grid.codes.now a.n.found.now a.at.x a.at.y c.requires.0.column c.requires.0.row c.requires.2 m) (omega (arith, n, c.if-k-n.false));
      fits = tt;
      kept = same_kept a.plane.now;
    }
