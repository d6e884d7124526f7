-- A lent plane turned: document 01, "The turned plane is lent with its own row lengths and the same regions and texts."
use mathlib.Core.List.{map, flatten}
use Rattle.std.specs.Prelude.{ℕ, length}
use Rattle.lists.specs.Choose.{on_some}
use Rattle.model.specs.Cells.{kind_of, region_of}
use Rattle.model.specs.declared.Cell.{Cell}
use Rattle.cells.specs.Plane.{Plane}
use Rattle.plane.specs.lent.LentPlane.{LentPlane, cut, lent_cells}
use Rattle.cells.specs.turning.Upright.{turned}
use Rattle.plane.specs.Sheet.{last_first}

-- the region number that is lent with a cell's kind; 0 with a kind that ignores it
abbrev pub region_number : Cell → ℕ
region_number c = on_some (region_of c) (λ r. r) 0

-- a plane lent with its own row lengths, and with the regions and texts of l
abbrev pub lent_as : LentPlane → Plane → LentPlane
lent_as l P =
    record {
      rows = map length P;
      kinds = map kind_of (flatten P);
      regions = map region_number (flatten P);
      offsets = l.offsets;
      sizes = l.sizes;
      bytes = l.bytes;
    }

-- the plane that l lends, "with its last row put before its first and the whole then turned"
abbrev pub turned_plane : LentPlane → LentPlane
turned_plane l = lent_as l (turned (last_first (cut l.rows (lent_cells l))))
