-- The layers and the regions for which there is room.
use Rattle.std.specs.Prelude.{◌≤◌, ◌≡◌, length}
use Rattle.model.specs.Limits.{canvas_rows, canvas_columns, region_count, text_bytes}
use Rattle.model.specs.declared.layer.Layer.{Layer}
use Rattle.cells.specs.Slices.{texts_of}
use Rattle.cells.specs.declared.texts.Texts.{Texts}
use Rattle.cells.specs.declared.rects.list.Rects.{Rects}
use Rattle.text_planes.specs.texts.RegionText.{packed}

-- a layer no larger than the widest and the highest canvas
pub record OnCanvas (l : Layer) : Type 0 where
  pub columns : l.width ≤ canvas_columns
  pub rows : l.height ≤ canvas_rows

-- layers of as many columns and rows
pub record SameSize (l m : Layer) : Type 0 where
  pub columns : l.width ≡ m.width
  pub rows : l.height ≡ m.height

-- texts no longer together than those of a sheet may be
abbrev pub Few : Texts → Type 0
Few t = length (packed (texts_of t)) ≤ text_bytes

-- regions as a sheet may have them: as many rects as texts
pub record Regions (rs : Rects) (t : Texts) : Type 0 where
  pub count : t.count ≤ region_count
  pub same : rs.count ≡ t.count
  pub few : Few t
