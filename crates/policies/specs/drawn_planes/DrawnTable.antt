-- The plane of a drawing, and the slices that its table is made in.
use Rattle.std.specs.Prelude.{Bool, List, ℕ, ◌+◌, ◌*◌, ◌≤◌, length, take, Ok, Err}
use Rattle.lists.specs.Answer.{◌>>=◌}
use Rattle.model.specs.Limits.{region_count, text_bytes}
use Rattle.model.specs.Refusals.{Reading}
use Rattle.cells.specs.Held.{Held}
use Rattle.cells.specs.Plane.{TextPlane, plane_in}
use Rattle.cells.specs.Spans.{texts_in}
use Rattle.scan.specs.sheet_rows.Rows.{rows_at}
use Rattle.walks.specs.Frame.{frame_of}
use Rattle.canvas.specs.Drawn.{Room}
use Rattle.canvas.specs.Layers.{sheet_of}
use Rattle.record.specs.Policy.{Policy}
use Rattle.recognizer.specs.StatedPolicy.{stated_policy}
use Rattle.recognizer.specs.tables.NamedTable.{name_of, NameIn}
use Rattle.policies.specs.DrawnPolicy.{drawn_plane_by}
use Rattle.policies.specs.LentPolicy.{text_in}
use Rattle.policies.specs.declared.drawn_planes.DrawnRows.{DrawnRows}

-- a drawing's plane, and whether the drawing has a name
pub record NamedPlane : Type 0 where
  pub named : Bool
  pub read : TextPlane

unfoldable pub named_plane : List ℕ → Reading NamedPlane
named_plane s = do
  o ← sheet_of s
  t ← drawn_plane_by frame_of (rows_at s 0) o
  Ok (record { named = o.named; read = t })

-- what it states, with the first region's text for a name
abbrev pub named_policy : Reading NamedPlane → Reading Policy
named_policy m = do
  p ← m
  stated_policy (name_of p.named (text_in p.read)) (text_in p.read) p.read.plane

-- an answer's plane, with the slices that hold it
abbrev pub drawn_in : Reading DrawnRows → List ℕ → List ℕ → List ℕ → Reading NamedPlane
drawn_in (Ok d) plane bytes spans =
    Ok (record { named = d.named; read = record { plane = plane_in plane d.rows; texts = texts_in (take text_bytes bytes) spans d.count } })
drawn_in (Err r) plane bytes spans = Err r

-- its texts lie in the first 61,440 bytes, the name's among them
abbrev pub DrawnHeld : Reading DrawnRows → List ℕ → List ℕ → List ℕ → Type 0
DrawnHeld (Ok d) plane bytes spans = Held plane d.rows (take text_bytes bytes) spans d.count × NameIn d.named d.count
DrawnHeld (Err r) plane bytes spans = Unit {0}

-- the work slices: four layers, and the texts of the regions
pub record DrawnRoom (t m b g bytes spans : List ℕ) : Type 0 where
  pub layers : Room t m b g
  pub all_texts : text_bytes + 4 ≤ length bytes
  pub two_each : region_count * 2 ≤ length spans
