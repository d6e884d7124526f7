-- The plane that a drawing states, with the texts of its regions: document 01, "Regions and plane".
use Rattle.std.specs.Prelude.{List, ℕ, ◌+◌, ◌*◌, ◌≤◌, length, take, Ok, Err}
use Rattle.lists.specs.Answer.{◌>>=◌}
use Rattle.lists.specs.Picture.{Picture}
use Rattle.model.specs.Limits.{plane_size, region_count, text_bytes}
use Rattle.model.specs.Refusals.{Reading}
use Rattle.cells.specs.Held.{Held}
use Rattle.cells.specs.Plane.{TextPlane, plane_in}
use Rattle.cells.specs.Spans.{texts_in}
use Rattle.frames.specs.declared.outline.Outline.{Outline}
use Rattle.frames.specs.regions.Slices.{SmallSizes}
use Rattle.text_planes.specs.step.PlaneStep.{plane_by}
use Rattle.walks.specs.Frame.{FrameFinder, frame_of}
use Rattle.walks.specs.Kinds as kind
use Rattle.text_planes.specs.RegionTexts.{region_texts_by}
use Rattle.text_planes.specs.declared.PlaneRead.{PlaneRead}

-- the regions of THIN and their texts on TEXT, then the plane of GRID: the texts are counted (7) before the plane is made
unfoldable pub text_plane_by : FrameFinder → Outline → Picture → Picture → Picture → ℕ → ℕ → Reading TextPlane
text_plane_by find o text thin grid w h = do
  g ← region_texts_by find text thin w h
  P ← plane_by (find kind.grid grid w h) o g.rects grid w h
  Ok (record { plane = P; texts = g.texts })

-- the same by walks
abbrev pub text_plane_of : Outline → Picture → Picture → Picture → ℕ → ℕ → Reading TextPlane
text_plane_of = text_plane_by frame_of

-- an answer's plane and texts, with the slices that hold them
abbrev pub plane_read : Reading PlaneRead → List ℕ → List ℕ → List ℕ → Reading TextPlane
plane_read (Ok p) plane bytes spans = Ok (record { plane = plane_in plane p.rows; texts = texts_in bytes spans p.count })
plane_read (Err r) plane bytes spans = Err r

-- an answer's texts lie in the first 61,440 bytes
abbrev pub PlaneHeld : Reading PlaneRead → List ℕ → List ℕ → List ℕ → Type 0
PlaneHeld (Ok p) plane bytes spans = Held plane p.rows (take text_bytes bytes) spans p.count
PlaneHeld (Err r) plane bytes spans = Unit {0}

-- the slices that reading a plane of w columns and h rows is handed: t has TEXT and takes the plane, m has THIN and takes the number
-- of each frame, b takes the regions
pub record PlaneRoom (w h : ℕ) (t m b bytes spans : List ℕ) : Type 0 where
  pub small : SmallSizes w h
  pub text : h * w ≤ length t
  pub thin : h * w ≤ length m
  pub four_each : region_count * 4 ≤ length b
  pub all_texts : text_bytes + 4 ≤ length bytes
  pub two_each : region_count * 2 ≤ length spans
  pub plane : plane_size ≤ length t
