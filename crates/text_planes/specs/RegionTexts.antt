-- The regions of a drawing with their texts: document 01, "Regions and plane".
use Rattle.std.specs.Prelude.{List, ◌≡◌, ℕ, ◌*◌, ◌≤◌, ◌+◌, length, Ok, Err}
use Rattle.lists.specs.Answer.{◌>>=◌}
use Rattle.lists.specs.Picture.{Picture}
use Rattle.model.specs.Limits.{region_count, text_bytes}
use Rattle.model.specs.Refusals.{Reading}
use Rattle.model.specs.declared.Rect.{Rect}
use Rattle.model.specs.declared.layer.Layer.{Layer}
use Rattle.cells.specs.rects.Rects.{rects_of}
use Rattle.frames.specs.regions.Slices.{SmallSizes}
use Rattle.frames.specs.regions.Regions.{regions_by}
use Rattle.text_planes.specs.texts.RegionText.{texts_of}
use Rattle.walks.specs.Frame.{FrameFinder, frame_of}
use Rattle.walks.specs.Kinds.{thin}
use Rattle.cells.specs.Spans.{texts_in}
use Rattle.text_planes.specs.texts.Spans.{SpansIn}
use Rattle.text_planes.specs.declared.RegionsRead.{RegionsRead}

pub record Regions : Type 0 where
  pub rects : List Rect
  pub texts : List (List ℕ)

-- the regions of THIN, and their texts on TEXT: all regions are found before any text is gathered
unfoldable pub region_texts_by : FrameFinder → Picture → Picture → ℕ → ℕ → Reading Regions
region_texts_by find text lines w h = do
  rs ← regions_by (find thin lines w h) lines w h
  ts ← texts_of text rs
  Ok (record { rects = rs; texts = ts })

-- the same by walks
abbrev pub region_texts_of : Picture → Picture → ℕ → ℕ → Reading Regions
region_texts_of = region_texts_by frame_of

-- an answer's regions, with the slices that hold them
abbrev pub regions_in : Reading RegionsRead → List ℕ → List ℕ → List ℕ → Reading Regions
regions_in (Ok g) rects bytes spans = Ok (record { rects = rects_of rects g.count; texts = texts_in bytes spans g.count })
regions_in (Err r) rects bytes spans = Err r

-- an answer's texts lie in the bytes that are used
abbrev pub UsedIn : Reading RegionsRead → List ℕ → List ℕ → Type 0
UsedIn (Ok g) bytes spans = (g.count ≤ region_count) × SpansIn (Ok g.used) bytes spans g.count
UsedIn (Err r) bytes spans = Unit {0}

-- the layers that reading regions is handed, of the same columns and rows, and the slices
pub record RegionRoom (text thin : Layer) (rects bytes spans : List ℕ) : Type 0 where
  pub columns : text.width ≡ thin.width
  pub rows : text.height ≡ thin.height
  pub small : SmallSizes thin.width thin.height
  pub four_each : region_count * 4 ≤ length rects
  pub all_texts : text_bytes + 4 ≤ length bytes
  pub two_each : region_count * 2 ≤ length spans
