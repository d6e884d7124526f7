-- What the functions of the plane step ask for, and what they answer with the slice that holds the plane, or its writer.
use Rattle.std.specs.Prelude.{List, ◌≡◌, ℕ, ◌*◌, length, Ok, Err}
use Rattle.lists.specs.Picture.{canvas}
use Rattle.model.specs.Layers.{picture_of}
use Rattle.model.specs.Refusals.{Reading}
use Rattle.model.specs.declared.Rect.{Rect}
use Rattle.model.specs.declared.Refusal.{Refusal}
use Rattle.model.specs.declared.Refusal.TheVariants.{RegionNotFound}
use Rattle.cells.specs.Plane.{Plane, plane_in, PlaneFits}
use Rattle.cells.specs.declared.plane_writer.PlaneWriter.{PlaneWriter}
use Rattle.text_planes.specs.plane_rows.Made.{rows_of}
use Rattle.text_planes.specs.plane_rows.Rows.{Rows}
use Rattle.text_planes.specs.declared.plane_rows.sofar.PlaneSofar.{PlaneSofar}
use Rattle.frames.specs.regions.Regions.{Finder}
use Rattle.text_planes.specs.declared.step.numbers.NumberedGrid.{NumberedGrid}
use Rattle.frames.specs.lookup.Lookup.{Numbered}
use Rattle.walks.specs.Frame.{frame_of}
use Rattle.walks.specs.Kinds.{grid}

-- why a frame has no region: it is none, or no region contains it (6)
abbrev pub no_region : Reading Rect → Refusal
no_region (Ok f) = RegionNotFound f.left f.top
no_region (Err r) = r

-- an answer's rows
abbrev pub rows_made : Reading PlaneSofar → PlaneWriter → Reading Rows
rows_made (Ok s) w = Ok (rows_of s w)
rows_made (Err r) w = Err r

-- an answer's plane
abbrev pub plane_made : Reading ℕ → List ℕ → Reading Plane
plane_made (Ok n) d = Ok (plane_in d n)
plane_made (Err r) d = Err r

abbrev pub MadeFits : Reading ℕ → List ℕ → Type 0
MadeFits (Ok n) d = PlaneFits d n
MadeFits (Err r) d = Unit {0}

-- a fact of every `count` regions whose numbers stand in `found`
abbrev pub Over : ℕ → ℕ → ℕ → List ℕ → List ℕ → (List Rect → Type 0) → Type 0
Over w h count l found Is = (rs : List Rect) → length rs ≡ count → Numbered (frame_of grid (canvas w h l) w h) rs (canvas w h l) w (h * w) found → Is rs

-- the same of the regions whose numbers a value holds
abbrev pub OverNumbered : NumberedGrid → (List Rect → Type 0) → Type 0
OverNumbered n = Over n.grid.width n.grid.height n.count n.grid.codes.now n.found.now

-- the frames of its GRID
abbrev pub frames_in : NumberedGrid → Finder
frames_in n = frame_of grid (picture_of n.grid) n.grid.width n.grid.height
