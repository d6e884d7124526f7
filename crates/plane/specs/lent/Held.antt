-- What loading a lent plane answers, with the slices that hold it.
use Rattle.std.specs.Prelude.{List, ◌≡◌, ℕ, ◌+◌, ◌*◌, ◌≤◌, ◌<◌, length, get_or, Ok, Err}
use Rattle.model.specs.Limits.{plane_rows, plane_cells, plane_size, region_count, text_bytes}
use Rattle.model.specs.Refusals.{Reading}
use Rattle.cells.specs.Held.{Held}
use Rattle.cells.specs.Plane.{TextPlane, plane_in}
use Rattle.cells.specs.Spans.{offset_at, length_at, texts_in}
use Rattle.plane.specs.lent.LentPlane.{sum}

-- cells of kind 0 have the number of one of 1,024 regions
pub record CellsGood (kinds regions : List ℕ) : Type 0 where
  pub same : length regions ≡ length kinds
  pub known : (k : ℕ) → k < length kinds → get_or kinds k 0 ≡ 0 → get_or regions k 0 < region_count

-- so have the cells of some rows
pub record RowsGood (rows kinds regions : List ℕ) : Type 0 where
  pub cells : CellsGood kinds regions
  pub few : length rows ≤ plane_rows
  pub short : (i : ℕ) → i < length rows → get_or rows i 0 ≤ plane_cells
  pub total : sum rows ≡ length kinds

-- parts lie within the bytes, of which there are at most 61,440
pub record PartsGood (offsets sizes bytes : List ℕ) : Type 0 where
  pub same : length sizes ≡ length offsets
  pub few : length bytes ≤ text_bytes
  pub inside : (k : ℕ) → k < length offsets → get_or offsets k 0 + get_or sizes k 0 ≤ length bytes

pub record SpansIn (bytes spans : List ℕ) (count : ℕ) : Type 0 where
  pub inside : (k : ℕ) → k < count → offset_at spans k + length_at spans k ≤ length bytes

-- room for a plane and for the offsets and lengths of its texts
pub record Room (plane spans : List ℕ) : Type 0 where
  pub size : plane_size ≤ length plane
  pub two_each : region_count * 2 ≤ length spans

-- an answer's plane, with `count` texts
abbrev pub loaded_in : Reading ℕ → List ℕ → List ℕ → List ℕ → ℕ → Reading TextPlane
loaded_in (Ok n) d bytes spans count = Ok (record { plane = plane_in d n; texts = texts_in bytes spans count })
loaded_in (Err r) d bytes spans count = Err r

abbrev pub LoadedHeld : Reading ℕ → List ℕ → List ℕ → List ℕ → ℕ → Type 0
LoadedHeld (Ok n) d bytes spans count = Held d n bytes spans count
LoadedHeld (Err r) d bytes spans count = Unit {0}
