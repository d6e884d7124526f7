-- The sizes of a layer, and the regions that an answer and a slice hold.
use Rattle.std.specs.Prelude.{List, ℕ, ◌<◌, ◌^◌, Ok, Err}
use Rattle.model.specs.Refusals.{Reading}
use Rattle.model.specs.declared.Rect.{Rect}
use Rattle.cells.specs.rects.Rects.{rects_of}

-- an answer's regions, with the slice that holds them
abbrev pub regions_in : Reading ℕ → List ℕ → Reading (List Rect)
regions_in (Ok n) d = Ok (rects_of d n)
regions_in (Err r) d = Err r

-- w columns and h rows are numbers of 32 bits
pub record SmallSizes (w h : ℕ) : Type 0 where
  pub columns : w < 2 ^ 32
  pub rows : h < 2 ^ 32
