-- What the functions of the crate answer.
use Rattle.std.specs.Prelude.{◌≡◌, ℕ, ◌+◌, ◌≤◌, ◌<◌, Option, None, Some, Ok, Err}
use Rattle.model.specs.Limits.{plane_cells}
use Rattle.model.specs.Refusals.{Reading}
use Rattle.cells.specs.declared.place.Place.{Place}
use Rattle.clauses.specs.declared.Notes.{Notes}
use Rattle.clauses.specs.declared.Shape.{Shape}

-- a place in column c
abbrev pub SpotInColumn : Option Place → ℕ → ℕ → Type 0
SpotInColumn (Some p) rows c = (p.row < rows) × (p.col ≡ c)
SpotInColumn None rows c = Unit {0}

-- the annotations lie behind column c, in 64 columns
abbrev pub NotesFit : Reading Notes → ℕ → ℕ → Type 0
NotesFit (Ok a) rows c = (c + a.count ≤ plane_cells) × (a.col + a.count ≤ plane_cells) × (a.row ≤ rows)
NotesFit (Err r) rows c = Unit {0}

-- a shape lies in so many rows of 64 columns, of which `rules` are rules
pub record ShapeFits (s : Shape) (rows rules : ℕ) : Type 0 where
  pub columns : s.inputs + 1 + s.outputs + s.notes.count ≤ plane_cells
  pub behind : s.notes.col + s.notes.count ≤ plane_cells
  pub height : s.height + 1 + rules ≤ rows
  pub notes : s.notes.row ≤ rows

abbrev pub ShapedFits : Reading Shape → ℕ → ℕ → Type 0
ShapedFits (Ok s) rows rules = ShapeFits s rows rules
ShapedFits (Err r) rows rules = Unit {0}
