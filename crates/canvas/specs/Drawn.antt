-- What drawing a sheet answers, and what it leaves in the layers.
use Rattle.std.specs.Prelude.{List, ◌≡◌, ℕ, ◌≤◌, length, drop, Ok, Err}
use Rattle.lists.specs.Picture.{canvas}
use Rattle.model.specs.Limits.{canvas_size}
use Rattle.model.specs.Refusals.{Reading}
use Rattle.model.specs.declared.Rect.{Rect}
use Rattle.frames.specs.declared.outline.Outline.{Outline}
use Rattle.scan.specs.sheet_rows.Rows.{widest}
use Rattle.scan.specs.sheet_rows.Sheet.{rest_of}
use Rattle.characters.specs.utf8.Utf8.{codes}
use Rattle.canvas.specs.Layers.{text_layer, thin_layer, body_layer, grid_layer}
use Rattle.canvas.specs.declared.Drawing.{Drawing}

-- an answer's outline
abbrev pub outline_in : Reading Drawing → Reading Outline
outline_in (Ok d) = Ok d.outline
outline_in (Err r) = Err r

-- four slices show the layers of some rows
pub record Shown (rs : List (List ℕ)) (height width : ℕ) (r : Rect) (t m b g : List ℕ) : Type 0 where
  pub rows : height ≡ length rs
  pub columns : width ≡ widest rs
  pub text : canvas width height t ≡ text_layer rs
  pub thin : canvas width height m ≡ thin_layer rs
  pub body : canvas width height b ≡ body_layer rs r
  pub grid : canvas width height g ≡ grid_layer rs r

-- what an answer says of the slices
abbrev pub LayersIn : Reading Drawing → List (List ℕ) → List ℕ → List ℕ → List ℕ → List ℕ → Type 0
LayersIn (Ok d) rs t m b g = Shown rs d.rows d.columns d.outline.body t m b g
LayersIn (Err r) rs t m b g = Unit {0}

-- an answer's end: the bytes from there on are those behind the sheet
abbrev pub Ended : Reading Drawing → List ℕ → ℕ → Type 0
Ended (Ok d) s at = (d.end ≤ length s) × (codes (drop d.end s) ≡ rest_of (codes (drop at s)))
Ended (Err r) s at = Unit {0}

-- slices for the layers of the largest canvas
pub record Room (t m b g : List ℕ) : Type 0 where
  pub text : canvas_size ≤ length t
  pub thin : canvas_size ≤ length m
  pub body : canvas_size ≤ length b
  pub grid : canvas_size ≤ length g
