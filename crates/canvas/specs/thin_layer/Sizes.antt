-- What the passes ask of a body r in a canvas of w columns and h rows.
use Rattle.std.specs.Prelude.{ℕ, ◌≤◌, ◌<◌}
use Rattle.model.specs.declared.Rect.{Rect}

-- the body lies in the canvas
pub record BodyIn (w h : ℕ) (r : Rect) : Type 0 where
  pub wide : r.left < r.right
  pub within : r.right ≤ w
  pub tall : r.top < r.bottom
  pub inside : r.bottom ≤ h
