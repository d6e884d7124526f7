-- What is read from a place of a layer.
use Rattle.std.specs.Prelude.{ℕ}
use Rattle.lists.specs.Picture.{Picture}
use Rattle.model.specs.Layers.{picture_of}
use Rattle.walks.specs.declared.spot.Spot.{Spot}

-- f of a layer's picture, its columns and rows, and of the column and the row of a place of it
abbrev pub from_spot : {A : Type 0} → (Picture → ℕ → ℕ → ℕ → ℕ → A) → Spot → A
from_spot f s = f (picture_of s.layer) s.layer.width s.layer.height s.at.x s.at.y
