-- The canvas at its limits (document 01, "Sheets by example"), by computation.
use Rattle.std.specs.Prelude.{Err}
use mathlib.Core.Path.{◌≡◌, refl}
use mathlib.Core.List.{[], ◌∷◌}
use lib.ListN.{replicate}
use Rattle.lists.specs.Picture.{within}
use Rattle.model.specs.Box.{┌}
use Rattle.model.specs.declared.Refusal.TheVariants.{CanvasTooLarge, CharactersNotFound}
use Rattle.frames.specs.outline.Outline.{search_from, outline_by}
use Rattle.scan.specs.sheet_rows.Rows.{rows, widest}
use Rattle.scan.specs.Canvas.{size_of}
use Rattle.scan.specs.Rows.{flat}
use Rattle.canvas.specs.Layers.{drawing_by, drawing_of}

-- 96 rows are looked at, 97 are too many: 2 97 1
rows_96 : drawing_of (replicate 96 (┌ ∷ [])) ≡ Err (CharactersNotFound 9573)
unfolding drawing_by size_of outline_by search_from widest flat within
rows_96 = refl

rows_97 : drawing_of (replicate 97 (┌ ∷ [])) ≡ Err (CanvasTooLarge 97 1)
unfolding drawing_by size_of widest
rows_97 = refl

-- 160 characters are looked at, 161 are too many: 2 1 161
columns_160 : drawing_of (replicate 160 ┌ ∷ []) ≡ Err (CharactersNotFound 9573)
unfolding drawing_by size_of outline_by search_from widest flat within
columns_160 = refl

columns_161 : drawing_of (replicate 161 ┌ ∷ []) ≡ Err (CanvasTooLarge 1 161)
unfolding drawing_by size_of widest
columns_161 = refl
