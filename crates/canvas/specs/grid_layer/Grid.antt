-- GRID: document 01, "every row holding ─ and then every column holding │ is carried across the body", by `make_grid`'s cases.
use Rattle.std.specs.Prelude.{List, ℕ, ◌+◌, ◌-◌, eqb, ltb, get_or, set}
use Rattle.lists.specs.Choose.{choose}
use Rattle.lists.specs.OneOf.{any_at}
use Rattle.lists.specs.Picture.{Picture, in_rect}
use Rattle.model.specs.Box.{─, │, ├, ┤, ┬, ┴, ┼, blank}
use Rattle.model.specs.declared.Rect.{Rect}
use Rattle.canvas.specs.declared.grid_layer.Stroke.{Stroke}

-- along a row: ─ crosses │, and ├ ┤ are its ends
abbrev pub across : Stroke
across = record { line = ─; crossed = │; first = ├; last = ┤ }

-- along a column: │ crosses ─, and ┬ ┴ are its ends
abbrev pub down : Stroke
down = record { line = │; crossed = ─; first = ┬; last = ┴ }

-- the character at place k of a line of n that starts `off` places from the canvas's side, where c stood: the line is carried across it
unfoldable pub carried_code : Stroke → ℕ → ℕ → ℕ → ℕ → ℕ
carried_code d off n k c =
    choose (eqb c d.crossed) (choose (eqb k 0) d.first (choose (eqb (k + 1) n) d.last ┼))
    (choose (eqb c d.last) (choose (ltb (k + 1) n) ┼ c)
    (choose (eqb c d.first) (choose (ltb 0 (off + k)) ┼ c)
    (choose (eqb c blank) d.line c)))

-- the four layers of a character after its line is carried across
abbrev pub carried_layers : Stroke → ℕ → ℕ → ℕ → List ℕ → List ℕ
carried_layers d off n k c = set c 3 (carried_code d off n k (get_or c 3 0))

-- the character at place k of a line of n characters g 0, g 1, ..: a line that holds a character of its stroke is carried across, any other stays
abbrev pub carried_at : Stroke → ℕ → ℕ → (ℕ → ℕ) → ℕ → ℕ
carried_at d off n g k = choose (any_at (λ i. eqb (g i) d.line) n) (carried_code d off n k (g k)) (g k)

-- every row of the body r; `├` becomes ┼ at x > 0, so the row's place is counted from the canvas's side
abbrev pub rows_carried : Rect → Picture → Picture
rows_carried r G x y =
    choose (in_rect r.left r.top r.right r.bottom x y)
    (carried_at across r.left (r.right - r.left) (λ k. G (r.left + k) y) (x - r.left)) (G x y)

-- every column; `┬` becomes ┼ below the body's top
abbrev pub columns_carried : Rect → Picture → Picture
columns_carried r G x y =
    choose (in_rect r.left r.top r.right r.bottom x y)
    (carried_at down 0 (r.bottom - r.top) (λ k. G x (r.top + k)) (y - r.top)) (G x y)

-- GRID of BODY's picture: rows first, then columns
abbrev pub grid_picture : Rect → Picture → Picture
grid_picture r B = columns_carried r (rows_carried r B)
