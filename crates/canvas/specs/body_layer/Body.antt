-- BODY: document 01, and `remove_information_item_region` of the Rust.
use Rattle.std.specs.Prelude.{List, ℕ, ◌+◌, eqb, ltb, get_or, set}
use Rattle.lists.specs.Choose.{choose}
use Rattle.lists.specs.Picture.{Picture, in_rect}
use Rattle.model.specs.Box.{─, ┌, ┐, ├, ┤, ┬, ┴, ┼, ░}
use Rattle.model.specs.declared.Rect.{Rect}

-- "The top row turns ├ ┴ ┤ ┼ to ┌ ─ ┐ ┬"
unfoldable pub top_of : ℕ → ℕ
top_of c = choose (eqb c ├) ┌ (choose (eqb c ┴) ─ (choose (eqb c ┤) ┐ (choose (eqb c ┼) ┬ c)))

-- BODY's character in row y between the body's sides, of THIN's t and BODY's b: rows 0 to top - 2 become ░, row top - 1 stays, then THIN
unfoldable pub body_code : ℕ → ℕ → ℕ → ℕ → ℕ
body_code top y t b = choose (ltb (y + 1) top) ░ (choose (eqb y top) (top_of t) (choose (ltb top y) t b))

-- GRID's: the same rows become ░
unfoldable pub shaded_code : ℕ → ℕ → ℕ → ℕ
shaded_code top y g = choose (ltb (y + 1) top) ░ g

-- the four layers of a character in row y after the pass
abbrev pub body_layers : ℕ → ℕ → List ℕ → List ℕ
body_layers top y c = set (set c 2 (body_code top y (get_or c 1 0) (get_or c 2 0))) 3 (shaded_code top y (get_or c 3 0))

-- BODY after the pass, of THIN's picture T and BODY's picture B: in the columns of the body r, down to its bottom
abbrev pub body_picture : Rect → Picture → Picture → Picture
body_picture r T B x y = choose (in_rect r.left 0 r.right r.bottom x y) (body_code r.top y (T x y) (B x y)) (B x y)

-- GRID after the pass
abbrev pub shaded_picture : Rect → Picture → Picture
shaded_picture r G x y = choose (in_rect r.left 0 r.right r.bottom x y) (shaded_code r.top y (G x y)) (G x y)
