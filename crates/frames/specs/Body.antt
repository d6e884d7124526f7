-- The body of a table on TEXT: document 01, "Canvas", and the Rust's `recognize_body_rect`.
use Rattle.std.specs.Prelude.{[], ◌∷◌, ℕ, ◌+◌, ◌-◌, Ok}
use Rattle.lists.specs.Answer.{◌>>=◌}
use Rattle.lists.specs.Picture.{Picture}
use Rattle.model.specs.Box.{═, ║, ╞, ╟, ╡, ╢, ╤, ╥, ╧, ╨, ╪, ╫, ╬}
use Rattle.model.specs.Refusals.{Reading}
use Rattle.model.specs.declared.Rect.{Rect}
use Rattle.walks.specs.Walk.{go_of}
use Rattle.walks.specs.declared.Direction.TheVariants.{Right, Down, Left, Up}

-- the body, by four walks from the main crossing along its double lines
unfoldable pub body_of : Picture → ℕ → ℕ → ℕ → ℕ → Reading Rect
body_of p w h x y = do
  u ← go_of Up p w h x y (╥ ∷ []) (║ ∷ ╫ ∷ ╟ ∷ ╢ ∷ [])
  d ← go_of Down p w h x y (╨ ∷ []) (║ ∷ ╫ ∷ ╟ ∷ ╢ ∷ ╬ ∷ [])
  l ← go_of Left p w h x y (╞ ∷ []) (═ ∷ ╪ ∷ ╧ ∷ ╤ ∷ [])
  r ← go_of Right p w h x y (╡ ∷ []) (═ ∷ ╪ ∷ ╧ ∷ ╤ ∷ ╬ ∷ [])
  Ok (record { left = x - l; top = y - u; right = x + r + 1; bottom = y + d + 1 })
