-- THIN: document 01, "The passage from TEXT to THIN goes by the character", and `prepare_regions` of the Rust.
use Rattle.std.specs.Prelude.{List, [], ◌∷◌, ℕ, get_or, set}
use Rattle.lists.specs.Choose.{choose}
use Rattle.lists.specs.OneOf.{one_of}
use Rattle.lists.specs.Picture.{Picture, within}
use Rattle.model.specs.Box.{─, │, ┌, ┐, └, ┘, ├, ┤, ┬, ┴, ┼, ═, ║, ╞, ╟, ╡, ╢, ╤, ╥, ╧, ╨, ╪, ╫, ╬, ░, blank}

-- a character's THIN: single lines, ░ and blank stay, double lines become single ones, any other character becomes blank
unfoldable pub thin_of : ℕ → ℕ
thin_of c =
    choose (one_of c (┌ ∷ ┐ ∷ └ ∷ ┘ ∷ ┬ ∷ ┴ ∷ ─ ∷ │ ∷ ├ ∷ ┼ ∷ ┤ ∷ blank ∷ ░ ∷ [])) c
    (choose (one_of c (╥ ∷ ╤ ∷ [])) ┬
    (choose (one_of c (║ ∷ [])) │
    (choose (one_of c (╨ ∷ ╧ ∷ [])) ┴
    (choose (one_of c (═ ∷ [])) ─
    (choose (one_of c (╞ ∷ ╟ ∷ [])) ├
    (choose (one_of c (╡ ∷ ╢ ∷ [])) ┤
    (choose (one_of c (╫ ∷ ╪ ∷ ╬ ∷ [])) ┼
    blank)))))))

-- the four layers of a character after the passage
abbrev pub thin_layers : List ℕ → List ℕ
thin_layers c = set c 1 (thin_of (get_or c 0 0))

-- THIN of TEXT, in a picture of w columns and h rows
abbrev pub thin_picture : ℕ → ℕ → Picture → Picture
thin_picture w h T = within w h (λ x y. thin_of (T x y))
