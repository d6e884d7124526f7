-- Region texts by example.
use mathlib.Core.Path.{◌≡◌, refl}
use mathlib.Core.List.{List, [], ◌∷◌}
use Prim.Native.Nat.{ℕ}
use Rattle.lists.specs.Picture.{canvas, within}
use Rattle.lists.specs.Run.{run}
use Rattle.model.specs.Box.{─, │, ┌, ┐, └, ┘}
use Rattle.model.specs.declared.Rect.{Rect}
use Rattle.characters.specs.white_space.Lines.{texts}
use Rattle.characters.specs.white_space.Trim.{trim_start, trim_end, trim}
use Rattle.characters.specs.utf8.Utf8.{encode, encodes}
use Rattle.characters.specs.white_space.White.{among}
use Rattle.text_planes.specs.texts.RegionText.{behind, text_of}

-- a frame around five rows of five characters
abbrev whole : Rect
whole = record { left = 0; top = 0; right = 5; bottom = 5 }

-- ┌───┐
-- │ab │
-- │   │
-- │ c │
-- └───┘
abbrev two_rows : List ℕ
two_rows =
    ┌ ∷ ─ ∷ ─ ∷ ─ ∷ ┐
    ∷ │ ∷ 97 ∷ 98 ∷ 32 ∷ │
    ∷ │ ∷ 32 ∷ 32 ∷ 32 ∷ │
    ∷ │ ∷ 32 ∷ 99 ∷ 32 ∷ │
    ∷ └ ∷ ─ ∷ ─ ∷ ─ ∷ ┘ ∷ []

-- "ab c"
two_rows_text : text_of (canvas 5 5 two_rows) whole ≡ 97 ∷ 98 ∷ 32 ∷ 99 ∷ []
unfolding text_of behind texts trim trim_start trim_end among encodes encode run within
two_rows_text = refl

-- the same frame with three blank rows
abbrev blank-rows : List ℕ
blank-rows =
    ┌ ∷ ─ ∷ ─ ∷ ─ ∷ ┐
    ∷ │ ∷ 32 ∷ 32 ∷ 32 ∷ │
    ∷ │ ∷ 32 ∷ 32 ∷ 32 ∷ │
    ∷ │ ∷ 32 ∷ 32 ∷ 32 ∷ │
    ∷ └ ∷ ─ ∷ ─ ∷ ─ ∷ ┘ ∷ []

-- no text
blank_rows_text : text_of (canvas 5 5 blank-rows) whole ≡ []
unfolding text_of texts trim trim_start trim_end among encodes run within
blank_rows_text = refl
