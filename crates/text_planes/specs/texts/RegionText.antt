-- The text of a region: document 01, "Regions and plane", and `text_from_rect` of the Rust.
use Rattle.std.specs.Prelude.{List, [], ◌∷◌, ◌++◌, map, ℕ, ◌+◌, ◌-◌, ltb, length, Ok, Err}
use Rattle.lists.specs.Choose.{choose}
use Rattle.lists.specs.Picture.{Picture}
use Rattle.lists.specs.Run.{build}
use Rattle.model.specs.Limits.{text_bytes}
use Rattle.model.specs.Refusals.{Reading}
use Rattle.model.specs.declared.Rect.{Rect}
use Rattle.model.specs.declared.Refusal.TheVariants.{OverLimit}
use Rattle.characters.specs.white_space.Lines.{texts}
use Rattle.characters.specs.utf8.Utf8.{encodes}

-- the characters between the sides of a frame, row by row; right and bottom are exclusive
abbrev pub between : Picture → Rect → List (List ℕ)
between p r = build (r.bottom - 1 - (r.top + 1)) (λ j. build (r.right - 1 - (r.left + 1)) (λ i. p (r.left + 1 + i) (r.top + 1 + j)))

-- each text behind a blank
unfoldable pub behind : List (List ℕ) → List ℕ
behind [] = []
behind (t ∷ ts) = 32 ∷ (t ++ behind ts)

-- texts joined with one blank
abbrev pub joined : List (List ℕ) → List ℕ
joined [] = []
joined (t ∷ ts) = t ++ behind ts

-- the rows between the sides, trimmed, without blank ones, joined with one blank, in UTF-8
unfoldable pub text_of : Picture → Rect → List ℕ
text_of p r = encodes (joined (texts (between p r)))

-- texts one behind the other
unfoldable pub packed : List (List ℕ) → List ℕ
packed [] = []
packed (t ∷ ts) = t ++ packed ts

-- the texts of all regions; over 61,440 bytes together they are refused (7)
unfoldable pub texts_of : Picture → List Rect → Reading (List (List ℕ))
texts_of p rs = choose (ltb text_bytes (length (packed (map (text_of p) rs)))) (Err OverLimit) (Ok (map (text_of p) rs))
