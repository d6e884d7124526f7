-- The Unicode Character Database's property White_Space (PropList.txt): 25 code points.
use Rattle.std.specs.Prelude.{Bool, false, ◌||◌, List, [], ◌∷◌, ℕ}
use Rattle.characters.specs.utf8.Utf8.{Range, ◌–◌, in_range}

abbrev pub spaces : List Range
spaces =
    (0x0009 – 0x000D)
    ∷ (0x0020 – 0x0020)
    ∷ (0x0085 – 0x0085)
    ∷ (0x00A0 – 0x00A0)
    ∷ (0x1680 – 0x1680)
    ∷ (0x2000 – 0x200A)
    ∷ (0x2028 – 0x2029)
    ∷ (0x202F – 0x202F)
    ∷ (0x205F – 0x205F)
    ∷ (0x3000 – 0x3000)
    ∷ []

-- c is in one of the ranges
unfoldable pub among : List Range → ℕ → Bool
among [] c = false
among (r ∷ rs) c = in_range r c || among rs c

abbrev pub white : ℕ → Bool
white c = among spaces c
