-- The whole reader. docs/SLICES.md lists its slices.
use Rattle.std.specs.Prelude.{List, [], ◌∷◌, ℕ}
use Rattle.policies.specs.DrawnPolicy.{walked_policy}
use Rattle.builder.specs.ends.Ends.{End, end_of}

-- the constants of the whole reader: TEXT, THIN, BODY, GRID, spans, texts
abbrev pub sheet_sizes : List ℕ
sheet_sizes = 15360 ∷ 15360 ∷ 15360 ∷ 15360 ∷ 2048 ∷ 61444 ∷ []

-- the end of the whole reader on some bytes
abbrev pub sheet_end : List ℕ → List (List ℕ) → List ℕ → End
sheet_end s works out = end_of sheet_sizes (walked_policy s) works out
