-- The table from a lent plane. docs/SLICES.md lists its slices.
use Rattle.std.specs.Prelude.{List, [], ◌∷◌, ℕ}
use Rattle.plane.specs.lent.LentPlane.{LentPlane}
use Rattle.policies.specs.LentPolicy.{lent_policy}
use Rattle.builder.specs.ends.Ends.{End, end_of}

-- the constants of the table from a lent plane: plane, spans, upright sheet, slots
abbrev pub lent_sizes : List ℕ
lent_sizes = 4160 ∷ 2048 ∷ 4160 ∷ 12480 ∷ []

-- the end of the table from a lent plane
abbrev pub lent_end : LentPlane → List (List ℕ) → List ℕ → End
lent_end l works out = end_of lent_sizes (lent_policy l) works out
