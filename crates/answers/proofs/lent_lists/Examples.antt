-- An example: a lent plane as the judge has it.
use Rattle.std.specs.Prelude.{Some}
use mathlib.Core.List.{[], ◌∷◌}
use mathlib.Core.Path.{◌≡◌, refl}
use Rattle.answers.specs.lent_lists.LentText.{counted, lent_in}

-- one row of one cell, which has region 3, and no texts
one_cell : lent_in (0 ∷ 1 ∷ 1 ∷ 0 ∷ 1 ∷ 0 ∷ 0 ∷ 1 ∷ 3 ∷ 0 ∷ 0 ∷ 0 ∷ 0 ∷ 0 ∷ 0 ∷ [])
    ≡ Some (record { rows = 1 ∷ []; kinds = 0 ∷ []; regions = 3 ∷ []; offsets = []; sizes = []; bytes = [] })
unfolding lent_in counted
one_cell = refl
