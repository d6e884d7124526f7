-- One text put for another everywhere: the value split of document 01, `replace` in `get_allowed_and_default_output_values` of the Rust.
use Rattle.std.specs.Prelude.{List, [], ◌∷◌, ◌++◌, ℕ, zero, suc, ◌-◌, length}
use Rattle.lists.specs.Choose.{choose}
use Rattle.values.specs.emphasis.Emphasis.{starts_with}

-- q for every p in the text, from the left; `skip` counts what is left of a p
unfoldable pub replace_all : ℕ → List ℕ → List ℕ → List ℕ → List ℕ
replace_all skip p q [] = []
replace_all (suc skip) p q (c ∷ s) = replace_all skip p q s
replace_all zero p q (c ∷ s) = choose (starts_with p (c ∷ s)) (q ++ replace_all (length p - 1) p q s) (c ∷ replace_all zero p q s)
