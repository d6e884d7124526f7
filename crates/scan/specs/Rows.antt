-- The rows of a sheet as a layer, each filled to one width: document 01, "Canvas".
use Rattle.std.specs.Prelude.{List, [], ◌∷◌, ◌++◌, ℕ, ◌-◌, length, replicate}
use Rattle.model.specs.Box.{░}

-- a row filled with ░ to w
abbrev pub fill : ℕ → List ℕ → List ℕ
fill w r = r ++ replicate (w - length r) ░

-- a blank for each character of a row
abbrev pub blank : List ℕ → List ℕ
blank r = replicate (length r) 32

-- the rows, one behind the other, each filled to w
unfoldable pub flat : ℕ → List (List ℕ) → List ℕ
flat w [] = []
flat w (r ∷ rs) = fill w r ++ flat w rs
