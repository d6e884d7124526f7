-- A text cut at commas, as `split(",")` of the Rust.
use Rattle.std.specs.Prelude.{List, [], ◌∷◌, ℕ, eqb}
use Rattle.lists.specs.Choose.{choose}
use Rattle.characters.specs.white_space.Lines.{join}

abbrev pub comma : ℕ
comma = 0x2C

-- the parts between commas; an empty text is one empty part
unfoldable pub parts : List ℕ → List (List ℕ)
parts [] = [] ∷ []
parts (c ∷ s) = choose (eqb c comma) ([] ∷ parts s) (join c (parts s))
