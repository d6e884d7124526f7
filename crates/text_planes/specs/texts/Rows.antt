-- What the inner functions of the crate write on the way: no caller needs this.
use Rattle.std.specs.Prelude.{Bool, true, false, List, [], ◌∷◌, ℕ}

-- a text that is not empty, behind a blank where something stands before it
abbrev pub next : Bool → List ℕ → List ℕ
next b [] = []
next true (c ∷ t) = 32 ∷ c ∷ t
next false (c ∷ t) = c ∷ t
