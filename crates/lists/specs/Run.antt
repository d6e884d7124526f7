-- A list by its places.
use Rattle.std.specs.Prelude.{List, [], ◌∷◌, ℕ, zero, suc}

-- f k, f (k + 1), .., n of them
unfoldable pub run : {A : Type 0} → (ℕ → A) → ℕ → ℕ → List A
run f k zero = []
run f k (suc n) = f k ∷ run f (suc k) n

-- f 0, f 1, .., f (n - 1)
abbrev pub build : {A : Type 0} → ℕ → (ℕ → A) → List A
build n f = run f 0 n
