-- A list with a part of it overwritten.
use Rattle.std.specs.Prelude.{List, ◌++◌, ℕ, ◌+◌, length, take, drop}

-- d with x from index at on
unfoldable pub put : {A : Type 0} → List A → ℕ → List A → List A
put d at x = take at d ++ (x ++ drop (at + length x) d)
