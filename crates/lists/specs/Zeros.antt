-- A cleared slice.
use Rattle.std.specs.Prelude.{List, ℕ, length, replicate}

-- as many zeros as the list has elements
unfoldable pub zeros : List ℕ → List ℕ
zeros s = replicate (length s) 0
