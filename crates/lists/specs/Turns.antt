-- What a counting loop leaves in a list: its turns 0, 1, .., n - 1, one after the other.
use Rattle.std.specs.Prelude.{List, ℕ, zero, suc}

unfoldable pub turns : {A : Type 0} → (ℕ → List A → List A) → ℕ → List A → List A
turns g zero s = s
turns g (suc n) s = g n (turns g n s)
