-- Readings at one place after the other, up to the first refusal.
use Rattle.std.specs.Prelude.{List, [], ◌∷◌, ℕ, zero, suc, Ok}
use Rattle.lists.specs.Answer.{◌>>=◌}
use Rattle.model.specs.Refusals.{Reading}

-- what f answers at i, i + 1, .., n places
unfoldable pub along : {A : Type 0} → (ℕ → Reading A) → ℕ → ℕ → Reading (List A)
along f i zero = Ok []
along f i (suc n) = do
  a ← f i
  s ← along f (suc i) n
  Ok (a ∷ s)
