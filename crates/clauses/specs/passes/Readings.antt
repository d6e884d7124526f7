-- Readings at one place after the other, up to the first refusal.
use Rattle.std.specs.Prelude.{ℕ, zero, suc, Ok}
use Rattle.lists.specs.Answer.{◌>>◌}
use Rattle.model.specs.Refusals.{Reading}

-- nothing but the refusals of f at i, i + 1, .., n places
unfoldable pub pass : (ℕ → Reading (Unit {0})) → ℕ → ℕ → Reading (Unit {0})
pass f i zero = Ok tt
pass f i (suc n) = do
  f i
  pass f (suc i) n
