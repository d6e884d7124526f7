-- A number that is one of some numbers, and a test that holds at one of some places.
use Rattle.std.specs.Prelude.{Bool, false, ◌||◌, List, [], ◌∷◌, ℕ, zero, suc, eqb}

-- c is one of ks
unfoldable pub one_of : ℕ → List ℕ → Bool
one_of c [] = false
one_of c (k ∷ ks) = eqb c k || one_of c ks

-- f holds at one of 0, 1, .., n - 1
unfoldable pub any_at : (ℕ → Bool) → ℕ → Bool
any_at f zero = false
any_at f (suc n) = any_at f n || f n
