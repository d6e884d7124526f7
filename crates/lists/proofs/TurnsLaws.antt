-- Laws of a loop's turns, and of a pass from the front.
use mathlib.Core.Path.{◌≡◌, refl, ap}
use mathlib.Core.List.{List, [], ◌∷◌, ◌++◌}
use Prim.Native.Nat.{ℕ, zero, suc, ◌+◌, ◌<◌}
use native.Mathlib.Numerals.{add-one}
use native.Mathlib.Omega.{arith}
use lib.ListN.{length, take, drop, get_or, set}
use Rattle.lists.specs.Turns.{turns}

-- one turn more
pub turn_more : {A : Type 0} (g : ℕ → List A → List A) (i : ℕ) (s : List A) → g i (turns g i s) ≡ turns g (i + 1) s
unfolding turns
turn_more g i s = rw add-one

-- a pass from the front has come to i: the new list up to i, and the old one from there
module _ {A : Type 0} where
  store : (new old : List A) (i : ℕ) (z : A) → i < length new → i < length old → set (take i new ++ drop i old) i (get_or new i z) ≡ take (suc i) new ++ drop (suc i) old
  store [] old i z h k = absurd (omega arith)
  store (x ∷ xs) [] i z h k = absurd (omega arith)
  store (x ∷ xs) (y ∷ ys) zero z h k = refl
  store (x ∷ xs) (y ∷ ys) (suc i) z h k = ap (λ (l : List A). x ∷ l) (store xs ys i z (omega arith) (omega arith))

  pub pass-more : (new old s : List A) (i : ℕ) (v z : A) → i < length new → i < length old → v ≡ get_or new i z → s ≡ take i new ++ drop i old → set s i v ≡ take (i + 1) new ++ drop (i + 1) old
  pass-more new old s i v z h k e q = rw (q, e, add-one) (store new old i z h k)
