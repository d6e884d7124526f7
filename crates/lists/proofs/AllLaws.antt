-- What holds of every element of a list.
use Rattle.std.specs.Prelude.{Result, Ok}
use mathlib.Core.Path.{◌≡◌, subst}
use mathlib.Core.Bool.{Bool, true, false}
use mathlib.Core.List.{List, [], ◌∷◌, ◌++◌}
use Prim.Native.Nat.{ℕ, zero, suc, ◌<◌}
use native.Mathlib.Omega.{arith}
use lib.ListN.{length, get_or}
use Rattle.lists.specs.Answer.{each}
use Rattle.lists.specs.Choose.{choose}
use Rattle.lists.specs.Run.{run}
use Rattle.lists.proofs.AnswerLaws.{then_ok}

unfoldable pub All : {A : Type 0} → (A → Type 0) → List A → Type 0
All Q [] = Unit {0}
All Q (a ∷ l) = Q a × All Q l

module _ {A : Type 0} (Q : A → Type 0) where
  pub all_none : All Q []
  unfolding All
  all_none = tt

  pub all_one : (a : A) → Q a → All Q (a ∷ [])
  unfolding All
  all_one a q = (q, tt)

  pub all_append : (l m : List A) → All Q l → All Q m → All Q (l ++ m)
  unfolding All
  all_append [] m p q = q
  all_append (a ∷ l) m p q = (p.0, all_append l m p.1 q)

  pub all-at : (l : List A) → All Q l → (i : ℕ) (d : A) → i < length l → Q (get_or l i d)
  unfolding All
  all-at [] p i d h = absurd (omega arith)
  all-at (a ∷ l) p zero d h = p.0
  all-at (a ∷ l) p (suc i) d h = all-at l p.1 i d (omega arith)

  pub all-run : (f : ℕ → A) → ((i : ℕ) → Q (f i)) → (k n : ℕ) → All Q (run f k n)
  unfolding All run
  all-run f g k zero = tt
  all-run f g k (suc n) = (g k, all-run f g (suc k) n)

  pub all-choose : (t : Bool) (l m : List A) → All Q l → All Q m → All Q (choose t l m)
  all-choose true l m p q = p
  all-choose false l m p q = q

-- what every step keeps, the steps one after the other keep
pub each_keeps : {R A S : Type 0} (Q : S → Type 0) (f : A → S → Result S R) → ((a : A) (s t : S) → f a s ≡ Ok t → Q s → Q t)
    → (l : List A) (s t : S) → each f l s ≡ Ok t → Q s → Q t
unfolding each
each_keeps Q f g [] s t e q = let z : s ≡ t = cc in subst Q z q
each_keeps Q f g (a ∷ l) s t e q =
    let w = then_ok (f a s) (each f l) t e in
    each_keeps Q f g l w.0 t w.2 (g a s w.0 w.1 q)
