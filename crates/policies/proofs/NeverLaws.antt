-- A reading that is never refused by a certain number of document 01's table.
use Rattle.std.specs.Prelude.{Ok, Err, Option, None, Some}
use mathlib.Core.Path.{◌≡◌, refl, subst}
use mathlib.Core.Bool.{Bool, true, false}
use mathlib.Core.List.{List, [], ◌∷◌}
use Prim.Native.Nat.{ℕ, zero, suc}
use lib.Dec.{eqb}
use borrow.Author.Tests.{eqb-false}
use Rattle.lists.specs.Answer.{◌>>=◌, each}
use Rattle.lists.specs.Choose.{choose, on_some}
use Rattle.model.specs.Refusals.{Reading, numbers}
use Rattle.model.specs.declared.Refusal.{Refusal}
use Rattle.clauses.specs.cell_tests.Readings.{refuse, every}
use Rattle.clauses.specs.Readings.{along}

-- it answers, or is refused by another number
abbrev pub Never : {A : Type 0} → ℕ → Reading A → Type 0
Never n (Ok a) = Unit {0}
Never n (Err r) = eqb (numbers r).n n ≡ false

pub never_refused : {A : Type 0} (m : Reading A) (r : Refusal) → Never (numbers r).n m → m ≡ Err r → ⊥
never_refused m r p e = eqb-false (numbers r).n (numbers r).n (subst (Never (numbers r).n) e p) refl

-- readings one after the other, and choices
module _ (n : ℕ) where
  pub never_then : {A B : Type 0} (m : Reading A) (k : A → Reading B) → Never n m → ((a : A) → m ≡ Ok a → Never n (k a)) → Never n (◌>>=◌ m k)
  never_then (Ok a) k p q = q a refl
  never_then (Err r) k p q = p

  pub never_if : {A : Type 0} (t : Bool) (m m' : Reading A) → Never n m → Never n m' → Never n (choose t m m')
  never_if true m m' p q = p
  never_if false m m' p q = q

  pub never_some : {A B : Type 0} (o : Option A) (f : A → Reading B) (m : Reading B) → ((a : A) → Never n (f a)) → Never n m → Never n (on_some o f m)
  never_some (Some a) f m p q = p a
  never_some None f m p q = q

  pub never_check : (t : Bool) (r : Refusal) → eqb (numbers r).n n ≡ false → Never n (refuse t r)
  never_check true r p = p
  never_check false r p = tt

  pub never_each : {A S : Type 0} (f : A → S → Reading S) → ((a : A) (s : S) → Never n (f a s)) → (l : List A) (s : S) → Never n (each f l s)
  unfolding each
  never_each f p [] s = tt
  never_each f p (a ∷ l) s = never_then (f a s) (each f l) (p a s) (λ t _. never_each f p l t)

  pub never_along : {A : Type 0} (f : ℕ → Reading A) → ((i : ℕ) → Never n (f i)) → (i k : ℕ) → Never n (along f i k)
  unfolding along
  never_along f p i zero = tt
  never_along f p i (suc k) = never_then (f i) _ (p i) (λ a _. never_then (along f (suc i) k) _ (never_along f p (suc i) k) (λ _ _. tt))

  pub never_every : (f : ℕ → Reading Bool) → ((i : ℕ) → Never n (f i)) → (i k : ℕ) → Never n (every f i k)
  unfolding every
  never_every f p i zero = tt
  never_every f p i (suc k) = never_then (f i) _ (p i) (λ t _. never_if t (every f (suc i) k) (Ok false) (never_every f p (suc i) k) tt)
