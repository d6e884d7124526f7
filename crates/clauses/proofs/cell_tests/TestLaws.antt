-- Columns whose cells of two rows are of one region or of two, one column after the other.
use Rattle.std.specs.Prelude.{Ok, Err}
use mathlib.Core.Path.{◌≡◌, refl, sym, ap, ◌∙◌}
use mathlib.Core.Bool.{Bool, true, false, not}
use Prim.Native.Nat.{ℕ, suc, ◌+◌, ◌-◌, ◌≤◌, ◌<◌}
use native.Mathlib.Omega.{arith}
use borrow.Author.Tests.{eq-eqb, ne_eqb, not-true, not-false}
use Rattle.lists.specs.Answer.{◌>>=◌}
use Rattle.lists.specs.Choose.{choose}
use Rattle.model.specs.Refusals.{Reading}
use Rattle.model.specs.declared.Refusal.{Refusal}
use Rattle.cells.specs.Plane.{Plane}
use Rattle.clauses.specs.cell_tests.Readings.{every}
use Rattle.clauses.specs.cell_tests.SheetCells.{region_at, column_is}

as_joined : (t : Bool) → t ≡ choose t true false
as_joined true = refl
as_joined false = refl

as_apart : (t : Bool) → not t ≡ choose t false true
as_apart true = refl
as_apart false = refl

-- the upper cell is read, then the lower one
module _ (joined : Bool) (P : Plane) (top x : ℕ) where
  pub column_upper : {r : Refusal} → Err r ≡ region_at P top x → Err r ≡ column_is joined P top x
  unfolding column_is
  column_upper e = rw (sym e)

  module _ {a : ℕ} (e : Ok a ≡ region_at P top x) where
    pub column_lower : {r : Refusal} → Err r ≡ region_at P (top + 1) x → Err r ≡ column_is joined P top x
    unfolding column_is
    column_lower f = rw (sym e, sym f)

    module _ {b : ℕ} (f : Ok b ≡ region_at P (top + 1) x) where
      pub column-same : a ≡ b → Ok joined ≡ column_is joined P top x
      unfolding column_is
      column-same h = rw (sym e, sym f, eq-eqb a b h) (ap Ok (as_joined joined))

      pub column_other : (a ≡ b → ⊥) → Ok (not joined) ≡ column_is joined P top x
      unfolding column_is
      column_other h = rw (sym e, sym f, ne_eqb a b h) (ap Ok (as_apart joined))

-- f holds at the first i of n places
pub record Every (f : ℕ → Reading Bool) (x n i : ℕ) : Type 0 where
  pub within : i ≤ n
  pub rest : every f x n ≡ every f (x + i) (n - i)

pub every-start : (f : ℕ → Reading Bool) (x n : ℕ) → Every f x n 0
every-start f x n =
    let a : x + 0 ≡ x = omega arith in
    let b : n - 0 ≡ n = omega arith in
    record { within = omega arith; rest = rw (a, b) }

module _ {f : ℕ → Reading Bool} {x n i : ℕ} (p : Every f x n i) where
  pub every_end : n ≤ i → Ok true ≡ every f x n
  unfolding every
  every_end h = let e : n - i ≡ 0 = omega arith in sym (p.rest ∙ rw e)

  module _ (h : i < n) where
    turn : every f x n ≡ ◌>>=◌ (f (x + i)) (λ t. choose t (every f (x + (i + 1)) (n - (i + 1))) (Ok false))
    unfolding every
    turn =
        let e : n - i ≡ suc (n - (i + 1)) = omega arith in
        let s : x + (i + 1) ≡ suc (x + i) = omega arith in
        p.rest ∙ rw (e, s)

    pub every-out : {r : Refusal} → Err r ≡ f (x + i) → Err r ≡ every f x n
    every-out e = sym (turn ∙ rw (sym e))

    pub every_not : {t : Bool} → Ok t ≡ f (x + i) → not t ≡ true → Ok false ≡ every f x n
    every_not {t} e q = sym (turn ∙ rw (sym e, not-true t q))

    pub every-next : {t : Bool} → Ok t ≡ f (x + i) → not t ≡ false → Every f x n (i + 1)
    every-next {t} e q = record { within = omega arith; rest = turn ∙ rw (sym e, not-false t q) }
