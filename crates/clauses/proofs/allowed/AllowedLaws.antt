-- How it is told whether a sheet has allowed values: each way through the readings.
use Rattle.std.specs.Prelude.{Ok, Err}
use mathlib.Core.Path.{◌≡◌, sym}
use mathlib.Core.Bool.{Bool, true, false, not}
use Prim.Native.Nat.{ℕ, zero, suc, ◌+◌, ◌≤◌}
use native.Mathlib.Omega.{arith}
use lib.Dec.{ltb}
use borrow.Author.Tests.{eq-eqb, ne_eqb}
use Rattle.lists.proofs.AnswerLaws.{refused-ok}
use Rattle.model.specs.Refusals.{Reading}
use Rattle.model.specs.declared.Refusal.{Refusal}
use Rattle.model.specs.declared.Refusal.TheVariants.{ClauseRows, InvalidInputExpressions, InvalidOutputExpressions}
use Rattle.cells.specs.Plane.{Plane}
use Rattle.clauses.specs.cell_tests.SheetCells.{columns_are}
use Rattle.clauses.specs.allowed.Allowed.{allowed_by, allowed_two, allowed_three, allowed_of}
use Rattle.clauses.specs.allowed.Apart.{all_apart}

-- a sheet without clause rows is refused
pub some-rows : (P : Plane) (n m h : ℕ) (t : Bool) → allowed_of P n m h ≡ Ok t → 1 ≤ h
unfolding allowed_of
some-rows P n m zero t e = refused-ok e
some-rows P n m (suc h) t e = omega arith

module _ (P : Plane) (n m : ℕ) where
  -- with two clause rows
  pub two_inputs : {r : Refusal} → Err r ≡ columns_are true P 0 0 n → Err r ≡ allowed_two P n m
  unfolding allowed_two
  two_inputs e = rw (sym e)

  module _ {i : Bool} (e : Ok i ≡ columns_are true P 0 0 n) where
    pub two_outputs : {r : Refusal} → Err r ≡ columns_are true P 0 (n + 1) m → Err r ≡ allowed_two P n m
    unfolding allowed_two
    two_outputs f = rw (sym e, sym f)

    module _ {o : Bool} (f : Ok o ≡ columns_are true P 0 (n + 1) m) where
      pub two_apart_lem : {r : Refusal} → Err r ≡ all_apart P 2 (n + 1) m → Err r ≡ allowed_two P n m
      unfolding allowed_two
      two_apart_lem g = rw (sym e, sym f, sym g)

      pub two_told : {a t : Bool} → Ok a ≡ all_apart P 2 (n + 1) m → t ≡ allowed_by i (ltb 0 n) (ltb 1 m) o a → Ok t ≡ allowed_two P n m
      unfolding allowed_two
      two_told g q = rw (sym e, sym f, sym g, q)

  -- with three
  pub three_inputs : {r : Refusal} → Err r ≡ columns_are false P 1 0 n → Err r ≡ allowed_three P n m
  unfolding allowed_three
  three_inputs e = rw (sym e)

  module _ {i : Bool} (e : Ok i ≡ columns_are false P 1 0 n) where
    pub three_no_inputs : not i ≡ true → Err InvalidInputExpressions ≡ allowed_three P n m
    unfolding allowed_three
    three_no_inputs q = rw (sym e, q)

    module _ (q : not i ≡ false) where
      pub three_outputs : {r : Refusal} → Err r ≡ columns_are false P 1 (n + 1) m → Err r ≡ allowed_three P n m
      unfolding allowed_three
      three_outputs f = rw (sym e, q, sym f)

      module _ {o : Bool} (f : Ok o ≡ columns_are false P 1 (n + 1) m) where
        pub three_no_outputs : not o ≡ true → Err InvalidOutputExpressions ≡ allowed_three P n m
        unfolding allowed_three
        three_no_outputs u = rw (sym e, q, sym f, u)

        pub three_told : not o ≡ false → Ok true ≡ allowed_three P n m
        unfolding allowed_three
        three_told u = rw (sym e, q, sym f, u)

  -- with h
  module _ {h : ℕ} where
    pub one_row : h ≡ 1 → Ok false ≡ allowed_of P n m h
    unfolding allowed_of
    one_row e = rw (eq-eqb h 1 e)

    module _ {a : Reading Bool} (f : h ≡ 1 → ⊥) where
      pub two_rows : h ≡ 2 → a ≡ allowed_two P n m → a ≡ allowed_of P n m h
      unfolding allowed_of
      two_rows e q = rw (ne_eqb h 1 f, eq-eqb h 2 e, q)

      pub three_rows : (h ≡ 2 → ⊥) → h ≡ 3 → a ≡ allowed_three P n m → a ≡ allowed_of P n m h
      unfolding allowed_of
      three_rows g e q = rw (ne_eqb h 1 f, ne_eqb h 2 g, eq-eqb h 3 e, q)

    pub more_rows : (h ≡ 1 → ⊥) → (h ≡ 2 → ⊥) → (h ≡ 3 → ⊥) → Err (ClauseRows h) ≡ allowed_of P n m h
    unfolding allowed_of
    more_rows f g k = rw (ne_eqb h 1 f, ne_eqb h 2 g, ne_eqb h 3 k)
