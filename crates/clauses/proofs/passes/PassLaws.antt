-- Cells that are read one after the other, up to the first refusal.
use Rattle.std.specs.Prelude.{Ok, Err}
use mathlib.Core.Path.{◌≡◌, sym, ◌∙◌}
use mathlib.Core.List.{List}
use Prim.Native.Nat.{ℕ, suc, ◌+◌, ◌-◌, ◌≤◌, ◌<◌}
use native.Mathlib.Omega.{arith}
use Rattle.model.specs.Refusals.{Reading}
use Rattle.model.specs.declared.Refusal.{Refusal}
use Rattle.cells.specs.Plane.{Plane, plane_in}
use Rattle.cells.proofs.PlaneLaws.{length-plane}
use Rattle.clauses.specs.cell_tests.SheetCells.{region_at}
use Rattle.clauses.specs.passes.Readings.{pass}
use Rattle.clauses.specs.passes.Passes.{fine, fine_row, fine_rows}

module _ (P : Plane) (y x : ℕ) where
  pub fine-ok : {k : ℕ} → Ok k ≡ region_at P y x → Ok tt ≡ fine P y x
  unfolding fine
  fine-ok e = rw (sym e)

  pub fine_not : {r : Refusal} → Err r ≡ region_at P y x → Err r ≡ fine P y x
  unfolding fine
  fine_not e = rw (sym e)

-- the rows of a plane in a slice
pub fine-rows : (d : List ℕ) (rows y x n : ℕ) → pass (λ k. fine_row (plane_in d rows) k x n) y (rows - y) ≡ fine_rows (plane_in d rows) y x n
fine-rows d rows y x n = rw (length-plane d rows)

-- f refuses at none of the places from x to `at`, of n places
pub record Passed (f : ℕ → Reading (Unit {0})) (x n at : ℕ) : Type 0 where
  pub from : x ≤ at
  pub within : at ≤ x + n
  pub rest : pass f x n ≡ pass f at (x + n - at)

pub pass-start : (f : ℕ → Reading (Unit {0})) (x n at : ℕ) → at ≡ x → Passed f x n at
pass-start f x n at e =
    let z : x + n - at ≡ n = omega arith in
    record { from = omega arith; within = omega arith; rest = rw (z, e) }

module _ {f : ℕ → Reading (Unit {0})} {x n at : ℕ} (p : Passed f x n at) where
  pub pass_end : x + n ≤ at → Ok tt ≡ pass f x n
  unfolding pass
  pass_end h = let z : x + n - at ≡ 0 = omega arith in sym (p.rest ∙ rw z)

  module _ (h : at < x + n) where
    pub pass_stop : {r : Refusal} → Err r ≡ f at → Err r ≡ pass f x n
    unfolding pass
    pass_stop e = let z : x + n - at ≡ suc (x + n - (at + 1)) = omega arith in sym (p.rest ∙ rw (z, sym e))

    pub pass-next : Ok tt ≡ f at → (to : ℕ) → to ≡ at + 1 → Passed f x n to
    unfolding pass
    pass-next e to q =
        let z : x + n - at ≡ suc (x + n - to) = omega arith in
        let s : suc at ≡ to = omega arith in
        let m = p.from in
        record { from = omega arith; within = omega arith; rest = p.rest ∙ rw (z, sym e, s) }
