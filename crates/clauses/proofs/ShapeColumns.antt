-- A shape lies in the columns of row 0.
use Rattle.std.specs.Prelude.{Ok, Option, None, Some}
use mathlib.Core.Path.{◌≡◌}
use mathlib.Core.Bool.{not}
use Prim.Native.Nat.{ℕ, ◌+◌, ◌-◌, ◌≤◌, ◌<◌}
use native.Mathlib.Omega.{arith}
use lib.Dec.{ltb}
use lib.ListN.{length}
use borrow.Author.Tests.{not-false, ltb-true}
use Rattle.lists.proofs.AnswerLaws.{then_ok}
use Rattle.model.specs.declared.Cell.TheVariants.{MainDoubleCrossing, HorizontalDoubleCrossing}
use Rattle.model.specs.declared.Refusal.TheVariants.{PlaneMalformed}
use Rattle.cells.specs.Plane.{Plane}
use Rattle.clauses.specs.cell_tests.Readings.{refuse}
use Rattle.clauses.specs.cell_tests.SheetCells.{width_of}
use Rattle.clauses.specs.allowed.Allowed.{allowed_of}
use Rattle.clauses.specs.Clauses.{main_of, outputs_end}
use Rattle.cells.specs.declared.place.Place.{Place}
use Rattle.cells.specs.Places.{place_of}
use Rattle.clauses.specs.passes.Passes.{fine_row, fine_rows}
use Rattle.clauses.specs.layouts.Layouts.{layout_of}
use Rattle.clauses.specs.Shape.{notes_at, inputs_fine, clauses_at, shape_of, sizes_of, checked_shape}
use Rattle.clauses.specs.declared.Notes.{Notes}
use Rattle.clauses.specs.declared.Shape.{Shape}
use Rattle.clauses.proofs.SpelledStated.{passed}

-- a column is not refused that lies before another
before : (a b : ℕ) (u : Unit {0}) → refuse (not (ltb a b)) PlaneMalformed ≡ Ok u → a < b
before a b u e = ltb-true a b (not-false (ltb a b) (passed (not (ltb a b)) PlaneMalformed u e))

module _ (P : Plane) where
  notes-columns : (notes : Option Place) (a : Notes) → notes_at P notes ≡ Ok a → outputs_end P notes + a.count ≤ width_of P 0
  unfolding notes_at
  notes-columns None a e = let z : record { count = 0; col = 0; row = length P } ≡ a = cc in rw (← z) (omega arith)
  notes-columns (Some q) a e =
      let n = width_of P 0 - (q.col + 1) in
      let b = then_ok (refuse (not (ltb q.col (width_of P 0))) PlaneMalformed) _ a e in
      let c = then_ok (fine_row P 0 (q.col + 1) n) _ a b.2 in
      let d = then_ok (fine_rows P (q.row + 1) (q.col + 1) n) _ a c.2 in
      let h = before q.col (width_of P 0) b.0 b.1 in
      let z : record { count = n; col = q.col + 1; row = q.row + 1 } ≡ a = let f = d.2 in cc in
      rw (← z) (omega arith)

  clauses_columns : (n m h : ℕ) (notes : Option Place) (s : Shape) → clauses_at P n m h notes ≡ Ok s → n + 1 + m ≤ outputs_end P notes
      → s.inputs + 1 + s.outputs + s.notes.count ≤ width_of P 0
  unfolding clauses_at
  clauses_columns n m h notes s e l =
      let a = then_ok (allowed_of P n m h) _ s e in
      let b = then_ok (inputs_fine P n h a.0) _ s a.2 in
      let c = then_ok (layout_of P (n + 1) m h a.0) _ s b.2 in
      let d = then_ok (fine_rows P (h + 1) (n + 1) m) _ s c.2 in
      let f = then_ok (notes_at P notes) _ s d.2 in
      let z : record { inputs = n; outputs = m; height = h; allowed = a.0; layout = c.0; notes = f.0 } ≡ s = let g = f.2 in cc in
      rw (← z) (omega (arith, notes-columns notes f.0 f.1))

  shape_within : (main notes : Option Place) (s : Shape) → shape_of P main notes ≡ Ok s → s.inputs + 1 + s.outputs + s.notes.count ≤ width_of P 0
  unfolding shape_of
  shape_within main notes s e =
      let p = then_ok (main_of main) _ s e in
      let b = then_ok (refuse (not (ltb p.0.col (outputs_end P notes))) PlaneMalformed) _ s p.2 in
      let h = before p.0.col (outputs_end P notes) b.0 b.1 in
      clauses_columns p.0.col (outputs_end P notes - (p.0.col + 1)) p.0.row notes s b.2 (omega arith)

  pub shape_columns : (rules : ℕ) (s : Shape) → checked_shape P rules ≡ Ok s → s.inputs + 1 + s.outputs + s.notes.count ≤ width_of P 0
  unfolding checked_shape
  shape_columns rules s e =
      let a = then_ok (shape_of P (place_of MainDoubleCrossing P) (place_of HorizontalDoubleCrossing P)) _ s e in
      let b = then_ok (sizes_of (length P) rules a.0) _ s a.2 in
      let z : a.0 ≡ s = let g = b.2 in cc in
      rw (← z) (shape_within (place_of MainDoubleCrossing P) (place_of HorizontalDoubleCrossing P) a.0 a.1)
