-- Where everything stands on a sheet: one law for each way through a reading.
use Rattle.std.specs.Prelude.{Ok, Err, Option, None, Some}
use mathlib.Core.Path.{◌≡◌, refl, sym}
use mathlib.Core.Bool.{Bool, true, false}
use mathlib.Core.List.{List}
use Prim.Native.Nat.{ℕ, ◌+◌, ◌-◌, ◌≤◌, ◌<◌}
use native.Mathlib.Omega.{arith}
use borrow.Author.Tests.{eq-eqb, ne_eqb, lt-ltb, le-ltb}
use Rattle.lists.specs.Choose.{choose}
use Rattle.model.specs.Refusals.{Reading}
use Rattle.model.specs.declared.Cell.TheVariants.{MainDoubleCrossing, HorizontalDoubleCrossing}
use Rattle.model.specs.declared.Refusal.{Refusal}
use Rattle.model.specs.declared.Refusal.TheVariants.{NoMainCrossing, PlaneMalformed, InvalidSize}
use Rattle.cells.specs.Plane.{Plane, plane_in}
use Rattle.cells.proofs.PlaneLaws.{length-plane}
use Rattle.clauses.specs.cell_tests.SheetCells.{width_of}
use Rattle.clauses.specs.allowed.Allowed.{allowed_of}
use Rattle.clauses.specs.passes.Passes.{fine_row, fine_rows}
use Rattle.clauses.specs.layouts.Layouts.{layout_of}
use Rattle.clauses.specs.declared.layouts.Layout.{Layout}
use Rattle.clauses.specs.Clauses.{outputs_end}
use Rattle.cells.specs.declared.place.Place.{Place}
use Rattle.cells.specs.Places.{place_of}
use Rattle.clauses.specs.Shape.{notes_at, inputs_fine, clauses_at, shape_of, sizes_of, checked_shape}
use Rattle.clauses.specs.Sizes.{differ}
use Rattle.clauses.specs.Told.{ShapeFits}
use Rattle.clauses.specs.declared.Notes.{Notes}
use Rattle.clauses.specs.declared.Shape.{Shape}

-- the annotations behind a crossing; row 0 has w cells
pub no_notes : (d : List ℕ) (rows : ℕ) → Ok (record { count = 0; col = 0; row = rows }) ≡ notes_at (plane_in d rows) None
unfolding notes_at
no_notes d rows = rw (length-plane d rows)

module _ (P : Plane) (y x w : ℕ) (q : w ≡ width_of P 0) where
  abbrev behind : Reading Notes
  behind = notes_at P (Some (record { row = y; col = x }))

  pub notes_outside : w ≤ x → Err PlaneMalformed ≡ behind
  unfolding notes_at
  notes_outside h = rw (sym q, le-ltb x w h)

  module _ (h : x < w) where
    pub notes-names : {r : Refusal} → Err r ≡ fine_row P 0 (x + 1) (w - (x + 1)) → Err r ≡ behind
    unfolding notes_at
    notes-names e = rw (sym q, lt-ltb x w h, sym e)

    module _ (e : Ok tt ≡ fine_row P 0 (x + 1) (w - (x + 1))) where
      pub notes-rows : {r : Refusal} → Err r ≡ fine_rows P (y + 1) (x + 1) (w - (x + 1)) → Err r ≡ behind
      unfolding notes_at
      notes-rows f = rw (sym q, lt-ltb x w h, sym e, sym f)

      pub notes_are : Ok tt ≡ fine_rows P (y + 1) (x + 1) (w - (x + 1))
          → Ok (record { count = w - (x + 1); col = x + 1; row = y + 1 }) ≡ behind
      unfolding notes_at
      notes_are f = rw (sym q, lt-ltb x w h, sym e, sym f)

-- the inputs
module _ (P : Plane) (n h : ℕ) (v : Bool) where
  pub inputs_stop : {r : Refusal} → Err r ≡ fine_row P 0 0 n → Err r ≡ inputs_fine P n h v
  unfolding inputs_fine
  inputs_stop e = rw (sym e)

  module _ (e : Ok tt ≡ fine_row P 0 0 n) where
    pub inputs-values : {r : Refusal} → Err r ≡ choose v (fine_row P (h - 1) 0 n) (Ok tt) → Err r ≡ inputs_fine P n h v
    unfolding inputs_fine
    inputs-values f = rw (sym e, sym f)

    pub inputs-rows : Ok tt ≡ choose v (fine_row P (h - 1) 0 n) (Ok tt) → fine_rows P (h + 1) 0 n ≡ inputs_fine P n h v
    unfolding inputs_fine
    inputs-rows f = rw (sym e, sym f)

-- n inputs and m outputs, in the order of the readings
module _ (P : Plane) (n m h : ℕ) (notes : Option Place) where
  abbrev here : Reading Shape
  here = clauses_at P n m h notes

  pub at-allowed : {r : Refusal} → Err r ≡ allowed_of P n m h → Err r ≡ here
  unfolding clauses_at
  at-allowed a = rw (sym a)

  module _ {v : Bool} (a : Ok v ≡ allowed_of P n m h) where
    pub at-inputs : {r : Refusal} → Err r ≡ inputs_fine P n h v → Err r ≡ here
    unfolding clauses_at
    at-inputs i = rw (sym a, sym i)

    module _ (i : Ok tt ≡ inputs_fine P n h v) where
      pub at_layout : {r : Refusal} → Err r ≡ layout_of P (n + 1) m h v → Err r ≡ here
      unfolding clauses_at
      at_layout e = rw (sym a, sym i, sym e)

      module _ {l : Layout} (e : Ok l ≡ layout_of P (n + 1) m h v) where
        pub at-outputs : {r : Refusal} → Err r ≡ fine_rows P (h + 1) (n + 1) m → Err r ≡ here
        unfolding clauses_at
        at-outputs o = rw (sym a, sym i, sym e, sym o)

        module _ (o : Ok tt ≡ fine_rows P (h + 1) (n + 1) m) where
          pub at-notes : {r : Refusal} → Err r ≡ notes_at P notes → Err r ≡ here
          unfolding clauses_at
          at-notes f = rw (sym a, sym i, sym e, sym o, sym f)

          pub at_shape : {b : Notes} → Ok b ≡ notes_at P notes
              → Ok (record { inputs = n; outputs = m; height = h; allowed = v; layout = l; notes = b }) ≡ here
          unfolding clauses_at
          at_shape f = rw (sym a, sym i, sym e, sym o, sym f)

pub no_main : (P : Plane) (notes : Option Place) → Err NoMainCrossing ≡ shape_of P None notes
unfolding shape_of
no_main P notes = refl

-- from a main crossing in row h, column n; the outputs end before column e
module _ (P : Plane) (h n e : ℕ) (notes : Option Place) (q : e ≡ outputs_end P notes) where
  pub shape_outside : e ≤ n → Err PlaneMalformed ≡ shape_of P (Some (record { row = h; col = n })) notes
  unfolding shape_of
  shape_outside l = rw (sym q, le-ltb n e l)

  pub shape_within : n < e → clauses_at P n (e - (n + 1)) h notes ≡ shape_of P (Some (record { row = h; col = n })) notes
  unfolding shape_of
  shape_within l = rw (sym q, lt-ltb n e l)

-- the two sizes
module _ (rows rules : ℕ) (s : Shape) where
  pub size-entries : (rows - (s.height + 1) ≡ rules → ⊥) → Err (InvalidSize 8) ≡ sizes_of rows rules s
  unfolding sizes_of
  size-entries n = rw (ne_eqb (rows - (s.height + 1)) rules n)

  module _ (e : rows - (s.height + 1) ≡ rules) where
    pub size-notes : 0 < s.notes.count → differ (rows - s.notes.row) rules ≡ true → Err (InvalidSize 12) ≡ sizes_of rows rules s
    unfolding sizes_of
    size-notes l n = rw (eq-eqb (rows - (s.height + 1)) rules e, lt-ltb 0 s.notes.count l, n)

    pub sizes_noted : 0 < s.notes.count → differ (rows - s.notes.row) rules ≡ false → Ok tt ≡ sizes_of rows rules s
    unfolding sizes_of
    sizes_noted l f = rw (eq-eqb (rows - (s.height + 1)) rules e, lt-ltb 0 s.notes.count l, f)

    pub sizes_bare : s.notes.count ≤ 0 → Ok tt ≡ sizes_of rows rules s
    unfolding sizes_of
    sizes_bare l = rw (eq-eqb (rows - (s.height + 1)) rules e, le-ltb 0 s.notes.count l)

    pub sizes_fit : ShapeFits s rows 0 → ShapeFits s rows rules
    sizes_fit f = record { columns = f.columns; behind = f.behind; height = omega (arith, f.height); notes = f.notes }

-- the whole sheet, from its two crossings
module _ (d : List ℕ) (rows rules : ℕ) (main notes : Option Place) where
  abbrev sheet : Plane
  sheet = plane_in d rows

  module _ (a : main ≡ place_of MainDoubleCrossing sheet) (b : notes ≡ place_of HorizontalDoubleCrossing sheet) where
    pub checked_shape_lem : {r : Refusal} → Err r ≡ shape_of sheet main notes → Err r ≡ checked_shape sheet rules
    unfolding checked_shape
    checked_shape_lem e = rw (sym a, sym b, sym e)

    module _ {s : Shape} (e : Ok s ≡ shape_of sheet main notes) where
      pub checked-sizes : {r : Refusal} → Err r ≡ sizes_of rows rules s → Err r ≡ checked_shape sheet rules
      unfolding checked_shape
      checked-sizes f = rw (sym a, sym b, sym e, length-plane d rows, sym f)

      pub checked_has : Ok tt ≡ sizes_of rows rules s → Ok s ≡ checked_shape sheet rules
      unfolding checked_shape
      checked_has f = rw (sym a, sym b, sym e, length-plane d rows, sym f)
