-- What the output clauses have: one law for each way through a reading.
use Rattle.std.specs.Prelude.{Ok, Err}
use mathlib.Core.Path.{◌≡◌, sym}
use mathlib.Core.Bool.{Bool, true, false}
use Prim.Native.Nat.{ℕ}
use borrow.Author.Tests.{eq-eqb, ne_eqb}
use Rattle.lists.specs.Choose.{choose}
use Rattle.model.specs.Refusals.{Reading}
use Rattle.model.specs.declared.Refusal.{Refusal}
use Rattle.model.specs.declared.Refusal.TheVariants.{NoOutputClause, TooManyOutputRows}
use Rattle.cells.specs.Plane.{Plane}
use Rattle.clauses.specs.cell_tests.SheetCells.{column_is}
use Rattle.clauses.specs.passes.Passes.{fine, fine_row}
use Rattle.clauses.specs.layouts.Layouts.{one_layout, named_layout, labelled_layout, many_layout, layout_of}

-- what is read only if a test holds
pub read_if : {t : Bool} {m : Reading (Unit {0})} (a : Reading (Unit {0})) → t ≡ true → a ≡ m → a ≡ choose t m (Ok tt)
read_if a e f = rw e f

pub read_not : {t : Bool} (m : Reading (Unit {0})) → t ≡ false → Ok tt ≡ choose t m (Ok tt)
read_not m e = rw e

-- component names in row 0
module _ (P : Plane) (x m : ℕ) (v : Bool) where
  pub named_stop : {r : Refusal} → Err r ≡ fine_row P 0 x m → Err r ≡ named_layout P x m v
  unfolding named_layout
  named_stop e = rw (sym e)

  module _ (e : Ok tt ≡ fine_row P 0 x m) where
    pub named-values : {r : Refusal} → Err r ≡ choose v (fine_row P 1 x m) (Ok tt) → Err r ≡ named_layout P x m v
    unfolding named_layout
    named-values f = rw (sym e, sym f)

    pub named_as : Ok tt ≡ choose v (fine_row P 1 x m) (Ok tt) → Ok (record { labelled = false; named = true; valued = v }) ≡ named_layout P x m v
    unfolding named_layout
    named_as f = rw (sym e, sym f)

-- a label in row 0, component names in row 1
module _ (P : Plane) (x m : ℕ) (v : Bool) where
  pub label_stop : {r : Refusal} → Err r ≡ fine P 0 x → Err r ≡ labelled_layout P x m v
  unfolding labelled_layout
  label_stop e = rw (sym e)

  module _ (e : Ok tt ≡ fine P 0 x) where
    pub labelled_names : {r : Refusal} → Err r ≡ fine_row P 1 x m → Err r ≡ labelled_layout P x m v
    unfolding labelled_layout
    labelled_names f = rw (sym e, sym f)

    module _ (f : Ok tt ≡ fine_row P 1 x m) where
      pub labelled_values : {r : Refusal} → Err r ≡ choose v (fine_row P 2 x m) (Ok tt) → Err r ≡ labelled_layout P x m v
      unfolding labelled_layout
      labelled_values g = rw (sym e, sym f, sym g)

      pub labelled_as : Ok tt ≡ choose v (fine_row P 2 x m) (Ok tt)
          → Ok (record { labelled = true; named = true; valued = v }) ≡ labelled_layout P x m v
      unfolding labelled_layout
      labelled_as g = rw (sym e, sym f, sym g)

-- several outputs
module _ (P : Plane) (x m h : ℕ) (v : Bool) where
  pub many_one : h ≡ 1 → named_layout P x m false ≡ many_layout P x m h v
  unfolding many_layout
  many_one e = rw (eq-eqb h 1 e)

  pub many_valued : (h ≡ 1 → ⊥) → h ≡ 2 → v ≡ true → named_layout P x m true ≡ many_layout P x m h v
  unfolding many_layout
  many_valued n e t = rw (ne_eqb h 1 n, eq-eqb h 2 e, t)

  pub many_labelled : (h ≡ 1 → ⊥) → h ≡ 2 → v ≡ false → labelled_layout P x m false ≡ many_layout P x m h v
  unfolding many_layout
  many_labelled n e t = rw (ne_eqb h 1 n, eq-eqb h 2 e, t)

  pub many_more : (h ≡ 1 → ⊥) → (h ≡ 2 → ⊥) → labelled_layout P x m true ≡ many_layout P x m h v
  unfolding many_layout
  many_more n k = rw (ne_eqb h 1 n, ne_eqb h 2 k)

-- any outputs
module _ (P : Plane) (x m h : ℕ) (v : Bool) where
  pub layout_none : m ≡ 0 → Err NoOutputClause ≡ layout_of P x m h v
  unfolding layout_of
  layout_none e = rw (eq-eqb m 0 e)

  pub layout_one : (m ≡ 0 → ⊥) → m ≡ 1 → one_layout P x h ≡ layout_of P x m h v
  unfolding layout_of
  layout_one n e = rw (ne_eqb m 0 n, eq-eqb m 1 e)

  pub layout_many : (m ≡ 0 → ⊥) → (m ≡ 1 → ⊥) → many_layout P x m h v ≡ layout_of P x m h v
  unfolding layout_of
  layout_many n k = rw (ne_eqb m 0 n, ne_eqb m 1 k)

-- one output
module _ (P : Plane) (x h : ℕ) where
  module _ (e : h ≡ 1) where
    pub one_row : Ok tt ≡ fine P 0 x → Ok (record { labelled = true; named = false; valued = false }) ≡ one_layout P x h
    unfolding one_layout
    one_row f = rw (eq-eqb h 1 e, sym f)

    pub one_row_stop : {r : Refusal} → Err r ≡ fine P 0 x → Err r ≡ one_layout P x h
    unfolding one_layout
    one_row_stop f = rw (eq-eqb h 1 e, sym f)

  module _ (n : h ≡ 1 → ⊥) where
    pub two_rows : h ≡ 2 → {t : Bool} → Ok t ≡ column_is false P 0 x → Ok (record { labelled = t; named = false; valued = true }) ≡ one_layout P x h
    unfolding one_layout
    two_rows e f = rw (ne_eqb h 1 n, eq-eqb h 2 e, sym f)

    pub two_rows_stop : h ≡ 2 → {r : Refusal} → Err r ≡ column_is false P 0 x → Err r ≡ one_layout P x h
    unfolding one_layout
    two_rows_stop e f = rw (ne_eqb h 1 n, eq-eqb h 2 e, sym f)

    pub more_rows : (h ≡ 2 → ⊥) → Err TooManyOutputRows ≡ one_layout P x h
    unfolding one_layout
    more_rows k = rw (ne_eqb h 1 n, ne_eqb h 2 k)
