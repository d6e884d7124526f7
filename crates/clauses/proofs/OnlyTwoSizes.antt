-- Of the thirteen checks of the sizes only two can fail, 8 and 12.
use Rattle.std.specs.Prelude.{Ok, Option}
use mathlib.Core.Bool.{Bool, true, false, not, ◌&&◌}
use mathlib.Core.List.{List, []}
use mathlib.Core.Path.{◌≡◌, refl, sym, subst}
use Prim.Native.Nat.{ℕ, zero, suc, ◌+◌, ◌-◌, ◌<◌}
use native.Mathlib.Omega.{arith}
use lib.Dec.{eqb, ltb}
use lib.ListN.{length}
use borrow.Author.Tests.{eqb-true, eq-eqb, ne_eqb, lt-ltb, eqb-false}
use Rattle.lists.specs.Answer.{◌>>=◌}
use Rattle.lists.specs.Choose.{choose}
use Rattle.lists.specs.Run.{run}
use Rattle.lists.proofs.AnswerLaws.{refused-ok, then_ok}
use Rattle.lists.proofs.RunLaws.{length_run}
use Rattle.model.specs.Refusals.{Reading}
use Rattle.model.specs.declared.Refusal.TheVariants.{PlaneMalformed, InvalidSize}
use Rattle.cells.specs.Plane.{Plane}
use Rattle.clauses.specs.cell_tests.Readings.{refuse}
use Rattle.clauses.specs.cell_tests.SheetCells.{column_is}
use Rattle.clauses.specs.allowed.Allowed.{allowed_of}
use Rattle.cells.specs.declared.place.Place.{Place}
use Rattle.clauses.specs.Sizes.{differ, uneven, sized}
use Rattle.clauses.specs.Clauses.{main_of, outputs_end}
use Rattle.clauses.specs.passes.Passes.{fine, fine_row, fine_rows}
use Rattle.clauses.specs.layouts.Layouts.{one_layout, named_layout, labelled_layout, many_layout, layout_of}
use Rattle.clauses.specs.Shape.{inputs_fine, notes_at, clauses_at, shape_of, sizes_of}
use Rattle.clauses.specs.Spelled.{cell_text, optional, first_output, values_row, names_row}
use Rattle.clauses.specs.declared.layouts.Layout.{Layout}
use Rattle.clauses.specs.declared.Shape.{Shape}
use Rattle.clauses.proofs.Apart.{found_as}

-- whatever a reading answers has a property
module _ {B : Type 0} (Q : B → Type 0) where
  abbrev Tells : Reading B → Type 0
  Tells m = (b : B) → m ≡ Ok b → Q b

  tells : (a : B) → Q a → Tells (Ok a)
  tells a q b e = let z : a ≡ b = cc in subst Q z q

  tells_after : {A : Type 0} (m : Reading A) (k : A → Reading B) → ((a : A) → m ≡ Ok a → Tells (k a)) → Tells (◌>>=◌ m k)
  tells_after m k h b e = let t = then_ok m k b e in h t.0 t.1 b t.2

  tells_if : (t : Bool) (m m' : Reading B) → (t ≡ true → Tells m) → (t ≡ false → Tells m') → Tells (choose t m m')
  tells_if true m m' p q = p refl
  tells_if false m m' p q = q refl

-- m is not 0, and a layout has component names if m is more than 1
abbrev Laid : ℕ → Layout → Type 0
Laid m l = (eqb m 0 ≡ false) × (l.named ≡ ltb 1 m)

several : (m : ℕ) → eqb m 0 ≡ false → eqb m 1 ≡ false → 1 < m
several m e f =
    let a = eqb-false m 0 e in
    let b = eqb-false m 1 f in
    omega arith

-- one pass or two, and then a layout
module _ (m : ℕ) where
  laid_1 : (l : Layout) → Laid m l → (a : Reading (Unit {0})) → Tells (Laid m) (◌>>=◌ a (λ _. Ok l))
  laid_1 l q a = tells_after (Laid m) a _ (λ _ _. tells (Laid m) l q)

  laid_2 : (l : Layout) → Laid m l → (a b : Reading (Unit {0})) → Tells (Laid m) (◌>>=◌ a (λ _. ◌>>=◌ b (λ _. Ok l)))
  laid_2 l q a b = tells_after (Laid m) a _ (λ _ _. laid_1 l q b)

module _ (P : Plane) (x m h : ℕ) where
  one_laid : m ≡ 1 → Tells (Laid m) (one_layout P x h)
  unfolding one_layout
  one_laid e =
      let l : (eqb m 0 ≡ false) × (false ≡ ltb 1 m) = rw e (refl, refl) in
      tells_if (Laid m) (eqb h 1) _ _ (λ _. laid_1 m _ l (fine P 0 x)) (λ _.
      tells_if (Laid m) (eqb h 2) _ _ (λ _. tells_after (Laid m) (column_is false P 0 x) _ (λ _ _. tells (Laid m) _ l)) (λ _ b z. refused-ok z))

  many_laid : 1 < m → (t : Bool) → Tells (Laid m) (many_layout P x m h t)
  unfolding many_layout named_layout labelled_layout
  many_laid k t =
      let l : (eqb m 0 ≡ false) × (true ≡ ltb 1 m) = (ne_eqb m 0 (λ e. omega arith), sym (lt-ltb 1 m k)) in
      tells_if (Laid m) (eqb h 1) _ _ (λ _. laid_1 m _ l (fine_row P 0 x m)) (λ _.
      tells_if (Laid m) (eqb h 2) _ _
      (λ _. tells_if (Laid m) t _ _ (λ _. laid_2 m _ l (fine_row P 0 x m) (fine_row P 1 x m)) (λ _. laid_2 m _ l (fine P 0 x) (fine_row P 1 x m)))
      (λ _. tells_after (Laid m) (fine P 0 x) _ (λ _ _. laid_2 m _ l (fine_row P 1 x m) (fine_row P 2 x m))))

  outputs_laid : (t : Bool) → Tells (Laid m) (layout_of P x m h t)
  unfolding layout_of
  outputs_laid t =
      tells_if (Laid m) (eqb m 0) _ _ (λ _ b z. refused-ok z) (λ e.
      tells_if (Laid m) (eqb m 1) _ _ (λ f. one_laid (eqb-true m 1 f)) (λ f. many_laid (several m e f) t))

shape_laid : (P : Plane) (main notes : Option Place) → Tells (λ s. Laid s.outputs s.layout) (shape_of P main notes)
unfolding shape_of clauses_at
shape_laid P main notes =
    let Q : Shape → Type 0 = λ s. Laid s.outputs s.layout in
    tells_after Q (main_of main) _ (λ p _.
    let n = p.col in
    let h = p.row in
    let m = outputs_end P notes - (n + 1) in
    tells_after Q (refuse (not (ltb n (outputs_end P notes))) PlaneMalformed) _ (λ _ _.
    tells_after Q (allowed_of P n m h) _ (λ t _.
    tells_after Q (inputs_fine P n h t) _ (λ _ _.
    tells_after Q (layout_of P (n + 1) m h t) _ (λ l e.
    tells_after Q (fine_rows P (h + 1) (n + 1) m) _ (λ _ _.
    tells_after Q (notes_at P notes) _ (λ a _.
    tells Q _ (outputs_laid P (n + 1) m h t l e))))))))

-- lists by their places are as long as they should be
equal : (n : ℕ) → differ n n ≡ false
equal n = rw (eq-eqb n n refl)

and_false : (t : Bool) → (t && false) ≡ false
and_false true = refl
and_false false = refl

module _ {A : Type 0} (f : ℕ → A) (x n : ℕ) where
  run_equal : differ (length (run f x n)) n ≡ false
  run_equal = rw (length_run f x n) (equal n)

  if_run : (t : Bool) → (ltb 0 (length (choose t (run f x n) [])) && differ (length (choose t (run f x n) [])) n) ≡ false
  if_run true = rw (length_run f x n, equal n) (and_false (ltb 0 n))
  if_run false = refl

  names-run : (t u : Bool) → u ≡ t → (t && differ (length (choose u (run f x n) [])) n) ≡ false
  names-run true u e = rw e run_equal
  names-run false u e = refl

  no_names : (t u : Bool) → u ≡ t → (not t && differ (length (choose u (run f x n) [])) 0) ≡ false
  no_names true u e = refl
  no_names false u e = rw e

even_rows : {A : Type 0} (f : ℕ → ℕ → A) (x n y r : ℕ) → uneven n (run (λ k. run (f k) x n) y r) ≡ false
unfolding run uneven
even_rows f x n y zero = refl
even_rows f x n y (suc r) = rw (length_run (f y) x n, eq-eqb n n refl) (even_rows f x n (suc y) r)

-- check 10 is check 8 again
twice : (t u : Bool) → ◌>>=◌ (refuse t (InvalidSize 8)) (λ _. ◌>>=◌ (refuse t (InvalidSize 10)) (λ _. ◌>>=◌ (refuse u (InvalidSize 12)) (λ _. Ok (tt {0}))))
    ≡ ◌>>=◌ (refuse t (InvalidSize 8)) (λ _. refuse u (InvalidSize 12))
twice true u = refl
twice false true = refl
twice false false = refl

pub only_two_sizes : (text : ℕ → List ℕ) (P : Plane) (main notes : Option Place) (s : Shape) → shape_of P main notes ≡ Ok s
    → (rules : ℕ) → 0 < rules → sized rules (found_as text P s) ≡ sizes_of (length P) rules s
unfolding sized sizes_of found_as
only_two_sizes text P main notes s e rules r =
    let l = shape_laid P main notes s e in
    let cell = cell_text text P in
    let first = first_output text P s in
    let names = optional text P (names_row text P s) in
    let values = optional text P (values_row text P s) in
    let below = length P - (s.height + 1) in
    rw (
      run_equal (cell 0) 0 s.inputs,
      if_run values 0 s.inputs s.allowed,
      l.0,
      names-run names first s.outputs (ltb 1 s.outputs) s.layout.named l.1,
      no_names names first s.outputs (ltb 1 s.outputs) s.layout.named l.1,
      if_run values first s.outputs s.layout.valued,
      ne_eqb rules 0 (λ z. omega arith),
      even_rows cell 0 s.inputs (s.height + 1) below,
      even_rows cell first s.outputs (s.height + 1) below,
      length_run (λ k. run (cell k) 0 s.inputs) (s.height + 1) below,
      length_run (λ k. run (cell k) first s.outputs) (s.height + 1) below,
      length_run (cell 0) s.notes.col s.notes.count,
      length_run (λ k. run (cell k) s.notes.col s.notes.count) s.notes.row (length P - s.notes.row),
      even_rows cell s.notes.col s.notes.count s.notes.row (length P - s.notes.row),
      and_false (ltb 0 s.notes.count),
    )
    (twice (differ below rules) (ltb 0 s.notes.count && differ (length P - s.notes.row) rules))
