-- The part of the bytes that is a cell's text.
use Rattle.std.specs.Prelude.{Ok, Err, Option, None, Some}
use mathlib.Core.Path.{◌≡◌, refl, sym, ap, ◌∙◌}
use mathlib.Core.List.{List, []}
use Prim.Native.Nat.{ℕ, ◌<◌}
use native.Mathlib.Omega.{arith}
use borrow.Author.Tests.{le-ltb, ltb-true, ltb-false}
use lib.Dec.{ltb}
use lib.ListN.{get_or, take, drop}
use Rattle.lists.specs.Choose.{on_some}
use Rattle.lists.proofs.AnswerLaws.{refused-ok}
use Rattle.lists.proofs.Tests.{by_flag}
use Rattle.model.specs.Cells.{region_of}
use Rattle.model.specs.Refusals.{Reading}
use Rattle.model.specs.declared.Cell.{Cell}
use Rattle.model.specs.declared.Cell.TheVariants.{Region}
use Rattle.model.specs.declared.Refusal.{Refusal}
use Rattle.model.specs.declared.Refusal.TheVariants.{CellNotRegion}
use Rattle.model.proofs.CellLaws.{region-is}
use Rattle.cells.specs.Plane.{cell_at, plane_in}
use Rattle.cells.specs.Spans.{offset_at, length_at, text_in}
use Rattle.cells.specs.Held.{Held}
use Rattle.cells.proofs.SpanLaws.{text_in_lem}
use Rattle.clauses.specs.cell_tests.SheetCells.{width_of, region_at}
use Rattle.clauses.proofs.cell_tests.CellLaws.{width_in, width-out, cell_in_lem}
use Rattle.clauses.specs.Spelled.{read_or, cell_text}

-- a region that is read stands in a cell of the slice
module _ (d : List ℕ) (n y x k : ℕ) where
  abbrev P : List (List Cell)
  P = plane_in d n

  region_in_lem : Ok k ≡ region_at P y x → (y < n) × (x < get_or d y 0) × (cell_at d y x ≡ Region k)
  unfolding region_at
  region_in_lem e =
      by_flag (ltb y n)
      (λ a.
      let h : y < n = ltb-true y n a in
      let w : width_of P y ≡ get_or d y 0 = width_in d n y x h in
      by_flag (ltb x (get_or d y 0))
      (λ b.
      let l : x < get_or d y 0 = ltb-true x (get_or d y 0) b in
      (h, l, go (cell_at d y x) (rw (w, b, cell_in_lem d n y x h l) at e)))
      (λ b. refused-ok (sym (rw (w, b) at e))))
      (λ a. refused-ok (sym (rw (width-out d n y x (ltb-false y n a), le-ltb x 0 (omega arith)) at e)))
    where
      by : (c : Cell) (o : Option ℕ) → region_of c ≡ o → Ok k ≡ on_some o Ok (Err (CellNotRegion y x)) → c ≡ Region k
      by c None f g = refused-ok (sym g)
      by c (Some r) f g = region-is c k (let z : r ≡ k = cc in rw z at f)

      go : (c : Cell) → Ok k ≡ on_some (region_of c) Ok (Err (CellNotRegion y x)) → c ≡ Region k
      go c g = by c (region_of c) refl g

-- the text of a cell whose region is k
module _ {d : List ℕ} {n : ℕ} {bytes spans : List ℕ} {count : ℕ} (t : Held d n bytes spans count) (y x : ℕ) where
  pub region-among : (k : ℕ) → Ok k ≡ region_at (plane_in d n) y x → k < count
  region-among k e = let r = region_in_lem d n y x k e in t.regions y x k r.0 r.1 r.2

  pub read-text : (k : ℕ) → Ok k ≡ region_at (plane_in d n) y x → take (length_at spans k) (drop (offset_at spans k) bytes) ≡ cell_text (text_in bytes spans count) (plane_in d n) y x
  read-text k e = sym (text_in_lem bytes spans count k (region-among k e)) ∙ ap (λ (a : Reading ℕ). read_or a (text_in bytes spans count) []) e

  pub unread_text : (r : Refusal) → Err r ≡ region_at (plane_in d n) y x → [] ≡ cell_text (text_in bytes spans count) (plane_in d n) y x
  unread_text r e = ap (λ (a : Reading ℕ). read_or a (text_in bytes spans count) []) e
