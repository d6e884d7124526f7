-- The test of the slices' lengths: its ways, and what it tells.
use mathlib.Core.Path.{◌≡◌, sym, ◌∙◌}
use mathlib.Core.Bool.{Bool, true, false, ◌&&◌}
use mathlib.Core.List.{List}
use Prim.Native.Nat.{ℕ}
use borrow.Author.Tests.{eq-eqb, ne_eqb, eqb-true}
use lib.Dec.{eqb}
use lib.ListN.{length}
use Rattle.lists.proofs.Tests.{both}
use Rattle.plane.specs.lent.LentPlane.{sum, counts_agree}

module _ (rows kinds regions offsets sizes : List ℕ) where
  abbrev cells_agree : Bool
  cells_agree = eqb (length kinds) (sum rows) && eqb (length regions) (sum rows)

  pub kinds-differ : (n : ℕ) → n ≡ sum rows → (length kinds ≡ n → ⊥) → false ≡ counts_agree rows kinds regions offsets sizes
  kinds-differ n e h = rw (ne_eqb (length kinds) (sum rows) (λ q. h (q ∙ sym e)))

  pub regions-differ : (n : ℕ) → n ≡ sum rows → length kinds ≡ n → (length regions ≡ n → ⊥) → false ≡ counts_agree rows kinds regions offsets sizes
  regions-differ n e k h = rw (eq-eqb (length kinds) (sum rows) (k ∙ e), ne_eqb (length regions) (sum rows) (λ q. h (q ∙ sym e)))

  pub sizes_decide : (n : ℕ) → n ≡ sum rows → length kinds ≡ n → length regions ≡ n → eqb (length sizes) (length offsets) ≡ counts_agree rows kinds regions offsets sizes
  sizes_decide n e k h = rw (eq-eqb (length kinds) (sum rows) (k ∙ e), eq-eqb (length regions) (sum rows) (h ∙ e))

  module _ (e : counts_agree rows kinds regions offsets sizes ≡ true) where
    of_cells : (eqb (length kinds) (sum rows) ≡ true) × (eqb (length regions) (sum rows) ≡ true)
    of_cells = both (eqb (length kinds) (sum rows)) (eqb (length regions) (sum rows)) (both cells_agree (eqb (length sizes) (length offsets)) e).0

    pub same-kinds : length kinds ≡ sum rows
    same-kinds = eqb-true (length kinds) (sum rows) of_cells.0

    pub same-regions : length regions ≡ length kinds
    same-regions = eqb-true (length regions) (sum rows) of_cells.1 ∙ sym same-kinds

    pub same-sizes : length sizes ≡ length offsets
    same-sizes = eqb-true (length sizes) (length offsets) (both cells_agree (eqb (length sizes) (length offsets)) e).1
