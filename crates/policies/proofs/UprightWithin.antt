-- The upright sheet of a plane within the limits is within them.
use Rattle.std.specs.Prelude.{Ok}
use mathlib.Core.Path.{◌≡◌, sym, subst}
use mathlib.Core.List.{[], ◌∷◌, map}
use Prim.Native.Nat.{ℕ, ◌≤◌}
use native.Mathlib.Omega.{arith}
use lib.Dec.{ltb}
use lib.ListN.{length, drop, length-drop, length-map}
use borrow.Author.Tests.{ltb-true, ltb-false}
use Rattle.lists.specs.Run.{run}
use Rattle.lists.specs.Transpose.{width, transpose}
use Rattle.lists.proofs.Tests.{by_flag}
use Rattle.lists.proofs.TransposeLaws.{length-transpose, width-transpose}
use Rattle.model.specs.Cells.{turned_cell}
use Rattle.model.specs.Limits.{plane_rows, plane_cells, text_bytes}
use Rattle.model.specs.declared.Cell.TheVariants.{MainDoubleCrossing}
use Rattle.model.specs.declared.Orientation.{Orientation}
use Rattle.model.specs.declared.Orientation.TheVariants.{RulesAsRows, RulesAsColumns}
use Rattle.cells.specs.Plane.{Plane, TextPlane}
use Rattle.cells.specs.turning.Upright.{but_last, turned, upright_of}
use Rattle.plane.proofs.TurnedColumnSheet.{pivot_ok}
use Rattle.policies.specs.LentPolicy.{text_in}

-- at most 64 rows, the first of at most 64 cells: the clauses stand in that one's columns
pub record Within (P : Plane) : Type 0 where
  pub rows : length P ≤ plane_rows
  pub cells : width P ≤ plane_cells

-- a plane within the limits, whose regions' texts have at most 61,440 bytes each
pub record PlaneWithin (t : TextPlane) : Type 0 where
  pub plane : Within t.plane
  pub texts : (k : ℕ) → length (text_in t k) ≤ text_bytes

rest-within : (P : Plane) → Within P → Within (map (drop 1) P)
unfolding width
rest-within [] h = record { rows = omega arith; cells = omega arith }
rest-within (r ∷ P) h = record { rows = omega (arith, h.rows, length-map P (drop 1)); cells = omega (arith, h.cells, length-drop 1 r) }

but_within : (P : Plane) → Within P → Within (but_last P)
unfolding but_last width
but_within P h = record { rows = omega (arith, h.rows, fewer P); cells = omega (arith, h.cells, narrower P) }
  where
    fewer : (Q : Plane) → length (but_last Q) ≤ length Q
    fewer [] = omega arith
    fewer (r ∷ []) = omega arith
    fewer (r ∷ t ∷ Q) = omega (arith, fewer (t ∷ Q))

    narrower : (Q : Plane) → width (but_last Q) ≤ width Q
    narrower [] = omega arith
    narrower (r ∷ []) = omega arith
    narrower (r ∷ t ∷ Q) = omega arith

turned-within : (P : Plane) → Within P → Within (turned P)
unfolding width transpose run
turned-within P h =
    record {
      rows = omega (arith, h.cells, length-transpose turned_cell MainDoubleCrossing P);
      cells =
          by_flag (ltb 0 (width P))
          (λ y. omega (arith, h.rows, width-transpose turned_cell MainDoubleCrossing P (ltb-true 0 (width P) y)))
          (λ z. let e : width P ≡ 0 = omega (arith, ltb-false 0 (width P) z) in rw e (omega arith));
    }

pub upright-within : (o : Orientation) (P U : Plane) → upright_of o P ≡ Ok U → Within P → Within U
unfolding upright_of
upright-within RulesAsRows P U e h = let z : map (drop 1) P ≡ U = cc in subst Within z (rest-within P h)
upright-within RulesAsColumns P U e h = subst Within (sym (pivot_ok (but_last P) U e).0) (turned-within (but_last P) (but_within P h))
