-- Demand 3, second half: "Whichever even plane is lent and accepted as a column sheet: with its last row put before its first and the whole
-- then turned, the double lines of that row too, nothing but short slices refuses it, and otherwise it gives the same record, that word set aside."
use Rattle.std.specs.Prelude.{Ok, Option, None, Some}
use mathlib.Core.Path.{◌≡◌, refl, ap, ◌∙◌}
use mathlib.Core.List.{List, [], ◌∷◌}
use Prim.Native.Nat.{ℕ, zero, suc, ◌≤◌}
use native.Mathlib.Omega.{arith}
use lib.ListN.{length, get_or, length-map}
use Rattle.lists.specs.Choose.{on_some}
use Rattle.lists.specs.Transpose.{width, Even, column, transpose}
use Rattle.lists.proofs.AnswerLaws.{then_ok}
use Rattle.lists.proofs.TransposeLaws.{length-transpose}
use Rattle.model.specs.Cells.{turned_cell}
use Rattle.model.specs.Limits.{plane_rows, plane_cells}
use Rattle.model.specs.declared.Cell.{Cell}
use Rattle.model.specs.declared.Cell.TheVariants.{MainDoubleCrossing}
use Rattle.model.specs.declared.Orientation.TheVariants.{RulesAsRows, RulesAsColumns}
use Rattle.cells.specs.Plane.{Plane, TextPlane}
use Rattle.record.specs.Policy.{Policy}
use Rattle.plane.specs.lent.LentPlane.{LentPlane, cut, lent_cells, lent_of}
use Rattle.plane.specs.rule_numbers.Numbering.{last}
use Rattle.cells.specs.turning.Upright.{but_last, turned}
use Rattle.plane.specs.Sheet.{Sheet, stated_sheet, last_first}
use Rattle.plane.proofs.RegionsKept.{RegionsBelow, turned_below, but_below}
use Rattle.plane.proofs.TurnedColumnSheet.{in_rows, turned_column_sheet}
use Rattle.clauses.specs.Stated.{clauses_of}
use Rattle.recognizer.specs.StatedPolicy.{sheet_policy, stated_policy}
use Rattle.policies.specs.LentPolicy.{text_in, lent_policy}
use Rattle.policies.specs.TurnedPlane.{turned_plane}
use Rattle.policies.proofs.LentAsLaws.{Lendable, built, crossing_below, lent_ok, lent_lendable, lent_as_lem}

-- the last row is one of the rows
last_row : (P : Plane) (L : List Cell) → last P ≡ Some L → (k : ℕ) × (get_or P k [] ≡ L)
unfolding last
last_row [] L e = let z : ◌≡◌ {A = ℕ} 0 1 = cc in absurd (omega arith)
last_row (r ∷ []) L e = (0, cc)
last_row (r ∷ q ∷ P) L e = let w = last_row (q ∷ P) L e in (suc w.0, w.1)

length-last_first : (P : Plane) (L : List Cell) → last P ≡ Some L → length (L ∷ but_last P) ≡ length P
unfolding last but_last
length-last_first [] L e = let z : ◌≡◌ {A = ℕ} 0 1 = cc in absurd (omega arith)
length-last_first (r ∷ []) L e = refl
length-last_first (r ∷ q ∷ P) L e = ap suc (length-last_first (q ∷ P) L e)

-- as many rows as there were columns, and as many columns as there were rows
turned_lendable : (count : ℕ) (P : Plane) → width P ≤ plane_rows → length P ≤ plane_cells → RegionsBelow count P → Lendable count (turned P)
unfolding transpose column
turned_lendable count P w n f =
    record {
      few = omega (arith, length-transpose turned_cell MainDoubleCrossing P);
      short =
          built (λ r. length r ≤ plane_cells) (width P) (column turned_cell MainDoubleCrossing P) [] (omega arith)
          (λ j h. omega (arith, length-map P (λ r. turned_cell (get_or r j MainDoubleCrossing))));
      regions = turned_below count P f;
    }

module _ (count : ℕ) (P : Plane) (p : Lendable count P) where
  last_first_below : (L : List Cell) → last P ≡ Some L → RegionsBelow count (L ∷ but_last P)
  last_first_below L e zero i r q = let w = last_row P L e in p.regions w.0 i r (rw w.1 q)
  last_first_below L e (suc row) i r q = but_below count P p.regions row i r q

  last_first_lendable : Lendable count (turned (last_first P))
  unfolding width
  last_first_lendable = go (last P) refl
    where
      go : (r : Option (List Cell)) → last P ≡ r → Lendable count (turned (on_some r (λ L. L ∷ but_last P) []))
      go None e = turned_lendable count [] (omega arith) (omega arith) (λ row i. crossing_below count)
      go (Some L) e =
          let w = last_row P L e in
          let s : length L ≤ plane_rows = rw w.1 at (p.short w.0) in
          turned_lendable count (L ∷ but_last P) s (omega (arith, length-last_first P L e, p.few)) (last_first_below L e)

-- a policy that is laid out in rows
abbrev pub policy_in_rows : Policy → Policy
policy_in_rows p =
    record {
      name = p.name;
      hit = p.hit;
      orientation = RulesAsRows;
      label = p.label;
      inputs = p.inputs;
      outputs = p.outputs;
      annotations = p.annotations;
      rules = p.rules;
    }

module _ (text : ℕ → List ℕ) where
  sheet-turned : (s : Sheet) (p : Policy) → sheet_policy None text s ≡ Ok p → (s.orientation ≡ p.orientation) × (sheet_policy None text (in_rows s) ≡ Ok (policy_in_rows p))
  unfolding sheet_policy
  sheet-turned s p e =
      let w = then_ok (clauses_of text s.plane s.rules) _ p e in
      let q = w.2 in
      let c = w.1 in
      (cc, rw c (cc))

  stated_turned : (P : Plane) (p : Policy) → Even P → stated_policy None text P ≡ Ok p → p.orientation ≡ RulesAsColumns → stated_policy None text (turned (last_first P)) ≡ Ok (policy_in_rows p)
  unfolding stated_policy
  stated_turned P p even e o =
      let w = then_ok (stated_sheet text P) (sheet_policy None text) p e in
      let s = sheet-turned w.0 p w.2 in
      rw (turned_column_sheet text P w.0 even w.1 (s.0 ∙ o)) s.1

pub turned-policy : (l : LentPlane) (t : TextPlane) (p : Policy) → lent_of l ≡ Ok t → Even t.plane → lent_policy l ≡ Ok p → p.orientation ≡ RulesAsColumns
    → lent_policy (turned_plane l) ≡ Ok (policy_in_rows p)
unfolding lent_policy
turned-policy l t p h even e o =
    let w = lent_ok l t h in
    let P : Plane = cut l.rows (lent_cells l) in
    let q : t.plane ≡ P = ap (λ (u : TextPlane). u.plane) w.1 in
    let k = lent_as_lem l t (turned (last_first P)) h (last_first_lendable (length l.offsets) P (lent_lendable l w.0)) in
    rw (k, ← q) (stated_turned (text_in t) t.plane p even (rw h at e) o)
