-- In a plane whose rows have cells both corners can be read, and no cell of column 0 is missing.
use Rattle.std.specs.Prelude.{Ok, Option, None, Some}
use mathlib.Core.Path.{◌≡◌, refl}
use mathlib.Core.List.{List, [], ◌∷◌, map}
use Prim.Native.Nat.{ℕ, zero, suc, ◌+◌, ◌<◌}
use native.Mathlib.Omega.{arith}
use lib.Dec.{eqb}
use lib.ListN.{length, drop}
use Rattle.lists.specs.Choose.{on_some}
use Rattle.lists.proofs.AllLaws.{All}
use Rattle.model.specs.Refusals.{Reading}
use Rattle.model.specs.declared.Cell.{Cell}
use Rattle.model.specs.declared.HitPolicy.{HitPolicy}
use Rattle.model.specs.declared.HitPolicyPlacement.{HitPolicyPlacement}
use Rattle.model.specs.declared.HitPolicyPlacement.TheVariants.{TopLeft, BottomLeft, NotPresent}
use Rattle.cells.specs.Plane.{Plane}
use Rattle.plane.specs.rule_numbers.Numbering.{first, last, number_in, counted}
use Rattle.plane.specs.placement.Placement.{policy_in, corner_policy, bottom_left, placement_of}
use Rattle.policies.proofs.RowsHaveCells.{HasCells}
use Rattle.policies.proofs.NeverLaws.{Never, never_if, never_some}

-- what a reading answers
abbrev pub Answers : {A : Type 0} → Reading A → Type 0
Answers {A} m = (a : A) × (m ≡ Ok a)

-- the last row has cells
last_row : (r : List Cell) (P : Plane) → All HasCells (r ∷ P) → (t : List Cell) × (last (r ∷ P) ≡ Some t) × HasCells t
unfolding last All
last_row r [] q = (r, refl, q.0)
last_row r (r' ∷ P) q = last_row r' P q.1

module _ (text : ℕ → List ℕ) where
  corner_answers : (r : List Cell) → HasCells r → Answers (corner_policy text (Some r))
  corner_answers [] h = absurd (omega arith)
  corner_answers (c ∷ r) h = (policy_in text c, refl)

  bottom_answers : (r : List Cell) (P : Plane) → All HasCells (r ∷ P) → Answers (bottom_left text (r ∷ P))
  bottom_answers r P q =
      let l = last_row r P q in
      let c = corner_answers l.0 l.2 in
      (on_some c.0 BottomLeft NotPresent, rw (l.1, c.1))

  top_answers : (p : Option HitPolicy) (m : Reading HitPolicyPlacement) → Answers m → Answers (on_some p (λ h. Ok (TopLeft h)) m)
  top_answers (Some h) m a = (TopLeft h, refl)
  top_answers None m a = a

  -- neither 8 nor 10 by P1 or P2
  pub placement_answers : (P : Plane) → 0 < length P → All HasCells P → Answers (placement_of text P)
  unfolding placement_of All
  placement_answers [] h q = absurd (omega arith)
  placement_answers (r ∷ P) h q =
      let c = corner_answers r q.0 in
      let t = top_answers c.0 (bottom_left text (r ∷ P)) (bottom_answers r P q) in
      (t.0, rw c.1 t.1)

  -- a line without missing cells
  abbrev Stands : Option Cell → Type 0
  Stands c = (d : Cell) × (c ≡ Some d)

  line-counted : (n : ℕ) (line : List (Option Cell)) → All Stands line → Never 10 (counted text n line)
  unfolding counted All
  line-counted n [] q = tt
  line-counted n (None ∷ line) q = let z : ◌≡◌ {A = ℕ} 0 1 = let e = q.0.1 in cc in absurd (omega arith)
  line-counted n (Some c ∷ line) q =
      let more = line-counted (n + 1) line q.1 in
      never_some 10 (number_in text c) _ _ (λ m. never_if 10 (eqb m (n + 1)) (counted text (n + 1) line) _ more refl) tt

  first_stands : (r : List Cell) → HasCells r → Stands (first r)
  first_stands [] h = absurd (omega arith)
  first_stands (c ∷ r) h = (c, refl)

  column_stands : (P : Plane) → All HasCells P → All Stands (map first P)
  unfolding All
  column_stands [] q = tt
  column_stands (r ∷ P) q = (first_stands r q.0, column_stands P q.1)

  rest_stands : (k : ℕ) (line : List (Option Cell)) → All Stands line → All Stands (drop k line)
  unfolding All
  rest_stands zero line q = q
  rest_stands (suc k) [] q = tt
  rest_stands (suc k) (c ∷ line) q = rest_stands k line q.1

  -- not 10 by P4: the numbers of column 0, behind any place of it
  pub column-counted : (P : Plane) → All HasCells P → (k : ℕ) → Never 10 (counted text 0 (drop k (map first P)))
  column-counted P q k = line-counted 0 (drop k (map first P)) (rest_stands k (map first P) (column_stands P q))
