-- Corners: the first cells of the first and the last row.
use Rattle.std.specs.Prelude.{Ok, Err, Option, None, Some}
use mathlib.Core.Path.{◌≡◌, refl, sym, ◌∙◌}
use mathlib.Core.List.{List}
use Prim.Native.Nat.{ℕ, zero, suc, ◌-◌, ◌<◌}
use native.Mathlib.Omega.{arith}
use Rattle.lists.specs.Choose.{on_some}
use Rattle.lists.specs.Run.{run}
use Rattle.lists.proofs.AnswerLaws.{refused-ok}
use Rattle.model.specs.declared.Cell.{Cell}
use Rattle.model.specs.declared.HitPolicy.{HitPolicy}
use Rattle.model.specs.declared.HitPolicyPlacement.{HitPolicyPlacement}
use Rattle.model.specs.declared.HitPolicyPlacement.TheVariants.{TopLeft, BottomLeft, NotPresent}
use Rattle.model.specs.declared.Refusal.{Refusal}
use Rattle.model.specs.declared.Refusal.TheVariants.{PlaneEmpty, PlaneMalformed}
use Rattle.cells.specs.Plane.{row_in, plane_in}
use Rattle.plane.specs.placement.Placement.{policy_in, corner_policy, bottom_left, placement_of}
use Rattle.plane.specs.rule_numbers.Line.{slot_of}
use Rattle.plane.specs.declared.rule_numbers.Line.TheVariants.{Row}
use Rattle.plane.proofs.rule_numbers.LineLaws.{first_cell, first-row, last_row}

module _ (text : ℕ → List ℕ) (d : List ℕ) where
  -- a row's corner
  pub corner_cell : (row : ℕ) (c : Cell) → Some c ≡ slot_of d (Row row) 0 → Ok (policy_in text c) ≡ corner_policy text (Some (row_in d row))
  corner_cell row c e = rw (first_cell d row, sym e)

  pub corner_missing : (row : ℕ) → None ≡ slot_of d (Row row) 0 → Err PlaneMalformed ≡ corner_policy text (Some (row_in d row))
  corner_missing row e = rw (first_cell d row, sym e)

  module _ (n : ℕ) (h : 0 < n) where
    -- the last row's corner
    pub bottom-corner : (p : Option HitPolicy) → Ok p ≡ corner_policy text (Some (row_in d (n - 1)))
        → Ok (on_some p BottomLeft NotPresent) ≡ bottom_left text (plane_in d n)
    bottom-corner p e = rw (last_row d n h, sym e)

    pub bottom-refused : (r : Refusal) → Err r ≡ corner_policy text (Some (row_in d (n - 1))) → Err r ≡ bottom_left text (plane_in d n)
    bottom-refused r e = rw (last_row d n h, sym e)

    -- the first row's
    pub top-corner : (p : Option HitPolicy) → Ok p ≡ corner_policy text (Some (row_in d 0))
        → on_some p (λ g. Ok (TopLeft g)) (bottom_left text (plane_in d n)) ≡ placement_of text (plane_in d n)
    unfolding placement_of
    top-corner p e = rw (first-row d n h, sym e)

    pub top-refused : (r : Refusal) → Err r ≡ corner_policy text (Some (row_in d 0)) → Err r ≡ placement_of text (plane_in d n)
    unfolding placement_of
    top-refused r e = rw (first-row d n h, sym e)

  -- a plane without rows
  pub no_rows : (n : ℕ) → n ≡ 0 → Err PlaneEmpty ≡ placement_of text (plane_in d n)
  unfolding placement_of plane_in run
  no_rows n e = rw e

  pub placed-rows : (n : ℕ) (p : HitPolicyPlacement) → Ok p ≡ placement_of text (plane_in d n) → 0 < n
  placed-rows zero p e = refused-ok (no_rows 0 refl ∙ sym e)
  placed-rows (suc n) p e = omega arith
