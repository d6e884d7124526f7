-- What the whole reader does not come to: number 8, and number 10 where a row has no cells.
use Rattle.std.specs.Prelude.{Ok, Err}
use mathlib.Core.Path.{◌≡◌}
use mathlib.Core.List.{List, map}
use Prim.Native.Nat.{ℕ}
use lib.ListN.{drop}
use Rattle.lists.proofs.AnswerLaws.{refused-ok}
use Rattle.model.specs.Refusals.{Reading}
use Rattle.model.specs.declared.Refusal.TheVariants.{PlaneEmpty}
use Rattle.cells.specs.Plane.{TextPlane}
use Rattle.frames.specs.declared.outline.Outline.{Outline}
use Rattle.plane.specs.rule_numbers.Numbering.{first, counted}
use Rattle.plane.specs.placement.Placement.{placement_of}
use Rattle.scan.specs.sheet_rows.Rows.{rows_at}
use Rattle.walks.specs.Frame.{FrameFinder}
use Rattle.canvas.specs.Layers.{sheet_by}
use Rattle.policies.specs.DrawnPolicy.{drawn_plane_by, name_by, policy_by, walked_policy, drawn_policy}
use Rattle.policies.specs.LentPolicy.{text_in}
use Rattle.policies.proofs.CornersStand.{Answers, placement_answers, column-counted}
use Rattle.policies.proofs.DrawnRowsHaveCells.{drawn_has_rows, drawn_rows_have_cells}
use Rattle.policies.proofs.NeverEmptyDrawing.{NeverFrames, never_walks, never_sides, never_sheet, never_drawn, never_name}
use Rattle.policies.proofs.NeverEmptyPolicy.{never_stated}
use Rattle.policies.proofs.NeverLaws.{Never, never_then, never_refused}

answered : {A : Type 0} (n : ℕ) (m : Reading A) → Answers m → Never n m
answered n (Ok a) t = tt
answered n (Err r) t = refused-ok t.1

module _ (find : FrameFinder) (s : List ℕ) where
  module _ (o : Outline) (e : sheet_by find s ≡ Ok o) (t : TextPlane) (f : drawn_plane_by find (rows_at s 0) o ≡ Ok t) where
    -- P1 and P2: a drawing's hit policy is placed, or there is none
    pub drawn_placement : Answers (placement_of (text_in t) t.plane)
    drawn_placement = placement_answers (text_in t) t.plane (drawn_has_rows find s o e t f) (drawn_rows_have_cells find s o e t f)

    -- P4: no cell is missing where the numbers of column 0 are counted
    pub drawn-numbers : (k : ℕ) → Never 10 (counted (text_in t) 0 (drop k (map first t.plane)))
    drawn-numbers = column-counted (text_in t) t.plane (drawn_rows_have_cells find s o e t f)

  never_empty : NeverFrames find → Never 8 (policy_by find s)
  unfolding policy_by
  never_empty g =
      let rs = rows_at s 0 in
      never_then 8 (sheet_by find s) _ (never_sheet find g s) (λ o e.
      never_then 8 (drawn_plane_by find rs o) _ (never_drawn find g rs o) (λ t f.
      never_then 8 (name_by find rs o.named) _ (never_name find g rs o.named) (λ name _.
      never_stated name (text_in t) t.plane (answered 8 (placement_of (text_in t) t.plane) (drawn_placement o e t f)))))

-- number 8: by walks, which the reader promises to follow, and by sides
pub walked_not_empty : (s : List ℕ) → walked_policy s ≡ Err PlaneEmpty → ⊥
walked_not_empty s = never_refused (walked_policy s) PlaneEmpty (never_empty _ s never_walks)

pub drawn_not_empty : (s : List ℕ) → drawn_policy s ≡ Err PlaneEmpty → ⊥
drawn_not_empty s = never_refused (drawn_policy s) PlaneEmpty (never_empty _ s never_sides)
