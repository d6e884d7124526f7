-- The ways of reading the plane of a drawing, and the slices that hold it.
use Rattle.std.specs.Prelude.{Ok, Err}
use mathlib.Core.Path.{◌≡◌, sym, subst}
use mathlib.Core.List.{List}
use Prim.Native.Nat.{ℕ, ◌*◌, ◌≤◌}
use native.Mathlib.Omega.{arith}
use lib.ListN.{length, take}
use lib.Seq.{length-take-le}
use Rattle.lists.specs.Picture.{Picture}
use Rattle.lists.proofs.RunLaws.{length_run}
use Rattle.model.specs.Limits.{text_bytes}
use Rattle.model.specs.declared.Refusal.{Refusal}
use Rattle.cells.specs.Held.{Held}
use Rattle.cells.specs.Plane.{Plane, plane_in, PlaneFits}
use Rattle.cells.proofs.AmongLaws.{Among, among-regions}
use Rattle.frames.specs.declared.outline.Outline.{Outline}
use Rattle.cells.specs.rects.Rects.{rect_at, rects_of}
use Rattle.text_planes.specs.step.PlaneStep.{plane_of}
use Rattle.text_planes.proofs.step.RegionsAmong.{plane-among}
use Rattle.walks.specs.Frame.{frame_of}
use Rattle.walks.specs.Kinds as kind
use Rattle.text_planes.specs.DrawnPlane.{text_plane_by, text_plane_of}
use Rattle.text_planes.specs.RegionTexts.{Regions, region_texts_of, UsedIn}

module _ (o : Outline) (text thin grid : Picture) (w h : ℕ) where
  pub no_regions : (r : Refusal) → Err r ≡ region_texts_of text thin w h → Err r ≡ text_plane_of o text thin grid w h
  unfolding text_plane_by
  no_regions r e = rw (← e)

  module _ (g : Regions) (e : Ok g ≡ region_texts_of text thin w h) where
    pub no_plane : (r : Refusal) → Err r ≡ plane_of o g.rects grid w h → Err r ≡ text_plane_of o text thin grid w h
    unfolding text_plane_by
    no_plane r p = rw (← e, ← p)

    pub with_plane : (P : Plane) → Ok P ≡ plane_of o g.rects grid w h → Ok (record { plane = P; texts = g.texts }) ≡ text_plane_of o text thin grid w h
    unfolding text_plane_by
    with_plane P p = rw (← e, ← p)

-- a plane of `count` regions
pub plane-held : (o : Outline) (grid : Picture) (w h n count used : ℕ) (rects d bytes spans : List ℕ) → Ok (plane_in d n) ≡ plane_of o (rects_of rects count) grid w h
    → PlaneFits d n → UsedIn (Ok (record { count = count; used = used })) bytes spans → text_bytes ≤ length bytes → count * 2 ≤ length spans → Held d n (take text_bytes bytes) spans count
plane-held o grid w h n count used rects d bytes spans e f u b s =
    record {
      fits = f;
      regions = among-regions d n count (subst (λ (k : ℕ). Among k (plane_in d n)) (length_run (rect_at rects) 0 count) (plane-among o (frame_of kind.grid grid w h) (rects_of rects count) grid w h (plane_in d n) (sym e)));
      two_each = s;
      inside = λ k l. omega (arith, u.1.1.1 k l, u.1.1.0, length-take-le text_bytes bytes b);
    }
