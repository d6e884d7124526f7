-- The regions that walks find are those that are drawn: the theorem `regions-drawn`.
use Rattle.std.specs.Prelude.{Ok, Err}
use mathlib.Core.List.{List, [], ◌∷◌, ◌++◌}
use mathlib.Core.Logic.{◌↔◌}
use mathlib.Core.Path.{◌≡◌}
use Prim.Native.Nat.{ℕ, ◌/◌, ◌%◌}
use lib.Dec.{ltb}
use lib.ListN.{length}
use Rattle.lists.specs.Answer.{each, Below}
use Rattle.lists.specs.Picture.{Picture}
use Rattle.lists.proofs.AnswerLaws.{then_below, each_below, choose_below}
use Rattle.model.specs.Limits.{region_count}
use Rattle.model.specs.declared.Rect.{Rect}
use Rattle.model.specs.declared.Refusal.TheVariants.{OverLimit}
use Rattle.walks.specs.Frame.{frame_of}
use Rattle.walks.specs.Kinds.{thin}
use Rattle.walks.specs.Sides.{by_sides}
use Rattle.walks.proofs.FrameLaws.{thin-sound}
use Rattle.walks.proofs.SidesLaws.{walks_sides, sides_walks}
use Rattle.frames.specs.regions.Regions.{Finder, corners_of, add_region, regions_by}

-- a finder that answers whatever another answers finds its regions
pub regions_below : (f f' : Finder) → ((x y : ℕ) → Below (f x y) (f' x y)) → (p : Picture) (w h : ℕ) → Below (regions_by f p w h) (regions_by f' p w h)
unfolding regions_by
regions_below f f' b p w h =
    choose_below (ltb region_count (length (corners_of p w h))) (Err OverLimit) (each (add_region f w) (corners_of p w h) []) (each (add_region f' w) (corners_of p w h) [])
    (each_below (add_region f w) (add_region f' w)
    (λ i rs. then_below (f (i % w) (i / w)) (f' (i % w) (i / w)) (λ r. Ok (rs ++ (r ∷ []))) (λ r. Ok (rs ++ (r ∷ []))) (b (i % w) (i / w)) (λ r a e. e)) (corners_of p w h) [])

pub regions-drawn : (p : Picture) (w h : ℕ) (rs : List Rect) → (regions_by (frame_of thin p w h) p w h ≡ Ok rs) ↔ (regions_by (by_sides thin p w h) p w h ≡ Ok rs)
regions-drawn p w h rs = (
  regions_below (frame_of thin p w h) (by_sides thin p w h) (λ x y. walks_sides thin p w h x y thin-sound) p w h rs,
  regions_below (by_sides thin p w h) (frame_of thin p w h) (λ x y. sides_walks thin p w h x y thin-sound) p w h rs,
)
