-- The policy by walks is the one that is drawn: the theorem `walked_is_drawn`.
use Rattle.std.specs.Prelude.{Ok, Err, Result, ℕ, Some}
use mathlib.Core.Bool.{Bool, true, false}
use mathlib.Core.List.{List}
use mathlib.Core.Logic.{◌↔◌}
use mathlib.Core.Path.{◌≡◌}
use Prim.Native.Nat.{ℕ, ◌/◌}
use lib.Dec.{ltb}
use lib.ListN.{length}
use Rattle.lists.specs.Answer.{◌>>=◌, ◌>>◌, Below}
use Rattle.lists.specs.Choose.{choose}
use Rattle.lists.specs.Picture.{Picture}
use Rattle.lists.proofs.AnswerLaws.{then_below}
use Rattle.model.specs.Box.{┌, ╥, ╬}
use Rattle.model.specs.Refusals.{Reading}
use Rattle.model.specs.declared.Rect.{Rect}
use Rattle.model.specs.declared.Refusal.TheVariants.{InvalidUtf8}
use Rattle.cells.specs.Plane.{Plane, TextPlane}
use Rattle.record.specs.Policy.{Text, Policy}
use Rattle.frames.specs.outline.Outline.{search_of, named_by, table_of, outline_by}
use Rattle.frames.specs.declared.outline.Outline.{Outline}
use Rattle.frames.specs.regions.Regions.{regions_by}
use Rattle.frames.proofs.regions.WalkedIsDrawn.{regions_below}
use Rattle.scan.specs.sheet_rows.Rows.{rows_at, widest}
use Rattle.scan.specs.Canvas.{size_of}
use Rattle.text_planes.specs.step.PlaneStep.{plane_by}
use Rattle.text_planes.proofs.step.WalkedIsDrawn.{plane_below}
use Rattle.text_planes.specs.texts.RegionText.{text_of, texts_of}
use Rattle.characters.specs.utf8.Utf8.{checked, on_text}
use Rattle.walks.specs.Frame.{FrameFinder, Kind, frame_of}
use Rattle.walks.specs.Kinds as kind
use Rattle.walks.specs.Sides.{by_sides}
use Rattle.walks.proofs.FrameLaws.{thin-sound, grid-sound, name-sound}
use Rattle.walks.proofs.SidesLaws.{walks_sides, sides_walks}
use Rattle.text_planes.specs.DrawnPlane.{text_plane_by}
use Rattle.canvas.specs.Layers.{text_layer, thin_layer, grid_layer, drawing_by, sheet_by}
use Rattle.text_planes.specs.RegionTexts.{Regions, region_texts_by}
use Rattle.recognizer.specs.StatedPolicy.{stated_policy}
use Rattle.policies.specs.DrawnPolicy.{drawn_plane_by, name_by, policy_by, walked_policy, drawn_policy}
use Rattle.policies.specs.LentPolicy.{text_in}

-- frames of a kind: the second way answers whatever the first answers
abbrev KindBelow : FrameFinder → FrameFinder → Kind → Type 0
KindBelow f f' K = (p : Picture) (w h x y : ℕ) → Below (f K p w h x y) (f' K p w h x y)

-- so it does for each kind of a sheet's frames
pub record FramesBelow (f f' : FrameFinder) : Type 0 where
  pub thin : KindBelow f f' kind.thin
  pub grid : KindBelow f f' kind.grid
  pub name : KindBelow f f' kind.name

module _ (f f' : FrameFinder) (b : FramesBelow f f') where
  flag_below : (p : Picture) (w h row : ℕ) → Below (named_by f p w h row) (named_by f' p w h row)
  unfolding named_by
  flag_below p w h row = go (ltb 0 row)
    where
      go : (t : Bool) → Below (choose t (◌>>◌ (f kind.name p w h 0 0) (Ok true)) (Ok false)) (choose t (◌>>◌ (f' kind.name p w h 0 0) (Ok true)) (Ok false))
      go true = then_below (f kind.name p w h 0 0) (f' kind.name p w h 0 0) (λ _. Ok true) (λ _. Ok true) (b.name p w h 0 0) (λ _ a e. e)
      go false = λ a e. e

  outline_below : (p : Picture) (w h : ℕ) → Below (outline_by f p w h) (outline_by f' p w h)
  unfolding outline_by
  outline_below p w h =
      let end : Bool → Reading Outline = λ n. ◌>>=◌ (search_of ╬ p w h) (table_of p w h n) in
      let k : ℕ → Reading Outline = λ edge. ◌>>=◌ (named_by f p w h (edge / w)) end in
      let k' : ℕ → Reading Outline = λ edge. ◌>>=◌ (named_by f' p w h (edge / w)) end in
      then_below (search_of ┌ p w h) (search_of ┌ p w h) (λ _. ◌>>=◌ (search_of ╥ p w h) k) (λ _. ◌>>=◌ (search_of ╥ p w h) k') (λ a e. e)
      (λ _. then_below (search_of ╥ p w h) (search_of ╥ p w h) k k' (λ a e. e)
      (λ edge. then_below (named_by f p w h (edge / w)) (named_by f' p w h (edge / w)) end end (flag_below p w h (edge / w)) (λ n a e. e)))

  drawing_below : (rs : List (List ℕ)) → Below (drawing_by f rs) (drawing_by f' rs)
  unfolding drawing_by
  drawing_below rs =
      then_below (size_of rs) (size_of rs) (λ z. outline_by f (text_layer rs) z.width z.height) (λ z. outline_by f' (text_layer rs) z.width z.height) (λ a e. e)
      (λ z. outline_below (text_layer rs) z.width z.height)

  sheet_below : (s : List ℕ) → Below (sheet_by f s) (sheet_by f' s)
  unfolding sheet_by
  sheet_below s = go (checked s)
    where
      go : (c : Result (Unit {0}) ℕ) → Below (on_text c (λ at. Err (InvalidUtf8 at)) (drawing_by f (rows_at s 0))) (on_text c (λ at. Err (InvalidUtf8 at)) (drawing_by f' (rows_at s 0)))
      go (Ok tt) = drawing_below (rows_at s 0)
      go (Err at) = λ a e. e

  texts_below : (text lines : Picture) (w h : ℕ) → Below (region_texts_by f text lines w h) (region_texts_by f' text lines w h)
  unfolding region_texts_by
  texts_below text lines w h =
      let k : List Rect → Reading Regions = λ rs. ◌>>=◌ (texts_of text rs) (λ ts. Ok (record { rects = rs; texts = ts })) in
      then_below (regions_by (f kind.thin lines w h) lines w h) (regions_by (f' kind.thin lines w h) lines w h) k k
      (regions_below (f kind.thin lines w h) (f' kind.thin lines w h) (b.thin lines w h) lines w h) (λ rs a e. e)

  text_plane_below : (o : Outline) (text thin grid : Picture) (w h : ℕ) → Below (text_plane_by f o text thin grid w h) (text_plane_by f' o text thin grid w h)
  unfolding text_plane_by
  text_plane_below o text thin grid w h =
      let found : FrameFinder → Regions → Reading Plane = λ d g. plane_by (d kind.grid grid w h) o g.rects grid w h in
      let end : Regions → Plane → Reading TextPlane = λ g P. Ok (record { plane = P; texts = g.texts }) in
      then_below (region_texts_by f text thin w h) (region_texts_by f' text thin w h) (λ g. ◌>>=◌ (found f g) (end g)) (λ g. ◌>>=◌ (found f' g) (end g)) (texts_below text thin w h)
      (λ g. then_below (found f g) (found f' g) (end g) (end g)
      (plane_below (f kind.grid grid w h) (f' kind.grid grid w h) (b.grid grid w h) o g.rects grid w h) (λ P a e. e))

  name_below : (rs : List (List ℕ)) (t : Bool) → Below (name_by f rs t) (name_by f' rs t)
  name_below rs true =
      let k : Rect → Reading Text = λ r. Ok (Some (text_of (text_layer rs) r)) in
      then_below (f kind.name (text_layer rs) (widest rs) (length rs) 0 0) (f' kind.name (text_layer rs) (widest rs) (length rs) 0 0) k k (b.name (text_layer rs) (widest rs) (length rs) 0 0) (λ r a e. e)
  name_below rs false = λ a e. e

  -- a way that answers whatever another answers finds its policy
  pub policy_below : (s : List ℕ) → Below (policy_by f s) (policy_by f' s)
  unfolding policy_by
  policy_below s =
      let rs = rows_at s 0 in
      let last : TextPlane → Text → Reading Policy = λ t name. stated_policy name (text_in t) t.plane in
      let named : FrameFinder → Outline → TextPlane → Reading Policy = λ d o t. ◌>>=◌ (name_by d rs o.named) (last t) in
      then_below (sheet_by f s) (sheet_by f' s) (λ o. ◌>>=◌ (drawn_plane_by f rs o) (named f o)) (λ o. ◌>>=◌ (drawn_plane_by f' rs o) (named f' o)) (sheet_below s)
      (λ o. then_below (drawn_plane_by f rs o) (drawn_plane_by f' rs o) (named f o) (named f' o)
      (text_plane_below o (text_layer rs) (thin_layer rs) (grid_layer rs o.body) (widest rs) (length rs))
      (λ t. then_below (name_by f rs o.named) (name_by f' rs o.named) (last t) (last t) (name_below rs o.named) (λ n a e. e)))

-- what walks find, the sides show, and the other way round
walks_below : FramesBelow frame_of by_sides
walks_below =
    record {
      thin = λ p w h x y. walks_sides kind.thin p w h x y thin-sound;
      grid = λ p w h x y. walks_sides kind.grid p w h x y grid-sound;
      name = λ p w h x y. walks_sides kind.name p w h x y name-sound;
    }

sides_below : FramesBelow by_sides frame_of
sides_below =
    record {
      thin = λ p w h x y. sides_walks kind.thin p w h x y thin-sound;
      grid = λ p w h x y. sides_walks kind.grid p w h x y grid-sound;
      name = λ p w h x y. sides_walks kind.name p w h x y name-sound;
    }

pub walked_is_drawn : (s : List ℕ) (p : Policy) → (walked_policy s ≡ Ok p) ↔ (drawn_policy s ≡ Ok p)
walked_is_drawn s p = (policy_below frame_of by_sides walks_below s p, policy_below by_sides frame_of sides_below s p)
