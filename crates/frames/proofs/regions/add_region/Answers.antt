-- `frames::regions::add_region` meets its contract.
use Rattle.std.specs.Prelude.{Ok}
use mathlib.Core.Path.{◌≡◌, sym, ap, ◌∙◌}
use mathlib.Core.List.{[], ◌∷◌, ◌++◌}
use Prim.Native.Nat.{◌<◌, ◌/◌, ◌%◌}
use Rattle.lists.specs.Answer.{◌>>=◌}
use Rattle.model.specs.Layers.{picture_of}
use Rattle.lists.proofs.PlaceLaws.{columns}
use Rattle.model.specs.Refusals.{Reading}
use Rattle.model.specs.declared.Rect.{Rect}
use Rattle.walks.specs.Frame.{frame_of}
use Rattle.walks.specs.Kinds.{thin}
use Rattle.cells.specs.rects.Rects.{rects_of}
use Rattle.frames.specs.regions.Regions.{add_region}
use Rattle.frames.proofs.regions.RegionLaws.{place_of, frame_small}
use Rattle.frames.proofs.regions.add_region.Goals as goal
use Rattle.frames.proofs.regions.add_region.Goals.{After-recognize_region, Start}

some : (t : Start) → 0 < t.args.layer.width
some t = columns t.args.layer.width t.args.layer.height t.args.i t.requires.1

-- the frame that was found goes behind the regions so far
added : (g : After-recognize_region) {F : (Reading Rect)} → g.recognize_region.result ≡ F
    → ◌>>=◌ F (λ r. Ok (rects_of g.args.rects.now g.args.n ++ (r ∷ [])))
    ≡ add_region (frame_of thin (picture_of g.args.layer) g.args.layer.width g.args.layer.height)
    g.args.layer.width g.args.i (rects_of g.args.rects.now g.args.n)
added g e =
    ap (λ (m : Reading Rect). ◌>>=◌ m (λ r. Ok (rects_of g.args.rects.now g.args.n ++ (r ∷ [])))) ((sym e) ∙ g.recognize_region.ensures)

pub nonzero_rem-corner : goal.nonzero_rem-corner
nonzero_rem-corner c = some (goal.at.nonzero_rem-corner c).Start

pub nonzero_div-corner : goal.nonzero_div-corner
nonzero_div-corner c = some (goal.at.nonzero_div-corner c).Start

pub put_rect-requires : goal.put_rect-requires
put_rect-requires c =
    let l = c.args.layer in
    let i = c.args.i in (
      c.requires.2,
      frame_small thin (picture_of l) l.width l.height (i % l.width) (i / l.width) _ c.requires.0
          (place_of l.width l.height i c.requires.1) (sym c.recognize_region.ensures ∙ c.in_ok-r.was),
    )

pub returns : goal.returns
returns c =
    ap Ok c.put_rect.ensures ∙ added (goal.at.returns c).After-recognize_region c.in_ok-r.was
