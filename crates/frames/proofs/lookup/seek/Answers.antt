-- `frames::lookup::seek` meets its contract.
use Rattle.std.specs.Prelude.{Ok, Err, Some, List}
use mathlib.Core.Path.{◌≡◌, refl, sym, ap, ◌∙◌}
use Prim.Native.Nat.{ℕ, ◌+◌, ◌*◌, ◌/◌, ◌<◌, ◌^◌}
use native.Mathlib.Nat.{div-le_self}
use native.Mathlib.Omega.{arith}
use Rattle.lists.specs.Picture.{Picture}
use Rattle.lists.proofs.PlaceLaws.{columns}
use Rattle.model.specs.declared.Rect.{Rect}
use Rattle.frames.specs.regions.Corners.{corner_in, NextCorner}
use Rattle.frames.proofs.regions.CornerLaws.{next_within}
use Rattle.model.specs.Refusals.{Reading}
use Rattle.walks.specs.Frame.{Kind, frame_of}
use Rattle.walks.proofs.FrameLaws.{accepted}
use Rattle.std.specs.Result.{result_ok}
use Rattle.frames.specs.lookup.Lookup.{first_in}
use Rattle.frames.specs.lookup.Numbers.{number_in}
use Rattle.frames.proofs.lookup.seek.Goals as goal
use Rattle.frames.proofs.lookup.seek.Goals.{After-next_corner-at}

-- a frame ends below the row under its corner
ends_below : (K : Kind) (p : Picture) (w h x y : ℕ) (r : Rect) → frame_of K p w h x y ≡ Ok r → y + 1 < r.bottom
ends_below K p w h x y r e =
    let F = accepted K p w h x y r e in
    omega (arith, F.frame.high, ap (λ (f : Rect). f.bottom) F.is)

-- the frame of an answer, if it is one
some_ok : (m : Reading Rect) (f : Rect) → result_ok m ≡ Some f → m ≡ Ok f
some_ok (Ok g) f e = let z : g ≡ f = cc in ap Ok z
some_ok (Err r) f e = absurd cc

number_ok : (rs : List Rect) (m : Reading Rect) → number_in rs (result_ok m) ≡ first_in rs m
number_ok rs (Ok f) = refl
number_ok rs (Err r) = refl

pub nonzero_div-row : goal.nonzero_div-row
nonzero_div-row c = columns c.args.layer.width c.args.layer.height c.args.i c.requires

-- the next corner of the layer
next : (c : After-next_corner-at) → let l = c.args.layer in NextCorner (corner_in l.codes.now) (l.height * l.width) c.args.i c.next_corner-at.result
next c = let l = c.args.layer in next_within l.codes.now (l.height * l.width) c.args.i c.next_corner-at.result l.sized c.next_corner-at.ensures

-- the rows under a corner are numbers
rows_fit : (c : After-next_corner-at) → c.next_corner-at.result / c.args.layer.width + 2 < 2 ^ 64
rows_fit c =
    omega (arith, div-le_self c.next_corner-at.result c.args.layer.width, (next c).to, c.args.layer.sized, c.well_formed)

pub overflow_add-under : goal.overflow_add-under
overflow_add-under c = omega (arith, rows_fit c)

pub returns-then-size-at : goal.returns-then-size-at
returns-then-size-at c = record { next = next (goal.at.returns-then-size-at c).After-next_corner-at; under = refl; ends = λ f e. absurd cc; frame = λ l rs. absurd (omega (arith, c.if-size-at.true)) }

pub nonzero_rem-corner : goal.nonzero_rem-corner
nonzero_rem-corner c = let l = c.args.layer in columns l.width l.height c.next_corner-at.result c.if-size-at.false

pub returns : goal.returns
returns c =
    record {
      next = next (goal.at.returns c).After-next_corner-at;
      under = refl;
      ends = λ f e. ends_below _ _ _ _ _ _ f (sym c.recognize_rectangle.ensures ∙ some_ok _ f (sym c.ok-frame.ensures.value ∙ e));
      frame = λ l rs. ap (number_in rs) c.ok-frame.ensures.value ∙ number_ok rs _ ∙ ap (first_in rs) c.recognize_rectangle.ensures;
    }
