-- `frames::frame` meets its contract: one cursor goes around the frame, as `around` says, and each walk ends in the picture.
use Rattle.std.specs.Prelude.{Ok, Err}
use Rattle.std.proofs.lemmas.Result.{err_from_is_err_and}
use mathlib.Core.Path.{refl, sym, ◌∙◌}
use native.Mathlib.Omega.{arith}
use Rattle.model.specs.Layers.{picture_of}
use Rattle.walks.specs.declared.Direction.TheVariants.{Right, Down, Left}
use Rattle.walks.proofs.cursors.CursorLaws.{Moves}
use Rattle.frames.proofs.FourWalks.{around, in_right, in_down, in_left}
use Rattle.frames.proofs.frame.Goals as goal
use Rattle.frames.proofs.frame.Goals.{In_ok-search, In_ok-search-2, In_ok-search-3}

-- the walks that ended
right : (c : In_ok-search) → let l = c.args.spot.layer in Moves c.args.lines (picture_of l) l.width l.height Right c.args.spot.at c.search.new.cursor (Ok c.in_ok-search.field-0)
right c = (c.search.ensures.cursor, sym c.in_ok-search.was ∙ c.search.ensures.walked)

down : (c : In_ok-search-2) → let l = c.args.spot.layer in Moves c.args.lines (picture_of l) l.width l.height Down c.search.new.cursor c.search-2.new.cursor (Ok c.in_ok-search-2.field-0)
down c = (c.search-2.ensures.cursor, sym c.in_ok-search-2.was ∙ c.search-2.ensures.walked)

left : (c : In_ok-search-3) → let l = c.args.spot.layer in Moves c.args.lines (picture_of l) l.width l.height Left c.search-2.new.cursor c.search-3.new.cursor (Ok c.in_ok-search-3.field-0)
left c = (c.search-3.ensures.cursor, sym c.in_ok-search-3.was ∙ c.search-3.ensures.walked)

pub returns-in_err-search : goal.returns-in_err-search
returns-in_err-search c =
    let a = c.args in
    let s = a.spot in
    let l = s.layer in
    let p = err_from_is_err_and c.from_residual.result c.from_residual.ensures.1 in
    rw (p.1, p.2) (around a.lines (picture_of l) l.width l.height s.at.x s.at.y (Err _) _ _ _ _ _ _ _
    (c.search.ensures.cursor, sym c.in_err-search.was ∙ c.search.ensures.walked) (refl, refl) (refl, refl) (refl, refl))

pub search-requires-2 : goal.search-requires-2
search-requires-2 c =
    let a = c.args in
    let s = a.spot in
    let l = s.layer in
    in_right a.lines (picture_of l) l.width l.height s.at.x s.at.y _ _ s.inside (right (goal.at.search-requires-2 c).In_ok-search)

pub returns-in_err-search-2 : goal.returns-in_err-search-2
returns-in_err-search-2 c =
    let a = c.args in
    let s = a.spot in
    let l = s.layer in
    let p = err_from_is_err_and c.from_residual-in_err-search-2.result c.from_residual-in_err-search-2.ensures.1 in
    rw (p.1, p.2) (around a.lines (picture_of l) l.width l.height s.at.x s.at.y _ (Err _) _ _ _ _ _ _ (right (goal.at.returns-in_err-search-2 c).In_ok-search)
    (c.search-2.ensures.cursor, sym c.in_err-search-2.was ∙ c.search-2.ensures.walked) (refl, refl) (refl, refl))

pub search-requires-3 : goal.search-requires-3
search-requires-3 c =
    let a = c.args in
    let s = a.spot in
    let l = s.layer in
    let g = goal.at.search-requires-3 c in
    in_down a.lines (picture_of l) l.width l.height s.at.x s.at.y _ _ _ _ s.inside (right g.In_ok-search) (down g.In_ok-search-2)

pub returns-in_err-search-3 : goal.returns-in_err-search-3
returns-in_err-search-3 c =
    let a = c.args in
    let s = a.spot in
    let l = s.layer in
    let g = goal.at.returns-in_err-search-3 c in
    let p = err_from_is_err_and c.from_residual-in_err-search-3.result c.from_residual-in_err-search-3.ensures.1 in
    rw (p.1, p.2) (around a.lines (picture_of l) l.width l.height s.at.x s.at.y _ _ (Err _) _ _ _ _ _ (right g.In_ok-search) (down g.In_ok-search-2)
    (c.search-3.ensures.cursor, sym c.in_err-search-3.was ∙ c.search-3.ensures.walked) (refl, refl))

pub search-requires-4 : goal.search-requires-4
search-requires-4 c =
    let a = c.args in
    let s = a.spot in
    let l = s.layer in
    let g = goal.at.search-requires-4 c in
    in_left a.lines (picture_of l) l.width l.height s.at.x s.at.y _ _ _ _ _ _ s.inside (right g.In_ok-search) (down g.In_ok-search-2) (left g.In_ok-search-3)

pub returns-in_err-search-4 : goal.returns-in_err-search-4
returns-in_err-search-4 c =
    let a = c.args in
    let s = a.spot in
    let l = s.layer in
    let g = goal.at.returns-in_err-search-4 c in
    let p = err_from_is_err_and c.from_residual-in_err-search-4.result c.from_residual-in_err-search-4.ensures.1 in
    rw (p.1, p.2) (around a.lines (picture_of l) l.width l.height s.at.x s.at.y _ _ _ (Err _) _ _ _ _ (right g.In_ok-search) (down g.In_ok-search-2) (left g.In_ok-search-3)
    (c.search-4.ensures.cursor, sym c.in_err-search-4.was ∙ c.search-4.ensures.walked))

pub close-requires : goal.close-requires
close-requires c =
    let a = c.args in
    let s = a.spot in
    let l = s.layer in
    let g = goal.at.close-requires c in
    let corner = in_down a.lines (picture_of l) l.width l.height s.at.x s.at.y _ _ _ _ s.inside (right g.In_ok-search) (down g.In_ok-search-2) in
    (omega (arith, corner.column, c.well_formed), omega (arith, corner.row, c.well_formed))

pub returns : goal.returns
returns c =
    let a = c.args in
    let s = a.spot in
    let l = s.layer in
    let g = goal.at.returns c in
    c.close.ensures
    ∙ around a.lines (picture_of l) l.width l.height s.at.x s.at.y _ _ _ (Ok _) _ _ _ _ (right g.In_ok-search) (down g.In_ok-search-2) (left g.In_ok-search-3)
    (c.search-4.ensures.cursor, sym c.in_ok-search-4.was ∙ c.search-4.ensures.walked)
