-- `frames::recognize_body` meets its contract: its walks come to the sides of the body, as `sides-found` says, and each ends in the picture.
use Rattle.std.specs.Prelude.{Ok, Err, ℕ}
use Rattle.std.proofs.lemmas.Result.{err_from_is_err_and}
use mathlib.Core.Path.{◌≡◌, refl, sym, ap, ◌∙◌}
use Prim.Native.Nat.{◌+◌, ◌<◌, ◌^◌}
use native.Mathlib.Omega.{arith}
use Rattle.model.specs.Layers.{picture_of}
use Rattle.walks.specs.Spots.{from_spot}
use Rattle.walks.specs.declared.spot.Spot.{Spot}
use Rattle.walks.specs.cursors.Cursor.{onward, place_after}
use Rattle.walks.proofs.WalkLaws.{found_bound}
use Rattle.walks.proofs.FrameLaws.{closed}
use Rattle.walks.proofs.cursors.CursorLaws.{Moves}
use Rattle.walks.specs.declared.Direction.{Direction}
use Rattle.walks.specs.declared.Direction.TheVariants.{Right, Down, Left, Up}
use Rattle.walks.specs.along.Characters.{along_of}
use Rattle.walks.specs.declared.along.Lines.TheVariants.{Body}
use Rattle.frames.proofs.FourWalks.{sides-found}
use Rattle.frames.proofs.recognize_body.Goals as goal
use Rattle.frames.proofs.recognize_body.Goals.{In_ok-up, In_ok-down, In_ok-left, In_ok-right}

-- how far the walks came
up : (c : In_ok-up) → from_spot (along_of Body Up) c.args.spot ≡ Ok c.in_ok-up.up
up c = sym c.walk_from.ensures ∙ c.in_ok-up.was

down : (c : In_ok-down) → from_spot (along_of Body Down) c.args.spot ≡ Ok c.in_ok-down.down
down c = sym c.walk_from-2.ensures ∙ c.in_ok-down.was

left : (c : In_ok-left) → from_spot (along_of Body Left) c.args.spot ≡ Ok c.in_ok-left.left
left c = sym c.walk_from-3.ensures ∙ c.in_ok-left.was

right : (c : In_ok-right) → from_spot (along_of Body Right) c.args.spot ≡ Ok c.in_ok-right.right
right c = sym c.walk_from-4.ensures ∙ c.in_ok-right.was

-- the sides on the right and at the bottom are numbers
wide : (c : In_ok-right) → c.args.spot.at.x + c.in_ok-right.right + 1 < 2 ^ 64
wide c = let k = found_bound _ _ _ _ _ (right c) in omega (arith, k, c.args.spot.inside.column, c.well_formed)

high : (c : In_ok-down) → c.args.spot.at.y + c.in_ok-down.down + 1 < 2 ^ 64
high c = let k = found_bound _ _ _ _ _ (down c) in omega (arith, k, c.args.spot.inside.row, c.well_formed)

-- where a walk that came so far leaves its cursor
moved : (s : Spot) (d : Direction) (n : ℕ) → from_spot (along_of Body d) s ≡ Ok n → Moves Body (picture_of s.layer) s.layer.width s.layer.height d s.at (onward d s.at n) (Ok n)
moved s d n e = (ap (place_after d s.at) (sym e), sym e)

pub returns-in_err-up : goal.returns-in_err-up
returns-in_err-up c =
    let s = c.args.spot in
    let l = s.layer in
    let p = err_from_is_err_and c.from_residual.result c.from_residual.ensures.1 in
    rw (p.1, p.2) (sides-found Body (picture_of l) l.width l.height s.at.x s.at.y refl (Err _) _ _ _ _ _ _ _
    (refl, sym c.in_err-up.was ∙ c.walk_from.ensures) (refl, refl) (refl, refl) (refl, refl))

pub returns-in_err-down : goal.returns-in_err-down
returns-in_err-down c =
    let s = c.args.spot in
    let l = s.layer in
    let g = goal.at.returns-in_err-down c in
    let p = err_from_is_err_and c.from_residual-in_err-down.result c.from_residual-in_err-down.ensures.1 in
    rw (p.1, p.2) (sides-found Body (picture_of l) l.width l.height s.at.x s.at.y refl (Ok _) (Err _) _ _ _ _ _ _
    (moved s Up _ (up g.In_ok-up)) (refl, sym c.in_err-down.was ∙ c.walk_from-2.ensures) (refl, refl) (refl, refl))

pub returns-in_err-left : goal.returns-in_err-left
returns-in_err-left c =
    let s = c.args.spot in
    let l = s.layer in
    let g = goal.at.returns-in_err-left c in
    let p = err_from_is_err_and c.from_residual-in_err-left.result c.from_residual-in_err-left.ensures.1 in
    rw (p.1, p.2) (sides-found Body (picture_of l) l.width l.height s.at.x s.at.y refl (Ok _) (Ok _) (Err _) _ _ _ _ _
    (moved s Up _ (up g.In_ok-up)) (moved s Down _ (down g.In_ok-down)) (refl, sym c.in_err-left.was ∙ c.walk_from-3.ensures) (refl, refl))

pub returns-in_err-right : goal.returns-in_err-right
returns-in_err-right c =
    let s = c.args.spot in
    let l = s.layer in
    let g = goal.at.returns-in_err-right c in
    let p = err_from_is_err_and c.from_residual-in_err-right.result c.from_residual-in_err-right.ensures.1 in
    rw (p.1, p.2) (sides-found Body (picture_of l) l.width l.height s.at.x s.at.y refl (Ok _) (Ok _) (Ok _) (Err _) _ _ _ _
    (moved s Up _ (up g.In_ok-up)) (moved s Down _ (down g.In_ok-down)) (moved s Left _ (left g.In_ok-left)) (refl, sym c.in_err-right.was ∙ c.walk_from-4.ensures))

pub overflow_sub-result : goal.overflow_sub-result
overflow_sub-result c = (found_bound _ _ _ _ _ (left (goal.at.overflow_sub-result c).In_ok-left)).1

pub overflow_sub-result-2 : goal.overflow_sub-result-2
overflow_sub-result-2 c = (found_bound _ _ _ _ _ (up (goal.at.overflow_sub-result-2 c).In_ok-up)).1

pub overflow_add-result : goal.overflow_add-result
overflow_add-result c = omega (arith, wide (goal.at.overflow_add-result c).In_ok-right)

pub overflow_add-result-2 : goal.overflow_add-result-2
overflow_add-result-2 c = omega (arith, wide (goal.at.overflow_add-result-2 c).In_ok-right)

pub overflow_add-result-3 : goal.overflow_add-result-3
overflow_add-result-3 c = omega (arith, high (goal.at.overflow_add-result-3 c).In_ok-down)

pub overflow_add-result-4 : goal.overflow_add-result-4
overflow_add-result-4 c = omega (arith, high (goal.at.overflow_add-result-4 c).In_ok-down)

pub returns : goal.returns
returns c =
    let s = c.args.spot in
    let l = s.layer in
    let g = goal.at.returns c in
    sym (closed _ _ _ _ _ _ refl refl)
    ∙ sides-found Body (picture_of l) l.width l.height s.at.x s.at.y refl _ _ _ _ _ _ _ _
    (moved s Up _ (up g.In_ok-up)) (moved s Down _ (down g.In_ok-down)) (moved s Left _ (left g.In_ok-left)) (moved s Right _ (right g.In_ok-right))
