-- The main crossing and the body of an outline lie in the canvas.
use Rattle.std.specs.Prelude.{Ok, Err}
use mathlib.Core.Path.{◌≡◌, subst}
use mathlib.Core.Bool.{Bool}
use Prim.Native.Nat.{ℕ, ◌+◌, ◌-◌, ◌*◌, ◌/◌, ◌%◌, ◌≤◌, ◌<◌}
use native.Mathlib.Omega.{arith}
use Rattle.lists.specs.Picture.{Picture}
use Rattle.lists.proofs.AnswerLaws.{then_ok}
use Rattle.lists.proofs.PlaceLaws.{column_in, row_in_lem}
use Rattle.model.specs.Box.{┌, ╥, ╬}
use Rattle.model.specs.Refusals.{Reading}
use Rattle.model.specs.declared.Rect.{Rect}
use Rattle.walks.specs.Frame.{FrameFinder}
use Rattle.walks.proofs.WalkLaws.{found_bound}
use Rattle.walks.specs.declared.Direction.TheVariants.{Right, Down, Left, Up}
use Rattle.frames.specs.Body.{body_of}
use Rattle.walks.specs.along.Characters.{along_of}
use Rattle.walks.specs.declared.along.Lines.TheVariants.{Body}
use Rattle.frames.specs.outline.Outline.{search_of, named_by, table_of, outline_by}
use Rattle.frames.specs.declared.outline.Outline.{Outline}
use Rattle.frames.proofs.outline.OutlineLaws.{search_in}

-- a body of w columns and h rows, around column x of row y
pub record Around (w h x y : ℕ) (r : Rect) : Type 0 where
  pub left : r.left < x
  pub right : x + 1 < r.right
  pub columns : r.right ≤ w
  pub top : r.top < y
  pub bottom : y + 1 < r.bottom
  pub rows : r.bottom ≤ h

pub body_around : (p : Picture) (w h x y : ℕ) (r : Rect) → x < w → y < h → body_of p w h x y ≡ Ok r → Around w h x y r
unfolding body_of
body_around p w h x y r a b e =
    let u = then_ok (along_of Body Up p w h x y) _ r e in
    let d = then_ok (along_of Body Down p w h x y) _ r u.2 in
    let l = then_ok (along_of Body Left p w h x y) _ r d.2 in
    let q = then_ok (along_of Body Right p w h x y) _ r l.2 in
    let fu = found_bound _ _ _ _ _ u.1 in
    let fd = found_bound _ _ _ _ _ d.1 in
    let fl = found_bound _ _ _ _ _ l.1 in
    let fr = found_bound _ _ _ _ _ q.1 in
    let s : record { left = x - l.0; top = y - u.0; right = x + q.0 + 1; bottom = y + d.0 + 1 } ≡ r = let z = q.2 in cc in
    let i : Around w h x y (record { left = x - l.0; top = y - u.0; right = x + q.0 + 1; bottom = y + d.0 + 1 }) =
    record { left = omega arith; right = omega arith; columns = omega arith; top = omega arith; bottom = omega arith; rows = omega arith } in
    subst (Around w h x y) s i

-- an outline's main crossing lies in the canvas, and its body around it
pub record Inside (w h : ℕ) (o : Outline) : Type 0 where
  pub column : o.x < w
  pub row : o.y < h
  pub body : Around w h o.x o.y o.body

-- of an answer
abbrev InsideAnswer : ℕ → ℕ → Reading Outline → Type 0
InsideAnswer w h (Ok o) = Inside w h o
InsideAnswer w h (Err r) = Unit {0}

table-inside : (p : Picture) (w h : ℕ) (n : Bool) (k : ℕ) (o : Outline) → k < h * w → table_of p w h n k ≡ Ok o → Inside w h o
unfolding table_of
table-inside p w h n k o l e =
    let b = then_ok (body_of p w h (k % w) (k / w)) _ o e in
    let x = column_in w h k l in
    let y = row_in_lem w h k l in
    let a = body_around p w h (k % w) (k / w) b.0 x y b.1 in
    let s = b.2 in
    subst (InsideAnswer w h) s (record { column = x; row = y; body = a })

-- the outline is a table's, whose main crossing stands at a place of the canvas
pub outline_table : (find : FrameFinder) (p : Picture) (w h : ℕ) (o : Outline) → outline_by find p w h ≡ Ok o → (n : Bool) × (k : ℕ) × (k < h * w) × (table_of p w h n k ≡ Ok o)
unfolding outline_by
outline_table find p w h o e =
    let c = then_ok (search_of ┌ p w h) _ o e in
    let i = then_ok (search_of ╥ p w h) _ o c.2 in
    let n = then_ok (named_by find p w h (i.0 / w)) _ o i.2 in
    let k = then_ok (search_of ╬ p w h) _ o n.2 in
    (n.0, k.0, search_in ╬ p w h k.0 k.1, k.2)

pub outline_inside : (find : FrameFinder) (p : Picture) (w h : ℕ) (o : Outline) → outline_by find p w h ≡ Ok o → Inside w h o
outline_inside find p w h o e = let t = outline_table find p w h o e in table-inside p w h t.0 t.1 o t.2 t.3
