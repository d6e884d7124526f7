-- Above the main crossing of an outline the body's top side has a ╥, and the annotation crossing below it stands below it.
use Rattle.std.specs.Prelude.{Ok, Err, Some}
use mathlib.Core.Path.{◌≡◌, refl, subst}
use mathlib.Core.Bool.{Bool, true, false, ◌||◌}
use mathlib.Core.List.{List, [], ◌∷◌}
use Prim.Native.Nat.{ℕ, ◌+◌, ◌-◌, ◌/◌, ◌%◌, ◌<◌}
use native.Mathlib.Omega.{arith}
use lib.Dec.{eqb}
use borrow.Author.Tests.{eqb-true}
use Rattle.lists.specs.OneOf.{one_of}
use Rattle.lists.specs.Picture.{Picture}
use Rattle.lists.proofs.AnswerLaws.{then_ok}
use Rattle.lists.proofs.Tests.{true_false}
use Rattle.model.specs.Box.{║, ╥, ╫, ╬}
use Rattle.model.specs.Refusals.{Reading}
use Rattle.model.specs.declared.Rect.{Rect}
use Rattle.walks.specs.Frame.{FrameFinder}
use Rattle.walks.specs.Walk.{walk_of, go_of, ray}
use Rattle.walks.specs.declared.Direction.TheVariants.{Right, Down, Left, Up}
use Rattle.walks.proofs.WalkLaws.{found_side, found_bound}
use Rattle.frames.specs.Body.{body_of}
use Rattle.walks.specs.along.Characters.{searched_of, allowed_of, along_of}
use Rattle.walks.specs.declared.along.Lines.TheVariants.{Body}
use Rattle.frames.specs.outline.Outline.{crossing_by, table_of, outline_by}
use Rattle.frames.specs.declared.outline.Outline.{Outline}
use Rattle.frames.proofs.outline.InsideLaws.{outline_table}

-- one of one character
only : (c k : ℕ) → one_of c (k ∷ []) ≡ true → c ≡ k
unfolding one_of
only c k e = go (eqb c k) refl e
  where
    go : (t : Bool) → eqb c k ≡ t → (t || false) ≡ true → c ≡ k
    go true f e = eqb-true c k f
    go false f e = true_false e refl

-- the walk up ends in ╥
body-edge : (p : Picture) (w h x y : ℕ) (r : Rect) → body_of p w h x y ≡ Ok r → p x r.top ≡ ╥
unfolding body_of
body-edge p w h x y r e =
    let u = then_ok (along_of Body Up p w h x y) _ r e in
    let d = then_ok (along_of Body Down p w h x y) _ r u.2 in
    let l = then_ok (along_of Body Left p w h x y) _ r d.2 in
    let q = then_ok (along_of Body Right p w h x y) _ r l.2 in
    let s : record { left = x - l.0; top = y - u.0; right = x + q.0 + 1; bottom = y + d.0 + 1 } ≡ r = let z = q.2 in cc in
    let f = (found_side (ray Up p x y) (searched_of Body Up) (allowed_of Body Up) 0 y u.0 u.1).0.corner in
    subst (λ (a : Rect). p x a.top ≡ ╥) s (only (p x (y - u.0)) ╥ f)

-- a crossing that is found lies behind where the walk began
crossing_behind : (line : ℕ → ℕ) (s a : List ℕ) (n from : ℕ) (m : Reading ℕ) → walk_of line s a n ≡ m → (i : ℕ) → crossing_by from m ≡ Some i → from < i
crossing_behind line s a n from (Ok k) e i f = let z : from + k ≡ i = cc in omega (arith, found_bound line s a n k e)
crossing_behind line s a n from (Err r) e i f = let z : ◌≡◌ {A = ℕ} 0 1 = cc in absurd (omega arith)

pub record Edged (p : Picture) (o : Outline) : Type 0 where
  pub edge : p o.x o.body.top ≡ ╥
  pub below : (i : ℕ) → o.below ≡ Some i → o.y < i

-- of an answer
abbrev EdgedAnswer : Picture → Reading Outline → Type 0
EdgedAnswer p (Ok o) = Edged p o
EdgedAnswer p (Err r) = Unit {0}

table_edged : (p : Picture) (w h : ℕ) (n : Bool) (k : ℕ) (o : Outline) → table_of p w h n k ≡ Ok o → Edged p o
unfolding table_of
table_edged p w h n k o e =
    let x = k % w in
    let y = k / w in
    let b = then_ok (body_of p w h x y) _ o e in
    let c = crossing_behind (ray Down p x y) (╬ ∷ []) (║ ∷ ╫ ∷ []) (h - 1 - y) y (go_of Down p w h x y (╬ ∷ []) (║ ∷ ╫ ∷ [])) refl in
    subst (EdgedAnswer p) b.2 (record { edge = body-edge p w h x y b.0 b.1; below = c })

pub outline_edged : (find : FrameFinder) (p : Picture) (w h : ℕ) (o : Outline) → outline_by find p w h ≡ Ok o → Edged p o
outline_edged find p w h o e = let t = outline_table find p w h o e in table_edged p w h t.0 t.1 o t.3
