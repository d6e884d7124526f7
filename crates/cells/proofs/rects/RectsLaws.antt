-- A rect more in a slice of four numbers each.
use mathlib.Core.Path.{◌≡◌, ◌∙◌}
use mathlib.Core.List.{List, [], ◌∷◌, ◌++◌}
use Prim.Native.Nat.{ℕ, ◌+◌, ◌*◌, ◌≤◌, ◌<◌}
use native.Mathlib.Numerals.{add-one}
use native.Mathlib.Omega.{arith}
use lib.ListN.{length, get_or, set, length-set}
use lib.Seq.{get_or-set_same, get_or-set_other}
use Rattle.lists.proofs.RunLaws.{run-next, run-same}
use Rattle.model.specs.declared.Rect.{Rect}
use Rattle.cells.specs.rects.Rects.{rect_at, rects_of}

-- a number stored behind a place leaves what stands there
before : (d : List ℕ) (i j v : ℕ) → j < i → get_or (set d i v) j 0 ≡ get_or d j 0
before d i j v h = get_or-set_other d i j v 0 (λ e. absurd (omega arith))

module _ (d : List ℕ) (at a b c e : ℕ) where
  abbrev one : List ℕ
  one = set d at a

  abbrev two : List ℕ
  two = set one (at + 1) b

  abbrev three : List ℕ
  three = set two (at + 2) c

  -- four numbers stored one behind the other
  abbrev pub four : List ℕ
  four = set three (at + 3) e

  four_before : (j : ℕ) → j < at → get_or four j 0 ≡ get_or d j 0
  four_before j h =
      before three (at + 3) j e (omega arith) ∙ before two (at + 2) j c (omega arith) ∙ before one (at + 1) j b (omega arith) ∙ before d at j a h

  module _ (h : at + 4 ≤ length d) where
    four_0 : get_or four at 0 ≡ a
    four_0 =
        before three (at + 3) at e (omega arith) ∙ before two (at + 2) at c (omega arith) ∙ before one (at + 1) at b (omega arith)
        ∙ get_or-set_same d at a 0 (omega arith)

    four_1 : get_or four (at + 1) 0 ≡ b
    four_1 =
        before three (at + 3) (at + 1) e (omega arith) ∙ before two (at + 2) (at + 1) c (omega arith)
        ∙ get_or-set_same one (at + 1) b 0 (omega (arith, length-set d at a))

    four_2 : get_or four (at + 2) 0 ≡ c
    four_2 =
        before three (at + 3) (at + 2) e (omega arith)
        ∙ get_or-set_same two (at + 2) c 0 (omega (arith, length-set d at a, length-set one (at + 1) b))

    four_3 : get_or four (at + 3) 0 ≡ e
    four_3 = get_or-set_same three (at + 3) e 0 (omega (arith, length-set d at a, length-set one (at + 1) b, length-set two (at + 2) c))

rect_is : (l t r b l' t' r' b' : ℕ) → l ≡ l' → t ≡ t' → r ≡ r' → b ≡ b'
    → ◌≡◌ {A = Rect} (record { left = l; top = t; right = r; bottom = b }) (record { left = l'; top = t'; right = r'; bottom = b' })
rect_is l t r b l' t' r' b' e f g h = rw (e, f, g, h)

-- rect n is stored behind the others
pub next_rect : (d : List ℕ) (n : ℕ) (r : Rect) → n * 4 + 4 ≤ length d
    → rects_of (four d (n * 4) r.left r.top r.right r.bottom) (n + 1) ≡ rects_of d n ++ (r ∷ [])
next_rect d n r h =
    let f : (j : ℕ) → j < n * 4 → get_or (four d (n * 4) r.left r.top r.right r.bottom) j 0 ≡ get_or d j 0 =
    four_before d (n * 4) r.left r.top r.right r.bottom in
    let o : List ℕ = four d (n * 4) r.left r.top r.right r.bottom in
    let z : 0 + n ≡ n = omega arith in
    let more : rects_of o (n + 1) ≡ rects_of o n ++ (rect_at o n ∷ []) = rw (add-one n) (run-next (rect_at o) 0 n ∙ rw z) in
    let same : rects_of o n ≡ rects_of d n =
    run-same (rect_at o) (rect_at d) 0 n
    (λ i p q. rect_is _ _ _ _ _ _ _ _ (f (i * 4) (omega arith)) (f (i * 4 + 1) (omega arith)) (f (i * 4 + 2) (omega arith)) (f (i * 4 + 3) (omega arith))) in
    let last : rect_at o n ≡ r =
    rect_is _ _ _ _ _ _ _ _
    (four_0 d (n * 4) r.left r.top r.right r.bottom h)
    (four_1 d (n * 4) r.left r.top r.right r.bottom h)
    (four_2 d (n * 4) r.left r.top r.right r.bottom h)
    (four_3 d (n * 4) r.left r.top r.right r.bottom h) in
    more ∙ rw (same, last)
