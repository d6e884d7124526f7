-- Frames that are numbered one after the other.
use mathlib.Core.Path.{◌≡◌, sym, ap, ◌∙◌, subst}
use mathlib.Core.Bool.{true}
use mathlib.Core.List.{List}
use Prim.Native.Nat.{ℕ, ◌+◌, ◌*◌, ◌/◌, ◌%◌, ◌≤◌, ◌<◌}
use native.Mathlib.Nat.{le_trans, le-div_iff_mul-le, div-mul-le_self}
use native.Mathlib.Omega.{arith}
use lib.Dec.{ltb}
use lib.ListN.{length, get_or, set}
use lib.Seq.{get_or-set_same, get_or-set_other}
use borrow.Author.Tests.{ltb-true, ltb-false}
use Rattle.lists.specs.Picture.{canvas, at}
use Rattle.lists.proofs.PlaceLaws.{columns, at-canvas}
use Rattle.lists.proofs.Tests.{by_flag, true_false}
use Rattle.model.specs.declared.Rect.{Rect}
use Rattle.frames.specs.regions.Regions.{Finder, is_corner}
use Rattle.frames.specs.lookup.Lookup.{number_of, Numbered}
use Rattle.frames.specs.lookup.Numbers.{Above, number_in, Seen, Stored}
use Rattle.frames.specs.declared.lookup.Sought.{Sought}

-- the frames before place i are numbered, by some rects; those before `from` end at or above the row under it
pub record Numbering (find : Finder) (rs : List Rect) (d : List ℕ) (w h : ℕ) (start : List ℕ) (i from : ℕ) (found : List ℕ) : Type 0 where
  pub along : i ≤ h * w
  pub long : length found ≡ length start
  pub numbers : Numbered find rs (canvas w h d) w i found
  pub few : from ≤ length rs
  pub above : Above rs from (i / w + 1)

module _ {find : Finder} {rs : List Rect} {d : List ℕ} {w h : ℕ} {start : List ℕ} {i from : ℕ} {found : List ℕ} (q : Numbering find rs d w h start i from found) (less : i < h * w) (room : h * w ≤ length start)
    {s : Sought} (v : Seen find d w (h * w) i s) where
  -- a corner before the next one stands before place i
  before : (j : ℕ) → j < s.at → is_corner (at (canvas w h d) w j) ≡ true → j < i
  before j l e =
      by_flag (ltb j i) (λ y. ltb-true j i y)
      (λ n. true_false (sym (ap is_corner (at-canvas w h j (omega (arith, v.next.to)) d)) ∙ e) (v.next.clear j (ltb-false j i n) l))

  -- the row under a place further on
  row_on : (a b : ℕ) → a ≤ b → a / w + 1 ≤ b / w + 1
  row_on a b l =
      let z : a / w ≤ b / w = (le-div_iff_mul-le (columns w h i less)).1 (le_trans (div-mul-le_self a w) l) in
      omega arith

  module _ (to : ℕ) (few : to ≤ length rs) (above : Above rs to s.under) (k : ℕ) (ke : k ≡ number_in rs s.frame) (out : List ℕ) (next : ℕ) (t : Stored s.at k (h * w) found out next) where
    above_on : s.at ≤ next → Above rs to (next / w + 1)
    above_on l j b = le_trans (above j b) (rw v.under (row_on s.at next l))

    number : s.at < h * w → k ≡ number_of find rs (s.at % w) (s.at / w)
    number l = ke ∙ v.frame l rs

    stored : s.at < h * w → Numbered find rs (canvas w h d) w (s.at + 1) (set found s.at k)
    stored l j b e =
        by_flag (ltb j s.at)
        (λ y.
        let a : j < s.at = ltb-true j s.at y in
        get_or-set_other found s.at j k 0 (λ z. absurd (omega arith)) ∙ q.numbers j (before j a e) e)
        (λ m.
        let z : s.at ≡ j = omega (arith, ltb-false j s.at m) in
        subst (λ (c : ℕ). get_or (set found s.at k) c 0 ≡ number_of find rs (c % w) (c / w)) z
        (get_or-set_same found s.at k 0 (omega (arith, q.long)) ∙ number l))

    pub numbering_next : length out ≡ length found → (i < next) × Numbering find rs d w h start next to out
    numbering_next len =
        by_flag (ltb s.at (h * w))
        (λ y.
        let l : s.at < h * w = ltb-true s.at (h * w) y in
        let p = t.put l in
        let e : out ≡ set found s.at k = p.0 in
        let f : next ≡ s.at + 1 = p.1 in (
          omega (arith, f, v.next.from),
          record { along = omega (arith, f); long = len ∙ q.long; numbers = rw (e, f) (stored l); few = few; above = above_on (omega (arith, f)) },
        ))
        (λ m.
        let p = t.past (ltb-false s.at (h * w) m) in
        let e : out ≡ found = p.0 in
        let f : next ≡ h * w = p.1 in
        let g : s.at ≡ h * w = omega (arith, ltb-false s.at (h * w) m, v.next.to) in (
          omega (arith, f),
          record { along = omega (arith, f); long = len ∙ q.long; numbers = rw (e, f) (λ j b c. q.numbers j (before j (omega (arith, g)) c) c); few = few; above = above_on (omega (arith, f, g)) },
        ))
