-- One text more behind the others, and its span: the others stay what they are.
use mathlib.Core.Path.{◌≡◌, sym, ◌∙◌}
use mathlib.Core.List.{List, ◌++◌}
use Prim.Native.Nat.{ℕ, ◌+◌, ◌*◌, ◌≤◌, ◌<◌}
use native.Mathlib.Omega.{arith}
use lib.ListN.{length, get_or, take, drop, set, length-set, length-drop, take-append-drop}
use lib.Seq.{length-take-le, take-append-le, take-append_seam, drop-append-le, drop_at, get_or-set_same, get_or-set_other}
use Rattle.lists.specs.Put.{put}
use Rattle.cells.specs.Spans.{offset_at, length_at, text_at}

part_left : (u v : List ℕ) (off len : ℕ) → off + len ≤ length u → take len (drop off (u ++ v)) ≡ take len (drop off u)
part_left u v off len h =
    let a : off ≤ length u = omega arith in
    let b : len ≤ length (drop off u) = omega (arith, length-drop off u) in
    rw (drop-append-le off u v a) (take-append-le len (drop off u) v b)

module _ (d : List ℕ) (at : ℕ) (x : List ℕ) (h : at ≤ length d) where
  put-before : (off len : ℕ) → off + len ≤ at → take len (drop off (put d at x)) ≡ take len (drop off d)
  unfolding put
  put-before off len k =
      let l = length-take-le at d h in
      part_left (take at d) (x ++ drop (at + length x) d) off len (omega arith) ∙ sym (part_left (take at d) (drop at d) off len (omega arith))
      ∙ rw (take-append-drop at d)

  put-here : take (length x) (drop at (put d at x)) ≡ x
  unfolding put
  put-here = rw (drop_at (take at d) (x ++ drop (at + length x) d) at (length-take-le at d h)) (take-append_seam x (drop (at + length x) d))

module _ (s : List ℕ) (k at len : ℕ) where
  -- span k is stored
  abbrev pub spanned : List ℕ
  spanned = set (set s (k * 2) at) (k * 2 + 1) len

  stored_before : (i : ℕ) → i < k * 2 → get_or spanned i 0 ≡ get_or s i 0
  stored_before i h =
      get_or-set_other (set s (k * 2) at) (k * 2 + 1) i len 0 (λ e. absurd (omega arith)) ∙ get_or-set_other s (k * 2) i at 0 (λ e. absurd (omega arith))

  pub offset-before : (j : ℕ) → j < k → offset_at spanned j ≡ offset_at s j
  offset-before j h = stored_before (j * 2) (omega arith)

  pub length_before : (j : ℕ) → j < k → length_at spanned j ≡ length_at s j
  length_before j h = stored_before (j * 2 + 1) (omega arith)

  module _ (h : k * 2 + 2 ≤ length s) where
    pub offset-here : offset_at spanned k ≡ at
    offset-here =
        get_or-set_other (set s (k * 2) at) (k * 2 + 1) (k * 2) len 0 (λ e. absurd (omega arith)) ∙ get_or-set_same s (k * 2) at 0 (omega arith)

    pub length-here : length_at spanned k ≡ len
    length-here = get_or-set_same (set s (k * 2) at) (k * 2 + 1) len 0 (omega (arith, length-set s (k * 2) at))

module _ (d s : List ℕ) (k at : ℕ) (x : List ℕ) (l : at ≤ length d) where
  pub text-before : (j : ℕ) → j < k → offset_at s j + length_at s j ≤ at → text_at (put d at x) (spanned s k at (length x)) j ≡ text_at d s j
  text-before j h i = rw (offset-before s k at (length x) j h, length_before s k at (length x) j h) (put-before d at x l (offset_at s j) (length_at s j) i)

  pub text-here : k * 2 + 2 ≤ length s → text_at (put d at x) (spanned s k at (length x)) k ≡ x
  text-here h = rw (offset-here s k at (length x) h, length-here s k at (length x) h) (put-here d at x l)
