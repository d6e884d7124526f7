-- Parts of a list, from one place to another.
use mathlib.Core.Path.{◌≡◌, refl, sym, ap, ◌∙◌}
use mathlib.Core.List.{List, [], ◌∷◌, ◌++◌, append-nil}
use Prim.Native.Nat.{ℕ, zero, suc, ◌+◌, ◌-◌, ◌≤◌, ◌<◌}
use native.Mathlib.Nat.{zero-add, suc-add}
use native.Mathlib.Numerals.{add-one}
use native.Mathlib.Omega.{arith}
use lib.ListN.{length, get_or, take, drop, length-append, length-drop, take-append-drop}
use lib.Seq.{drop-cons, drop-drop, take-nil, take-take, take-add, take_at, drop_at, take-length, take-append_seam, drop-append_seam}

module _ {A : Type 0} where
  -- the list from a place within it on
  pub at_cons : (s : List A) (at : ℕ) (d : A) → at < length s → drop at s ≡ get_or s at d ∷ drop (at + 1) s
  at_cons s at d h = drop-cons s at d h ∙ rw (add-one at)

  -- from a place to the end
  pub part_end : (s : List A) (from : ℕ) → take (length s - from) (drop from s) ≡ drop from s
  part_end s from = rw (← length-drop from s) (take-length (drop from s))

  -- n elements more
  pub part_add : (s : List A) (from p n : ℕ) → from ≤ p → take (p + n - from) (drop from s) ≡ take (p - from) (drop from s) ++ take n (drop p s)
  part_add s from p n h =
      let m : p + n - from ≡ p - from + n = omega arith in
      let e : from + (p - from) ≡ p = omega arith in
      rw m (take-add (p - from) n (drop from s) ∙ rw (drop-drop (p - from) from s, e))

  drop-take : (f n : ℕ) (x : List A) → drop f (take (f + n) x) ≡ take n (drop f x)
  drop-take zero n x = rw zero-add
  drop-take (suc f) n [] = rw (suc-add, take-nil n)
  drop-take (suc f) n (y ∷ x) = rw suc-add (drop-take f n x)

  -- a part of a part
  pub part_part : (l : List A) (a n f t : ℕ) → f ≤ t → t ≤ n → take (a + t - (a + f)) (drop (a + f) l) ≡ take (t - f) (drop f (take n (drop a l)))
  part_part l a n f t h k =
      let e : a + t - (a + f) ≡ t - f = omega arith in
      let g : n ≡ f + (n - f) = omega arith in
      let q : drop f (take n (drop a l)) ≡ take (n - f) (drop (a + f) l) =
      ap (λ (m : ℕ). drop f (take m (drop a l))) g ∙ drop-take f (n - f) (drop a l) ∙ ap (take (n - f)) (drop-drop f a l) in
      rw (e, q) (sym (take-take (t - f) (n - f) (drop (a + f) l) (omega arith)))

  -- a list that from b on begins with u
  module _ (f : List A) (b : ℕ) (u r : List A) (e : drop b f ≡ u ++ r) where
    pub take_next : take (b + length u) f ≡ take b f ++ u
    take_next = take-add b (length u) f ∙ ap (λ (x : List A). take b f ++ x) (ap (take (length u)) e ∙ take_at u r (length u) refl)

    pub drop-next : drop (b + length u) f ≡ r
    drop-next = sym (drop-drop (length u) b f) ∙ ap (drop (length u)) e ∙ drop_at u r (length u) refl

    pub room_next : b ≤ length f → b + length u ≤ length f
    room_next h =
        let a = length-append u r in
        let l : length f - b ≡ length (u ++ r) = sym (length-drop b f) ∙ ap length e in
        omega arith

  pub take_done : (f : List A) (b : ℕ) → drop b f ≡ [] → take b f ≡ f
  take_done f b e = sym (append-nil (take b f)) ∙ ap (λ (x : List A). take b f ++ x) (sym e) ∙ take-append-drop b f

  -- two lists cut at the same place
  module _ (a b x y : List A) (l : length a ≡ length b) (e : a ++ x ≡ b ++ y) where
    pub cut_left : a ≡ b
    cut_left = sym (take-append_seam a x) ∙ ap (take (length a)) e ∙ take_at b y (length a) (sym l)

    pub cut_right : x ≡ y
    cut_right = sym (drop-append_seam a x) ∙ ap (drop (length a)) e ∙ drop_at b y (length a) (sym l)
