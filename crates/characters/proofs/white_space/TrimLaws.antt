-- Laws of trimming code points, at a place of a list.
use mathlib.Core.Path.{◌≡◌, refl, ap, ◌∙◌}
use mathlib.Core.Bool.{Bool, true, false}
use mathlib.Core.List.{List, [], ◌∷◌, ◌++◌}
use Prim.Native.Nat.{ℕ, suc, ◌+◌, ◌-◌, ◌≤◌, ◌<◌}
use native.Mathlib.Omega.{arith}
use lib.ListN.{length, get_or, take, drop, drop_of_length-le, length-drop}
use lib.Seq.{take-suc, get_or-drop}
use Rattle.characters.specs.white_space.White.{white}
use Rattle.characters.specs.white_space.Trim.{trim_start, trim_end, before}
use Rattle.characters.specs.white_space.Lines.{first_of}
use Rattle.lists.specs.Choose.{choose}
use Rattle.lists.proofs.Parts.{at_cons}

module _ (s : List ℕ) (i : ℕ) (h : i < length s) where
  pub start-white : white (get_or s i 0) ≡ true → trim_start (drop i s) ≡ trim_start (drop (i + 1) s)
  unfolding trim_start
  start-white e = rw (at_cons s i 0 h, e)

  pub start_dark : white (get_or s i 0) ≡ false → trim_start (drop i s) ≡ drop i s
  unfolding trim_start
  start_dark e = rw (at_cons s i 0 h, e)

pub start_none : (s : List ℕ) (i : ℕ) → length s ≤ i → trim_start (drop i s) ≡ drop i s
unfolding trim_start
start_none s i h = rw (drop_of_length-le s h)

before_snoc : (x : ℕ) (xs : List ℕ) (c : ℕ) → before x (xs ++ (c ∷ [])) ≡ x ∷ (xs ++ (c ∷ []))
before_snoc x [] c = refl
before_snoc x (y ∷ ys) c = refl

-- one code point more at the end
pub end_snoc : (xs : List ℕ) (c : ℕ) → trim_end (xs ++ (c ∷ [])) ≡ choose (white c) (trim_end xs) (xs ++ (c ∷ []))
unfolding trim_end
end_snoc [] c = refl
end_snoc (x ∷ xs) c = ap (before x) (end_snoc xs c) ∙ go (white c)
  where
    go : (t : Bool) → before x (choose t (trim_end xs) (xs ++ (c ∷ []))) ≡ choose t (before x (trim_end xs)) (x ∷ (xs ++ (c ∷ [])))
    go true = refl
    go false = before_snoc x xs c

-- what a text begins with stays when its end is trimmed too
first-before : (c : ℕ) (t : List ℕ) → white c ≡ false → first_of (before c t) ≡ c
first-before c [] w = rw w
first-before c (x ∷ t) w = refl

pub first_end : (t : List ℕ) → first_of (trim_end (trim_start t)) ≡ first_of (trim_start t)
unfolding trim_start trim_end
first_end [] = refl
first_end (c ∷ t) = go (white c) refl (first_end t)
  where
    go : (w : Bool) → white c ≡ w → first_of (trim_end (trim_start t)) ≡ first_of (trim_start t)
        → first_of (trim_end (choose w (trim_start t) (c ∷ t))) ≡ first_of (choose w (trim_start t) (c ∷ t))
    go true e h = h
    go false e h = first-before c (trim_end t) e

module _ (s : List ℕ) (from to : ℕ) (h : from < to) (k : to ≤ length s) where
  -- the part up to `to` is the part up to the last code point, and that
  last : take (to - from) (drop from s) ≡ take (to - 1 - from) (drop from s) ++ (get_or s (to - 1) 0 ∷ [])
  last =
      let n = to - 1 - from in
      let l = length-drop from s in
      let e : to - from ≡ suc n = omega arith in
      let f : from + n ≡ to - 1 = omega arith in
      let b : n < length (drop from s) = omega arith in
      rw e (take-suc (drop from s) n 0 b ∙ rw (get_or-drop from s n 0, f))

  pub end_white : white (get_or s (to - 1) 0) ≡ true → trim_end (take (to - from) (drop from s)) ≡ trim_end (take (to - 1 - from) (drop from s))
  end_white e = rw (last, end_snoc, e)

  pub end_dark : white (get_or s (to - 1) 0) ≡ false → trim_end (take (to - from) (drop from s)) ≡ take (to - from) (drop from s)
  end_dark e = rw (last, end_snoc, e)

pub end_none : (s : List ℕ) (from to : ℕ) → to ≤ from → trim_end (take (to - from) (drop from s)) ≡ take (to - from) (drop from s)
unfolding trim_end
end_none s from to h = let e : to - from ≡ 0 = omega arith in rw e
