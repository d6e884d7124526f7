-- Text without the white space at its ends.
use Rattle.std.specs.Prelude.{List, [], ◌∷◌, ◌≡◌, ℕ, ◌+◌, ◌-◌, ◌≤◌, length, take, drop, Result, Ok, Err}
use Rattle.lists.specs.Choose.{choose}
use Rattle.characters.specs.utf8.Utf8.{checked, codes, encodes}
use Rattle.characters.specs.white_space.White.{white}

unfoldable pub trim_start : List ℕ → List ℕ
trim_start [] = []
trim_start (c ∷ s) = choose (white c) (trim_start s) (c ∷ s)

-- c and what is left of the text behind it: white space goes where nothing is left
abbrev pub before : ℕ → List ℕ → List ℕ
before c [] = choose (white c) [] (c ∷ [])
before c (x ∷ t) = c ∷ x ∷ t

unfoldable pub trim_end : List ℕ → List ℕ
trim_end [] = []
trim_end (c ∷ s) = before c (trim_end s)

-- code points without the white space at the ends
unfoldable pub trim : List ℕ → List ℕ
trim s = trim_end (trim_start s)

-- the bytes s, or x where they are well-formed
abbrev pub where_valid : Result (Unit {0}) ℕ → List ℕ → List ℕ → List ℕ
where_valid (Ok tt) x s = x
where_valid (Err at) x s = s

-- a text in UTF-8 without the white space in front, and at both ends: its code points trimmed. What is ill-formed stays as it is
unfoldable pub trim_start_utf8 : List ℕ → List ℕ
trim_start_utf8 s = where_valid (checked s) (encodes (trim_start (codes s))) s

unfoldable pub trim_utf8 : List ℕ → List ℕ
trim_utf8 s = where_valid (checked s) (encodes (trim (codes s))) s

-- the part of s from a up to e, which without white space in front is f, and trimmed is t, which stands at `from` up to `to`
pub record PartIn (s : List ℕ) (a e : ℕ) (f t : List ℕ) (from to : ℕ) : Type 0 where
  pub low : a ≤ from
  pub ordered : from ≤ to
  pub high : to ≤ e
  pub start : from + length f ≡ e
  pub text : take (to - from) (drop from s) ≡ t
