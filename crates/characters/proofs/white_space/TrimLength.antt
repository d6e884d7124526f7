-- A text in UTF-8 gets no longer by trimming.
use Rattle.std.specs.Prelude.{Result, ℕ, Ok, Err}
use mathlib.Core.Path.{◌≡◌, refl, ap}
use mathlib.Core.Bool.{Bool, true, false}
use mathlib.Core.List.{List, [], ◌∷◌}
use Prim.Native.Nat.{ℕ, ◌≤◌}
use native.Mathlib.Omega.{arith}
use lib.ListN.{length, length-append}
use Rattle.lists.specs.Choose.{choose}
use Rattle.characters.specs.white_space.Trim.{trim_start, before, trim_end, trim, where_valid, trim_utf8}
use Rattle.characters.specs.utf8.Utf8.{checked, codes, encode, encodes}
use Rattle.characters.specs.white_space.White.{white}
use Rattle.characters.proofs.utf8.Inverse.{encodes-codes}

-- one code point more
encodes-next : (c : ℕ) (s : List ℕ) → length (encodes s) ≤ length (encodes (c ∷ s))
unfolding encodes
encodes-next c s = omega (arith, length-append (encode c) (encodes s))

start_shorter : (s : List ℕ) → length (encodes (trim_start s)) ≤ length (encodes s)
unfolding trim_start
start_shorter [] = omega arith
start_shorter (c ∷ s) = go (white c) (start_shorter s)
  where
    go : (t : Bool) → length (encodes (trim_start s)) ≤ length (encodes s) → length (encodes (choose t (trim_start s) (c ∷ s))) ≤ length (encodes (c ∷ s))
    go true h = omega (arith, encodes-next c s)
    go false h = omega arith

end_shorter : (s : List ℕ) → length (encodes (trim_end s)) ≤ length (encodes s)
unfolding trim_end encodes
end_shorter [] = omega arith
end_shorter (c ∷ s) = go (trim_end s) (end_shorter s)
  where
    last : (t : Bool) → length (encodes (choose t [] (c ∷ []))) ≤ length (encode c)
    last true = omega arith
    last false = omega (arith, length-append (encode c) [])

    go : (t : List ℕ) → length (encodes t) ≤ length (encodes s) → length (encodes (before c t)) ≤ length (encodes (c ∷ s))
    go [] h = omega (arith, last (white c), length-append (encode c) (encodes s))
    go (x ∷ t) h = omega (arith, length-append (encode c) (encodes (x ∷ t)), length-append (encode c) (encodes s))

pub trim-length : (s : List ℕ) → length (trim_utf8 s) ≤ length s
unfolding trim_utf8 trim
trim-length s = go (checked s) refl
  where
    go : (k : Result (Unit {0}) ℕ) → checked s ≡ k → length (where_valid k (encodes (trim (codes s))) s) ≤ length s
    go (Ok tt) e = omega (arith, end_shorter (trim_start (codes s)), start_shorter (codes s), ap length (encodes-codes s e))
    go (Err at) e = omega arith
