-- Texts as the judge reads them behind a line's kind: the count of bytes and the bytes, one blank between two numbers.
use Rattle.std.specs.Prelude.{List, [], ◌∷◌, ◌++◌, ◌≡◌, ℕ, zero, suc, ◌-◌, ◌≤◌, ◌<◌, eqb, leb, length, get_or, take, drop, Option, None, Some}
use Rattle.lists.specs.Choose.{choose}
use Rattle.plane.specs.numerals.RuleNumbers.{number_of}
use Rattle.print.specs.Lines.{blank}

-- s up to the first m
unfoldable pub before : ℕ → List ℕ → List ℕ
before m [] = []
before m (c ∷ s) = choose (eqb c m) [] (c ∷ before m s)

-- the first m from `at` on stands at r, or s ends there
pub record FirstAt (s : List ℕ) (at m r : ℕ) : Type 0 where
  pub low : at ≤ r
  pub high : r ≤ length s
  pub same : take (r - at) (drop at s) ≡ before m (drop at s)
  pub ends : r < length s → get_or s r 0 ≡ m

-- a number below a bound
abbrev pub at_most : ℕ → Option ℕ → Option ℕ
at_most most None = None
at_most most (Some n) = choose (leb n most) (Some n) None

abbrev pub on_number : Option ℕ → (ℕ → Option (List ℕ)) → Option (List ℕ)
on_number None k = None
on_number (Some n) k = k n

-- x in front of a text
abbrev pub onto : List ℕ → Option (List ℕ) → Option (List ℕ)
onto x None = None
onto x (Some y) = Some (x ++ y)

-- nothing may be left
abbrev pub nothing_in : List ℕ → Option (List ℕ)
nothing_in [] = Some []
nothing_in (c ∷ s) = None

-- n bytes, each a number behind a blank, and nothing more
unfoldable pub bytes_in : ℕ → List ℕ → Option (List ℕ)
bytes_in zero s = nothing_in s
bytes_in (suc n) [] = None
bytes_in (suc n) (c ∷ s) =
    on_number (at_most 255 (number_of (before blank s)))
    (λ b. onto (b ∷ []) (bytes_in n (drop (length (before blank s)) s)))

-- the text that a line holds behind its kind: at most `most` bytes
unfoldable pub text_of : ℕ → List ℕ → Option (List ℕ)
text_of most s =
    on_number (at_most most (number_of (before blank s)))
    (λ n. bytes_in n (drop (length (before blank s)) s))

-- the text that is read, if one is
abbrev pub read_as : Option (Unit {0}) → List ℕ → Option (List ℕ)
read_as None x = None
read_as (Some tt) x = Some x
