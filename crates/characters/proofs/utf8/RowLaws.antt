-- Laws of the rows of table 3-7, each told by its place, from 0 on.
use mathlib.Core.Path.{◌≡◌, refl, ap, subst, ◌∙◌}
use mathlib.Core.Bool.{true, false, and-false}
use mathlib.Core.List.{List, [], ◌∷◌}
use Prim.Native.Nat.{ℕ, zero, suc, ◌+◌, ◌-◌, ◌≤◌, ◌<◌}
use native.Mathlib.Nat.{sub-zero}
use native.Mathlib.Omega.{arith}
use lib.ListN.{drop}
use lib.Dec.{leb}
use borrow.Author.Tests.{le-leb, lt-leb}
use Rattle.characters.specs.declared.utf8.Decoded.TheVariants.{Char, IllFormed}
use Rattle.characters.specs.utf8.Utf8.{Range, ◌–◌, in_range, more, Row, table, by}

-- the ends of a range
abbrev pub lowest : Range → ℕ
lowest (lo – hi) = lo

abbrev pub highest : Range → ℕ
highest (lo – hi) = hi

-- a number is in a range
abbrev pub Within : Range → ℕ → Type 0
Within r b = (lowest r ≤ b) × (b ≤ highest r)

pub inside : (r : Range) (b : ℕ) → Within r b → in_range r b ≡ true
inside (lo – hi) b w = rw (le-leb lo b w.0, le-leb b hi w.1)

pub below : (r : Range) (b : ℕ) → b < lowest r → in_range r b ≡ false
below (lo – hi) b p = rw (lt-leb lo b p)

pub above : (r : Range) (b : ℕ) → highest r < b → in_range r b ≡ false
above (lo – hi) b p = rw (lt-leb b hi p) (and-false (leb lo b))

-- rows one above another, none below a bound
abbrev pub Ascending : ℕ → List Row → Type 0
Ascending bound [] = Unit {0}
Ascending bound (r ∷ rs) = (bound ≤ lowest r.first) × (lowest r.first ≤ highest r.first) × Ascending (highest r.first + 1) rs

ascending : Ascending 0 table
ascending = omega arith

module _ (a : ℕ) (s : List ℕ) where
  -- no row has a byte that is below all
  by_above : (bound : ℕ) (rows : List Row) → Ascending bound rows → a < bound → by rows a s ≡ IllFormed
  unfolding by
  by_above bound [] h p = refl
  by_above bound (r ∷ rs) h p = rw (below r.first a (omega arith)) (by_above (highest r.first + 1) rs h.2 (omega arith))

  -- a byte that is not below the row at place k is in none before it
  by_from : {r : Row} {rs : List Row} (k bound : ℕ) (rows : List Row) → drop k rows ≡ r ∷ rs → Ascending bound rows
      → Ascending bound (r ∷ rs) × (lowest r.first ≤ a → by rows a s ≡ by (r ∷ rs) a s)
  unfolding by
  by_from zero bound rows e h = (subst (Ascending bound) e h, λ p. ap (λ (l : List Row). by l a s) e)
  by_from (suc k) bound [] e h = absurd cc
  by_from (suc k) bound (q ∷ qs) e h =
      let f = by_from k (highest q.first + 1) qs e h.2 in
      ((omega arith, f.0.1, f.0.2), λ p. rw (above q.first a (omega arith)) (f.1 p))

-- by the row at place k of the table
module _ (k : ℕ) {r : Row} {rs : List Row} (e : drop k table ≡ r ∷ rs) (a : ℕ) (s : List ℕ) where
  pub by_row : Within r.first a → by table a s ≡ more r.rest (a - r.mark) 1 s
  unfolding by
  by_row w = (by_from a s k 0 table e ascending).1 w.0 ∙ rw (inside r.first a w)

  -- above that row, below those behind it
  pub by_gap : highest r.first < a → Ascending (a + 1) rs → by table a s ≡ IllFormed
  unfolding by
  by_gap p h =
      let f = by_from a s k 0 table e ascending in
      f.1 (omega arith) ∙ rw (above r.first a p) (by_above a s (a + 1) rs h (omega arith))

pub by_ascii : (a : ℕ) (s : List ℕ) → a ≤ 0x7F → by table a s ≡ Char a 1
unfolding more
by_ascii a s p = by_row 0 refl a s (omega arith, p) ∙ rw sub-zero
