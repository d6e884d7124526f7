-- Where a sheet ends, one line of the text at a time.
use mathlib.Core.Path.{◌≡◌, refl, sym, ap, ◌∙◌}
use mathlib.Core.Bool.{true, false}
use mathlib.Core.List.{List, [], ◌∷◌}
use Prim.Native.Nat.{ℕ, ◌≤◌}
use native.Mathlib.Omega.{arith}
use lib.ListN.{length, drop}
use borrow.Author.Tests.{eq-eqb, ne_eqb}
use Rattle.model.specs.Box.{┘}
use Rattle.characters.specs.white_space.Lines.{lines, line, after, last_of, line_text, LineAt, HeadAt}
use Rattle.characters.specs.white_space.Trim.{trim}
use Rattle.characters.specs.utf8.Utf8.{codes}
use Rattle.characters.proofs.white_space.LineLaws.{lines_cons}
use Rattle.characters.proofs.utf8.Utf8Laws.{codes_end}
use Rattle.scan.specs.sheet_rows.Found.{rest_at}
use Rattle.scan.specs.sheet_rows.Rows.{begins, ends}
use Rattle.scan.specs.sheet_rows.Sheet.{lines_through, lines_taken, behind, rest_of}

-- the text behind the sheet whose first line is the text's first
abbrev sheet_rest : List ℕ → List ℕ
sheet_rest r = behind (lines_through (lines r)) r

-- one line more in front, by what it is
taken_off : (r : List ℕ) → begins (trim (line r)) ≡ false → rest_of r ≡ rest_of (after r)
unfolding behind lines_taken
taken_off [] e = unfold lines after in refl
taken_off (c ∷ r) e = rw (lines_cons c r, e)

taken_on : (r : List ℕ) → begins (trim (line r)) ≡ true → rest_of r ≡ sheet_rest r
unfolding behind lines_taken
taken_on [] e = unfold lines lines_through in refl
taken_on (c ∷ r) e = rw (lines_cons c r, e)

through_more : (r : List ℕ) → ends (trim (line r)) ≡ false → sheet_rest r ≡ sheet_rest (after r)
unfolding behind lines_through
through_more [] e = unfold lines after in refl
through_more (c ∷ r) e = rw (lines_cons c r, e)

through_last : (r : List ℕ) → ends (trim (line r)) ≡ true → sheet_rest r ≡ after r
unfolding behind lines_through
through_last [] e = unfold lines after in refl
through_last (c ∷ r) e = rw (lines_cons c r, e)

last_none : (t : List ℕ) → length t ≡ 0 → last_of t ≡ 0
unfolding last_of
last_none [] e = refl
last_none (c ∷ t) e = absurd (omega arith)

-- the head of a line: the search for the sheet passes the line, or finds it
pub rest-next : {s : List ℕ} {at first next : ℕ} → HeadAt s at first next → begins (line_text s at) ≡ false → rest_of (codes (drop at s)) ≡ rest_of (codes (drop next s))
rest-next {s} {at} l e = taken_off (codes (drop at s)) e ∙ ap rest_of (sym l.onward)

pub rest-found : (s : List ℕ) (at : ℕ) → begins (line_text s at) ≡ true → rest_of (codes (drop at s)) ≡ rest_at s at
rest-found s at e = taken_on (codes (drop at s)) e

-- the line at a place of the bytes, and the text behind the sheet from there on
module _ {s : List ℕ} {at from count last next : ℕ} (l : LineAt s at from count last next) where
  -- the line is in the sheet, or ends it
  pub rest_more : (last ≡ ┘ → ⊥) → rest_at s at ≡ rest_at s next
  rest_more n = through_more (codes (drop at s)) (ne_eqb _ ┘ (λ q. n (l.lasting ∙ q))) ∙ ap sheet_rest (sym l.onward)

  pub rest-last : last ≡ ┘ → rest_at s at ≡ codes (drop next s)
  rest-last e = through_last (codes (drop at s)) (eq-eqb _ ┘ (sym l.lasting ∙ e)) ∙ sym l.onward

  -- a blank line ends no sheet
  pub blank_not_last : count ≤ 0 → last ≡ ┘ → ⊥
  blank_not_last h e =
      let c = l.counted in
      let z = last_none (line_text s at) (omega arith) in
      let w : 0 ≡ ┘ = sym z ∙ sym l.lasting ∙ e in
      omega arith

-- at the end of the bytes
pub rest_end : (s : List ℕ) (p : ℕ) → length s ≤ p → rest_at s p ≡ codes (drop p s)
unfolding behind lines_through lines
rest_end s p h = rw (codes_end s p h)

pub rest-none : (s : List ℕ) (p : ℕ) → length s ≤ p → rest_of (codes (drop p s)) ≡ rest_at s p
unfolding behind lines_taken lines_through lines
rest-none s p h = rw (codes_end s p h)
