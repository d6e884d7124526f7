-- The rows of a sheet, one line of the text at a time.
use mathlib.Core.Path.{◌≡◌, refl, sym, ap, ◌∙◌}
use mathlib.Core.Bool.{true, false}
use mathlib.Core.List.{List, [], ◌∷◌}
use Prim.Native.Nat.{ℕ, ◌≤◌, ◌<◌}
use native.Mathlib.Omega.{arith}
use lib.ListN.{length, drop}
use borrow.Author.Tests.{eq-eqb, ne_eqb}
use Rattle.lists.proofs.Tests.{true_false}
use Rattle.model.specs.Box.{┘}
use Rattle.characters.specs.white_space.Lines.{lines, texts, kept, last_of, line_text, codes_at, LineAt, HeadAt}
use Rattle.characters.specs.utf8.Utf8.{codes}
use Rattle.characters.proofs.white_space.LineLaws.{texts-split}
use Rattle.characters.proofs.utf8.Utf8Laws.{codes_end}
use Rattle.scan.specs.sheet_rows.Found.{texts_at}
use Rattle.scan.specs.sheet_rows.Rows.{begins, up_to, collect}

-- one text more in front, by what it is
collect_off : (t : List ℕ) (ts : List (List ℕ)) → begins t ≡ false → collect (kept t ts) ≡ collect ts
unfolding collect
collect_off [] ts e = refl
collect_off (c ∷ t) ts e = rw e

collect_on : (t : List ℕ) (ts : List (List ℕ)) → begins t ≡ true → collect (kept t ts) ≡ up_to (kept t ts)
unfolding collect
collect_on [] ts e = true_false e refl
collect_on (c ∷ t) ts e = rw e

up_to-none : (t : List ℕ) (ts : List (List ℕ)) → length t ≡ 0 → up_to (kept t ts) ≡ up_to ts
up_to-none [] ts e = refl
up_to-none (c ∷ t) ts e = absurd (omega arith)

up_to-last : (t : List ℕ) (ts : List (List ℕ)) → 0 < length t → last_of t ≡ ┘ → up_to (kept t ts) ≡ t ∷ []
unfolding up_to
up_to-last [] ts h e = absurd (omega arith)
up_to-last (c ∷ t) ts h e = rw (eq-eqb (last_of (c ∷ t)) ┘ e)

up_to-more : (t : List ℕ) (ts : List (List ℕ)) → 0 < length t → (last_of t ≡ ┘ → ⊥) → up_to (kept t ts) ≡ t ∷ up_to ts
unfolding up_to
up_to-more [] ts h e = absurd (omega arith)
up_to-more (c ∷ t) ts h e = rw (ne_eqb (last_of (c ∷ t)) ┘ e)

-- the head of a line: the search for the first row passes the line, or finds it
module _ {s : List ℕ} {at first next : ℕ} (l : HeadAt s at first next) where
  headed : texts_at s at ≡ kept (line_text s at) (texts_at s next)
  headed = texts-split (codes (drop at s)) ∙ rw l.onward

  pub collect-next : begins (line_text s at) ≡ false → collect (texts_at s at) ≡ collect (texts_at s next)
  collect-next e = ap collect headed ∙ collect_off (line_text s at) (texts_at s next) e

  pub collect-found : begins (line_text s at) ≡ true → collect (texts_at s at) ≡ up_to (texts_at s at)
  collect-found e = ap collect headed ∙ collect_on (line_text s at) (texts_at s next) e ∙ ap up_to (sym headed)

-- the line at a place of the bytes, and the rows from there on
module _ {s : List ℕ} {at from count last next : ℕ} (l : LineAt s at from count last next) where
  split : texts_at s at ≡ kept (codes_at s from count) (texts_at s next)
  split = texts-split (codes (drop at s)) ∙ rw (l.text, l.onward)

  pub line-counted : count ≡ length (codes_at s from count)
  line-counted = l.counted ∙ ap length (sym l.text)

  line-lasting : last ≡ last_of (codes_at s from count)
  line-lasting = l.lasting ∙ ap last_of (sym l.text)

  -- the line is blank, the last row, or another
  pub rows_none : count ≤ 0 → up_to (texts_at s at) ≡ up_to (texts_at s next)
  rows_none h = let e = line-counted in ap up_to split ∙ up_to-none (codes_at s from count) (texts_at s next) (omega arith)

  pub rows_last : 0 < count → last ≡ ┘ → up_to (texts_at s at) ≡ codes_at s from count ∷ []
  rows_last h p = let e = line-counted in ap up_to split ∙ up_to-last (codes_at s from count) (texts_at s next) (omega arith) (sym line-lasting ∙ p)

  pub rows_more : 0 < count → (last ≡ ┘ → ⊥) → up_to (texts_at s at) ≡ codes_at s from count ∷ up_to (texts_at s next)
  rows_more h p = let e = line-counted in ap up_to split ∙ up_to-more (codes_at s from count) (texts_at s next) (omega arith) (λ q. p (line-lasting ∙ q))

-- at the end of the bytes
texts_end : (s : List ℕ) (p : ℕ) → length s ≤ p → texts_at s p ≡ []
unfolding texts lines
texts_end s p h = rw (codes_end s p h)

pub rows_end : (s : List ℕ) (p : ℕ) → length s ≤ p → up_to (texts_at s p) ≡ []
unfolding up_to
rows_end s p h = rw (texts_end s p h)

pub collect_end : (s : List ℕ) (p : ℕ) → length s ≤ p → collect (texts_at s p) ≡ up_to (texts_at s p)
unfolding collect up_to
collect_end s p h = rw (texts_end s p h)
