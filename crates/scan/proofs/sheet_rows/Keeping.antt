-- The rows of a sheet that are being kept: a place and a count each.
use mathlib.Core.Path.{◌≡◌, refl, sym, ap, ◌∙◌}
use mathlib.Core.List.{List, [], ◌∷◌, ◌++◌, append-nil, append_assoc}
use Prim.Native.Nat.{ℕ, ◌+◌, ◌≤◌, ◌<◌}
use native.Mathlib.Omega.{arith}
use lib.ListN.{length, get_or, length-append, get_or-append}
use lib.Seq.{get_or-append_seam}
use borrow.Author.Count.{below_more}
use Rattle.lists.specs.Run.{run}
use Rattle.lists.proofs.RunLaws.{build-same, build-next}
use Rattle.model.specs.Box.{┘}
use Rattle.model.specs.Limits.{canvas_rows}
use Rattle.characters.specs.white_space.Lines.{codes_at, LineAt}
use Rattle.scan.specs.sheet_rows.Found.{texts_at, no_row, row_in, rows_in, Counted, Kept}
use Rattle.scan.specs.declared.sheet_rows.Row.{Row}
use Rattle.scan.specs.sheet_rows.Rows.{up_to}
use Rattle.scan.proofs.sheet_rows.RowsLaws.{line-counted, rows_none, rows_last, rows_more, rows_end}

-- o is the n rows of d, and one more
module _ (s : List ℕ) (d o : List Row) (n : ℕ) (row : Row) (long : length d ≡ n) (same : o ≡ d ++ (row ∷ [])) where
  other : (k : ℕ) → k < n → get_or o k no_row ≡ get_or d k no_row
  other k h = ap (λ (l : List Row). get_or l k no_row) same ∙ get_or-append d (row ∷ []) no_row k (omega (arith, long))

  kept_row : get_or o n no_row ≡ row
  kept_row = ap (λ (l : List Row). get_or l n no_row) same ∙ rw (← long) (get_or-append_seam d row [] no_row)

  old_row : (r : ℕ) → r < n → row_in s o r ≡ row_in s d r
  old_row r h = rw (other r h)

  new_row : row_in s o n ≡ codes_at s row.from row.count
  new_row = rw kept_row

  rows_next : rows_in s o (n + 1) ≡ rows_in s d n ++ (codes_at s row.from row.count ∷ [])
  rows_next = build-next n (row_in s o) ∙ rw (build-same n (row_in s o) (row_in s d) old_row, new_row)

  counted_next : Counted s d n → row.count ≡ length (codes_at s row.from row.count) → Counted s o (n + 1)
  counted_next f e =
      below_more (λ r. (get_or o r no_row).count ≡ length (row_in s o r)) n
      (λ r h. ap (λ (x : Row). x.count) (other r h) ∙ f r h ∙ ap length (sym (old_row r h)))
      (ap (λ (x : Row). x.count) kept_row ∙ e ∙ ap length (sym new_row))

-- the n rows from `at` up to p are kept in o, if a canvas can have them
pub record Keeping (s : List ℕ) (at p n : ℕ) (o : List Row) : Type 0 where
  pub long : n ≤ canvas_rows → length o ≡ n
  pub same : n ≤ canvas_rows → rows_in s o n ++ up_to (texts_at s p) ≡ up_to (texts_at s at)
  pub counted : n ≤ canvas_rows → Counted s o n

pub keeping_start : (s : List ℕ) (at : ℕ) → Keeping s at at 0 []
unfolding run
keeping_start s at = record { long = λ k. refl; same = λ k. refl; counted = λ k r h. absurd (omega arith) }

module _ {s : List ℕ} {at p n : ℕ} {o : List Row} (i : Keeping s at p n o) where
  -- the rows that are kept, and the others by what they are
  kept_then : {rs : List (List ℕ)} → up_to (texts_at s p) ≡ rs → n ≤ canvas_rows → rows_in s o n ++ rs ≡ up_to (texts_at s at)
  kept_then e k = ap (λ (x : List (List ℕ)). rows_in s o n ++ x) (sym e) ∙ i.same k

  pub keeping_end : length s ≤ p → n ≤ canvas_rows → Kept s at o n
  keeping_end h k = record { same = sym (append-nil (rows_in s o n)) ∙ kept_then (rows_end s p h) k; counted = i.counted k }

  module _ {from count last next : ℕ} (l : LineAt s p from count last next) where
    pub keeping_none : count ≤ 0 → Keeping s at next n o
    keeping_none z = record { long = i.long; same = kept_then (rows_none l z); counted = i.counted }

    module _ (z : 0 < count) {o' : List Row} (wrote : length o < canvas_rows → o' ≡ o ++ (record { from = from; count = count } ∷ [])) where
      abbrev row : Row
      row = record { from = from; count = count }

      -- the row has room
      one_kept : n + 1 ≤ canvas_rows → o' ≡ o ++ (row ∷ [])
      one_kept k = wrote (omega (arith, i.long (omega arith)))

      one_row : n + 1 ≤ canvas_rows → rows_in s o' (n + 1) ≡ rows_in s o n ++ (codes_at s from count ∷ [])
      one_row k = rows_next s o o' n row (i.long (omega arith)) (one_kept k)

      all-counted : n + 1 ≤ canvas_rows → Counted s o' (n + 1)
      all-counted k = counted_next s o o' n row (i.long (omega arith)) (one_kept k) (i.counted (omega arith)) (line-counted l)

      pub keeping_long : n + 1 ≤ canvas_rows → length o' ≡ n + 1
      keeping_long k = omega (arith, ap length (one_kept k), length-append o (row ∷ []), i.long (omega arith))

      pub keeping_more : (last ≡ ┘ → ⊥) → Keeping s at next (n + 1) o'
      keeping_more q =
          record {
            long = keeping_long;
            same =
                λ k. ap (λ (x : List (List ℕ)). x ++ up_to (texts_at s next)) (one_row k)
                ∙ append_assoc (rows_in s o n) (codes_at s from count ∷ []) (up_to (texts_at s next))
                ∙ kept_then (rows_more l z q) (omega arith);
            counted = all-counted;
          }

      pub keeping_last : last ≡ ┘ → n + 1 ≤ canvas_rows → Kept s at o' (n + 1)
      keeping_last q k = record { same = one_row k ∙ kept_then (rows_last l z q) (omega arith); counted = all-counted k }
