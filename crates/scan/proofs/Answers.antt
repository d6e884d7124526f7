-- The answers of `scan`, from where the sheet starts and what it measures, and what they tell a caller.
use Rattle.std.specs.Prelude.{Ok, Err}
use mathlib.Core.Path.{◌≡◌, sym, ap, ◌∙◌}
use mathlib.Core.Bool.{true, false, and-false}
use mathlib.Core.List.{List, map}
use Prim.Native.Nat.{ℕ, ◌*◌, ◌≤◌, ◌<◌}
use native.Mathlib.Nat.{mul-le-mul}
use native.Mathlib.Omega.{arith}
use lib.Dec.{leb}
use lib.ListN.{length}
use borrow.Author.Tests.{leb-true, le-leb, lt-leb}
use Rattle.lists.specs.Put.{put}
use Rattle.lists.proofs.AnswerLaws.{refused-ok}
use Rattle.lists.proofs.Tests.{by_flag, both}
use Rattle.model.specs.Limits.{canvas_rows, canvas_columns, canvas_size}
use Rattle.model.specs.Refusals.{Reading}
use Rattle.model.specs.declared.Refusal.TheVariants.{CanvasTooLarge}
use Rattle.characters.specs.utf8.Utf8.{SameCheck}
use Rattle.scan.specs.sheet_rows.Found.{StartAt, Measured, rows_in, Counted, Kept}
use Rattle.scan.specs.declared.sheet_rows.Extent.{Extent}
use Rattle.scan.specs.declared.sheet_rows.Row.{Row}
use Rattle.scan.specs.sheet_rows.Rows.{rows_at, widest}
use Rattle.scan.specs.Canvas.{Size, fits, size_of, text_in, blanks_in, scanned_in, Ended, ValidIn}
use Rattle.scan.specs.Rows.{blank, flat}

-- an answered canvas has the size of the rows, and they fit
pub scanned_size : (rs : List (List ℕ)) (c : Extent) → scanned_in (Ok c) ≡ size_of rs → (fits rs ≡ true) × (c.rows ≡ length rs) × (c.columns ≡ widest rs)
unfolding size_of
scanned_size rs c q =
    by_flag (fits rs)
    (λ f.
    let k = rw f at q in
    let z : ◌≡◌ {A = Size} (record { height = c.rows; width = c.columns }) (record { height = length rs; width = widest rs }) = cc in
    (f, ap (λ (x : Size). x.height) z, ap (λ (x : Size). x.width) z))
    (λ f. refused-ok (sym (rw f at q)))

pub fits-size : (rs : List (List ℕ)) → fits rs ≡ true → (widest rs ≤ canvas_columns) × (length rs ≤ canvas_rows) × (length rs * widest rs ≤ canvas_size)
fits-size rs f =
    let b = both (leb (length rs) canvas_rows) (leb (widest rs) canvas_columns) f in
    let h = leb-true (length rs) canvas_rows b.0 in
    let w = leb-true (widest rs) canvas_columns b.1 in
    (w, h, mul-le-mul h w)

-- what `scan` promises of the answer r, where TEXT was d and is o, and BODY was b and is p
abbrev Answered : List ℕ → ℕ → List ℕ → List ℕ → Reading Extent → List ℕ → List ℕ → Type 0
Answered s from d b r o p =
    (scanned_in r ≡ size_of (rows_at s from)) × (Ended r s from × (ValidIn r s from × ((o ≡ text_in (rows_at s from) d) × (p ≡ blanks_in (rows_at s from) b))))

module _ {s : List ℕ} {from at rows columns end : ℕ} (i : StartAt s from at) (m : Measured s at rows columns end) where
  height : rows ≡ length (rows_at s from)
  height = m.height ∙ ap length (sym i.same)

  width : columns ≡ widest (rows_at s from)
  width = m.width ∙ ap widest (sym i.same)

  module _ (d b : List ℕ) where
    large : fits (rows_at s from) ≡ false → Answered s from d b (Err (CanvasTooLarge rows columns)) d b
    unfolding size_of text_in blanks_in
    large f = (rw (f, ← height, ← width), (tt, (tt, (rw f, rw f))))

    pub scan_rows : canvas_rows < rows → Answered s from d b (Err (CanvasTooLarge rows columns)) d b
    scan_rows h = large (rw (← height, lt-leb rows canvas_rows h))

    pub scan_columns : canvas_columns < columns → Answered s from d b (Err (CanvasTooLarge rows columns)) d b
    scan_columns h = large (rw (← width, lt-leb columns canvas_columns h) (and-false (leb (length (rows_at s from)) canvas_rows)))

    module _ (h : rows ≤ canvas_rows) (k : columns ≤ canvas_columns) {kept : List Row} (q : Kept s at kept rows) where
      pub scan_room : canvas_size ≤ length d → canvas_size ≤ length b
          → Counted s kept rows × (widest (rows_in s kept rows) ≤ columns) × (rows * columns ≤ length d) × (rows * columns ≤ length b)
      scan_room n o =
          let r : rows * columns ≤ canvas_size = mul-le-mul h k in
          (q.counted, omega (arith, m.width, ap widest q.same), omega arith, omega arith)

      fitting : fits (rows_at s from) ≡ true
      fitting = rw (← height, ← width, le-leb rows canvas_rows h, le-leb columns canvas_columns k)

      pub scan_canvas : (valid : ℕ) {o p : List ℕ} → SameCheck s from valid → (o ≡ put d 0 (flat columns (rows_in s kept rows))) × (p ≡ put b 0 (flat columns (map blank (rows_in s kept rows))))
          → Answered s from d b (Ok (record { rows = rows; columns = columns; end = record { at = end; valid = valid } })) o p
      unfolding size_of text_in blanks_in
      scan_canvas valid v w =
          let e : rows_in s kept rows ≡ rows_at s from = q.same ∙ sym i.same in (
            rw (fitting, ← height, ← width),
            (
              (m.inside, m.rest ∙ sym i.rest),
              (v, (w.0 ∙ rw (fitting, ← width, e), w.1 ∙ rw (fitting, ← width, e))),
            ),
          )
