-- The test of the limits: its ways, and what it tells.
use mathlib.Core.Path.{◌≡◌, sym, ◌∙◌}
use mathlib.Core.Bool.{Bool, true, false, ◌&&◌, and-true, and-false}
use mathlib.Core.List.{List}
use Prim.Native.Nat.{ℕ, ◌≤◌, ◌<◌}
use borrow.Author.Tests.{le-leb, lt-leb, leb-true}
use lib.Dec.{leb}
use lib.ListN.{length, get_or}
use Rattle.lists.proofs.Tests.{both}
use Rattle.model.specs.Limits.{plane_rows, plane_cells, region_count, text_bytes}
use Rattle.plane.specs.lent.LentPlane.{all_at, within_limits}
use Rattle.plane.proofs.lent.AllAtLaws.{all-at}

abbrev pub short : List ℕ → ℕ → Bool
short rows i = leb (get_or rows i 0) plane_cells

module _ (rows offsets bytes : List ℕ) where
  abbrev rows_fit_lem : Bool
  rows_fit_lem = leb (length rows) plane_rows && all_at (short rows) (length rows)

  abbrev texts_fit_lem : Bool
  texts_fit_lem = leb (length offsets) region_count && leb (length bytes) text_bytes

  pub rows_many : plane_rows < length rows → false ≡ within_limits rows offsets bytes
  rows_many h = rw (lt-leb (length rows) plane_rows h)

  pub regions_many : region_count < length offsets → false ≡ within_limits rows offsets bytes
  regions_many h = rw (lt-leb (length offsets) region_count h) (sym (and-false rows_fit_lem))

  pub bytes_many : length offsets ≤ region_count → text_bytes < length bytes → false ≡ within_limits rows offsets bytes
  bytes_many k h = rw (le-leb (length offsets) region_count k, lt-leb (length bytes) text_bytes h) (sym (and-false rows_fit_lem))

  pub rows_decide : length rows ≤ plane_rows → length offsets ≤ region_count → length bytes ≤ text_bytes
      → (r : Bool) → r ≡ all_at (short rows) (length rows) → r ≡ within_limits rows offsets bytes
  rows_decide h k l r e =
      rw (le-leb (length rows) plane_rows h, le-leb (length offsets) region_count k, le-leb (length bytes) text_bytes l) (e ∙ sym (and-true (all_at (short rows) (length rows))))

  module _ (e : within_limits rows offsets bytes ≡ true) where
    of_rows : (leb (length rows) plane_rows ≡ true) × (all_at (short rows) (length rows) ≡ true)
    of_rows = both (leb (length rows) plane_rows) (all_at (short rows) (length rows)) (both rows_fit_lem texts_fit_lem e).0

    of_texts : (leb (length offsets) region_count ≡ true) × (leb (length bytes) text_bytes ≡ true)
    of_texts = both (leb (length offsets) region_count) (leb (length bytes) text_bytes) (both rows_fit_lem texts_fit_lem e).1

    pub few-rows : length rows ≤ plane_rows
    few-rows = leb-true (length rows) plane_rows of_rows.0

    pub short_row : (i : ℕ) → i < length rows → get_or rows i 0 ≤ plane_cells
    short_row i h = leb-true (get_or rows i 0) plane_cells (all-at (short rows) (length rows) i of_rows.1 h)

    pub few-regions : length offsets ≤ region_count
    few-regions = leb-true (length offsets) region_count of_texts.0

    pub few_bytes : length bytes ≤ text_bytes
    few_bytes = leb-true (length bytes) text_bytes of_texts.1
