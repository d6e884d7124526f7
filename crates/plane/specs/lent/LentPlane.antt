-- A lent plane: its slices (document 01, "Regions and plane"), and number 26.
use Rattle.std.specs.Prelude.{Bool, true, false, not, ◌&&◌, List, [], ◌∷◌, ℕ, ◌+◌, eqb, leb, ltb, length, get_or, take, drop, Ok, Err}
use Rattle.lists.specs.Choose.{choose}
use Rattle.lists.specs.OneOf.{any_at}
use Rattle.lists.specs.Run.{build}
use Rattle.model.specs.Cells.{cell_of_kind}
use Rattle.model.specs.Limits.{plane_rows, plane_cells, region_count, text_bytes}
use Rattle.model.specs.Refusals.{Reading}
use Rattle.model.specs.declared.Cell.{Cell}
use Rattle.model.specs.declared.Refusal.TheVariants.{LentPlaneMalformed}
use Rattle.characters.specs.white_space.Trim.{trim_utf8}
use Rattle.characters.specs.utf8.Utf8.{checked, on_text}
use Rattle.cells.specs.Plane.{Plane, TextPlane}

-- the lengths of the rows; the cells' kinds and region numbers, one row behind the other; the regions' texts as parts of some bytes
pub record LentPlane : Type 0 where
  pub rows : List ℕ
  pub kinds : List ℕ
  pub regions : List ℕ
  pub offsets : List ℕ
  pub sizes : List ℕ
  pub bytes : List ℕ

unfoldable pub sum : List ℕ → ℕ
sum [] = 0
sum (n ∷ s) = n + sum s

-- f fails at none of 0, 1, .., n - 1
abbrev pub all_at : (ℕ → Bool) → ℕ → Bool
all_at f n = not (any_at (λ k. not (f k)) n)

-- a kind from 0 to 7, and with kind 0 the number of one of `count` regions
abbrev pub known_cell : ℕ → ℕ → ℕ → Bool
known_cell count kind region = choose (eqb kind 0) (ltb region count) (ltb kind 8)

-- a part lies within the bytes and is UTF-8
abbrev pub good_part : List ℕ → ℕ → ℕ → Bool
good_part bytes offset size = choose (leb (offset + size) (length bytes)) (on_text (checked (take size (drop offset bytes))) (λ at. false) true) false

-- cells one behind the other cut into rows
unfoldable pub cut : List ℕ → List Cell → Plane
cut [] cells = []
cut (n ∷ rows) cells = take n cells ∷ cut rows (drop n cells)

-- at most 64 rows of 64 cells, 1,024 regions and 61,440 bytes
abbrev pub within_limits : List ℕ → List ℕ → List ℕ → Bool
within_limits rows offsets bytes =
    (leb (length rows) plane_rows && all_at (λ i. leb (get_or rows i 0) plane_cells) (length rows)) && (leb (length offsets) region_count && leb (length bytes) text_bytes)

-- as many kinds and region numbers as the rows have cells, and as many lengths as offsets
abbrev pub counts_agree : List ℕ → List ℕ → List ℕ → List ℕ → List ℕ → Bool
counts_agree rows kinds regions offsets sizes =
    (eqb (length kinds) (sum rows) && eqb (length regions) (sum rows)) && eqb (length sizes) (length offsets)

abbrev pub cells_known : ℕ → List ℕ → List ℕ → Bool
cells_known count kinds regions = all_at (λ k. known_cell count (get_or kinds k 0) (get_or regions k 0)) (length kinds)

abbrev pub parts_good : List ℕ → List ℕ → List ℕ → Bool
parts_good offsets sizes bytes = all_at (λ k. good_part bytes (get_or offsets k 0) (get_or sizes k 0)) (length offsets)

module _ (l : LentPlane) where
  abbrev pub well_formed : Bool
  well_formed =
      (within_limits l.rows l.offsets l.bytes && counts_agree l.rows l.kinds l.regions l.offsets l.sizes)
      && (cells_known (length l.offsets) l.kinds l.regions && parts_good l.offsets l.sizes l.bytes)

  abbrev pub lent_cells : List Cell
  lent_cells = build (length l.kinds) (λ k. cell_of_kind (get_or l.kinds k 0) (get_or l.regions k 0))

  -- the text of region k, trimmed
  abbrev pub lent_text : ℕ → List ℕ
  lent_text k = trim_utf8 (take (get_or l.sizes k 0) (drop (get_or l.offsets k 0) l.bytes))

  -- the plane that is lent, and the texts of its regions
  unfoldable pub lent_of : Reading TextPlane
  lent_of =
      choose well_formed (Ok (record { plane = cut l.rows lent_cells; texts = build (length l.offsets) lent_text }))
      (Err LentPlaneMalformed)
