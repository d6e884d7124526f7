-- A lent plane as a text holds it: six lists, each behind its count.
use Rattle.std.specs.Prelude.{◌&&◌, List, [], ◌∷◌, ℕ, ◌+◌, ◌*◌, ◌≤◌, leb, length, take, drop, Option, None, Some}
use Rattle.lists.specs.Choose.{choose}
use Rattle.model.specs.Limits.{text_bytes}
use Rattle.plane.specs.lent.LentPlane.{LentPlane}

-- a list, and what stands behind it
pub record Cut : Type 0 where
  pub list : List ℕ
  pub rest : List ℕ

-- k of what is there
abbrev pub ◌>>=◌ : {A B : Type 0} → Option A → (A → Option B) → Option B
◌>>=◌ None k = None
◌>>=◌ (Some a) k = k a

-- the first n bytes, if n is at most `most` and there are so many
abbrev pub cut_at : ℕ → ℕ → List ℕ → Option Cut
cut_at most n s = choose (leb n most && leb n (length s)) (Some (record { list = take n s; rest = drop n s })) None

-- a list behind its count, which is two bytes, the high one first
unfoldable pub counted : ℕ → List ℕ → Option Cut
counted most [] = None
counted most (high ∷ []) = None
counted most (high ∷ low ∷ s) = cut_at most (high * 256 + low) s

-- nothing may be left
abbrev pub ended : List ℕ → LentPlane → Option LentPlane
ended [] l = Some l
ended (c ∷ s) l = None

-- at most so many row lengths, region numbers, and offsets or lengths
abbrev pub row_most : ℕ
row_most = 255

abbrev pub region_most : ℕ
region_most = 4500

abbrev pub part_most : ℕ
part_most = 1100

-- row lengths, kinds, region numbers, offsets, lengths, bytes: a list each
unfoldable pub lent_in : List ℕ → Option LentPlane
lent_in s = do
  rows ← counted row_most s
  kinds ← counted text_bytes rows.rest
  regions ← counted region_most kinds.rest
  offsets ← counted part_most regions.rest
  sizes ← counted part_most offsets.rest
  bytes ← counted text_bytes sizes.rest
  ended bytes.rest (record { rows = rows.list; kinds = kinds.list; regions = regions.list; offsets = offsets.list; sizes = sizes.list; bytes = bytes.list })

-- no list is too long
pub record Few (l : LentPlane) : Type 0 where
  pub rows : length l.rows ≤ row_most
  pub kinds : length l.kinds ≤ text_bytes
  pub regions : length l.regions ≤ region_most
  pub offsets : length l.offsets ≤ part_most
  pub sizes : length l.sizes ≤ part_most
  pub bytes : length l.bytes ≤ text_bytes
