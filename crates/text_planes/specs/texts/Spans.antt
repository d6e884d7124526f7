-- What gathering texts answers, with the slices that hold them.
use Rattle.std.specs.Prelude.{List, ◌≡◌, ℕ, ◌+◌, ◌*◌, ◌≤◌, ◌<◌, length, Ok, Err}
use Rattle.lists.specs.Put.{put}
use Rattle.model.specs.Limits.{text_bytes}
use Rattle.model.specs.Refusals.{Reading}
use Rattle.model.specs.declared.Refusal.TheVariants.{OverLimit}
use Rattle.cells.specs.Spans.{offset_at, length_at, texts_in}
use Rattle.cells.specs.rects.Rects.{rect_at, RectIn}
use Rattle.cells.specs.declared.rects.list.Rects.{Rects}
use Rattle.text_planes.specs.texts.RegionText.{packed}

-- an answer's texts, with the slices that hold them
abbrev pub gathered_in : Reading ℕ → List ℕ → List ℕ → ℕ → Reading (List (List ℕ))
gathered_in (Ok used) bytes spans n = Ok (texts_in bytes spans n)
gathered_in (Err r) bytes spans n = Err r

-- an answer's texts have so many bytes, at most 61,440, and each lies in them
abbrev pub SpansIn : Reading ℕ → List ℕ → List ℕ → ℕ → Type 0
SpansIn (Ok used) bytes spans n =
    (used ≡ length (packed (texts_in bytes spans n))) × ((used ≤ text_bytes) × ((k : ℕ) → k < n → offset_at spans k + length_at spans k ≤ used))
SpansIn (Err r) bytes spans n = Unit {0}

-- what gathering is handed: rects that lie in w columns and h rows, and room for 61,440 bytes with the four of a code point more
pub record Slices (w h : ℕ) (rs : Rects) (b s : List ℕ) : Type 0 where
  pub inside : (k : ℕ) → k < rs.count → RectIn w h (rect_at rs.numbers.now k)
  pub bytes : text_bytes + 4 ≤ length b
  pub spans : rs.count * 2 ≤ length s

-- v is written into d from `at` on, and e is the place behind it
pub record WrittenTo (v d o : List ℕ) (at e : ℕ) : Type 0 where
  pub ends : e ≡ at + length v
  pub room : e ≤ text_bytes
  pub put : o ≡ put d at v

-- an answer's place behind v, which is written; a refusal past 61,440 bytes, whatever was written
abbrev pub PutAt : List ℕ → List ℕ → List ℕ → ℕ → Reading ℕ → Type 0
PutAt v d o at (Ok e) = WrittenTo v d o at e
PutAt v d o at (Err r) = (text_bytes < at + length v) × (r ≡ OverLimit)
