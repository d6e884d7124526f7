-- What scanning a sheet answers, and what it leaves in the layers TEXT and BODY.
use Rattle.std.specs.Prelude.{Bool, ◌&&◌, List, map, ◌≡◌, ℕ, ◌≤◌, leb, length, drop, Ok, Err}
use Rattle.lists.specs.Choose.{choose}
use Rattle.lists.specs.Put.{put}
use Rattle.model.specs.Limits.{canvas_rows, canvas_columns}
use Rattle.model.specs.Refusals.{Reading}
use Rattle.model.specs.declared.Refusal.TheVariants.{CanvasTooLarge}
use Rattle.characters.specs.utf8.Utf8.{codes, SameCheck}
use Rattle.scan.specs.sheet_rows.Rows.{widest}
use Rattle.scan.specs.sheet_rows.Sheet.{rest_of}
use Rattle.scan.specs.declared.sheet_rows.Extent.{Extent}
use Rattle.scan.specs.Rows.{blank, flat}

-- the size of a canvas
pub record Size : Type 0 where
  pub height : ℕ
  pub width : ℕ

-- a canvas fits: at most 96 rows of 160 characters
abbrev pub fits : List (List ℕ) → Bool
fits rs = leb (length rs) canvas_rows && leb (widest rs) canvas_columns

-- the size of the canvas of some rows; number 2 with the full counts where it is too large
unfoldable pub size_of : List (List ℕ) → Reading Size
size_of rs =
    choose (fits rs) (Ok (record { height = length rs; width = widest rs })) (Err (CanvasTooLarge (length rs) (widest rs)))

-- the TEXT layer d afterwards: the rows, each filled to the longest, where the canvas fits; else as it was
unfoldable pub text_in : List (List ℕ) → List ℕ → List ℕ
text_in rs d = choose (fits rs) (put d 0 (flat (widest rs) rs)) d

-- the BODY layer d afterwards: as the Rust starts it, a blank for each character of a row and ░ for each fill character
unfoldable pub blanks_in : List (List ℕ) → List ℕ → List ℕ
blanks_in rs d = choose (fits rs) (put d 0 (flat (widest rs) (map blank rs))) d

-- an answer's size
abbrev pub scanned_in : Reading Extent → Reading Size
scanned_in (Ok c) = Ok (record { height = c.rows; width = c.columns })
scanned_in (Err r) = Err r

-- an answer's end: the bytes from there on are those behind the sheet
abbrev pub Ended : Reading Extent → List ℕ → ℕ → Type 0
Ended (Ok c) s at = (c.end.at ≤ length s) × (codes (drop c.end.at s) ≡ rest_of (codes (drop at s)))
Ended (Err r) s at = Unit {0}

-- an answer's check of UTF-8: it goes on where the answer says
abbrev pub ValidIn : Reading Extent → List ℕ → ℕ → Type 0
ValidIn (Ok c) s at = SameCheck s at c.end.valid
ValidIn (Err r) s at = Unit {0}
