-- Examples of the scan, by computation.
use Rattle.std.specs.Prelude.{Ok}
use mathlib.Core.Path.{◌≡◌, refl}
use mathlib.Core.List.{List, [], ◌∷◌}
use Prim.Native.Nat.{ℕ}
use lib.ListN.{replicate}
use Rattle.lists.specs.Put.{put}
use Rattle.model.specs.Box.{─, │, ┌, ┐, └, ┘, ░}
use Rattle.characters.specs.white_space.Lines.{lines, texts, after, last_of}
use Rattle.characters.specs.white_space.Trim.{trim_start, trim_end, trim}
use Rattle.characters.specs.utf8.Utf8.{more, by, decode, read, codes}
use Rattle.characters.specs.white_space.White.{among}
use Rattle.scan.specs.sheet_rows.Rows.{rows_at, up_to, collect, widest}
use Rattle.scan.specs.sheet_rows.Sheet.{lines_through, lines_taken, behind, rest_of}
use Rattle.scan.specs.Canvas.{size_of, blanks_in}
use Rattle.scan.specs.Rows.{flat}

-- no bytes: a canvas of no rows and no columns
pub no_bytes : size_of (rows_at [] 0) ≡ Ok (record { height = 0; width = 0 })
unfolding size_of collect widest lines texts read
no_bytes = refl

-- ┌ alone: one row of one column
pub one_corner : size_of (rows_at (0xE2 ∷ 0x94 ∷ 0x8C ∷ []) 0) ≡ Ok (record { height = 1; width = 1 })
unfolding size_of collect up_to widest lines texts last_of trim trim_start trim_end among read decode by more
one_corner = refl

-- a sheet with prose before and behind it, white space around its rows, ends of lines with a carriage return, and a blank line inside:
--   intro
--
--  ┌─┐
-- │
--
-- └─┘
-- rest ┌┘
abbrev sheet : List ℕ
sheet =
    0x20 ∷ 0x20 ∷ 0x69 ∷ 0x6E ∷ 0x74 ∷ 0x72 ∷ 0x6F ∷ 0x0A ∷ 0x0A
    ∷ 0x09 ∷ 0x20 ∷ 0xE2 ∷ 0x94 ∷ 0x8C ∷ 0xE2 ∷ 0x94 ∷ 0x80 ∷ 0xE2 ∷ 0x94 ∷ 0x90 ∷ 0x20 ∷ 0x0D ∷ 0x0A
    ∷ 0xE2 ∷ 0x94 ∷ 0x82 ∷ 0x20 ∷ 0x0D ∷ 0x0A ∷ 0x0A
    ∷ 0xE2 ∷ 0x94 ∷ 0x94 ∷ 0xE2 ∷ 0x94 ∷ 0x80 ∷ 0xE2 ∷ 0x94 ∷ 0x98 ∷ 0x0A
    ∷ 0x72 ∷ 0x65 ∷ 0x73 ∷ 0x74 ∷ 0x20 ∷ 0xE2 ∷ 0x94 ∷ 0x8C ∷ 0xE2 ∷ 0x94 ∷ 0x98 ∷ 0x0A ∷ []

-- its rows
pub three_rows : rows_at sheet 0 ≡ (┌ ∷ ─ ∷ ┐ ∷ []) ∷ (│ ∷ []) ∷ (└ ∷ ─ ∷ ┘ ∷ []) ∷ []
unfolding collect up_to lines texts last_of trim trim_start trim_end among read decode by more
three_rows = refl

-- and its layers: TEXT
pub filled : flat 3 (rows_at sheet 0) ≡ ┌ ∷ ─ ∷ ┐ ∷ │ ∷ ░ ∷ ░ ∷ └ ∷ ─ ∷ ┘ ∷ []
unfolding flat collect up_to lines texts last_of trim trim_start trim_end among read decode by more
filled = refl

-- BODY, of which one element more is left as it was
pub blanks : blanks_in (rows_at sheet 0) (replicate 10 1) ≡ 32 ∷ 32 ∷ 32 ∷ 32 ∷ ░ ∷ ░ ∷ 32 ∷ 32 ∷ 32 ∷ 1 ∷ []
unfolding blanks_in put flat widest collect up_to lines texts last_of trim trim_start trim_end among read decode by more
blanks = refl

-- the text behind it
pub rest : rest_of (codes sheet) ≡ 0x72 ∷ 0x65 ∷ 0x73 ∷ 0x74 ∷ 0x20 ∷ ┌ ∷ ┘ ∷ 0x0A ∷ []
unfolding lines_through lines_taken behind after lines last_of trim trim_start trim_end among read decode by more
rest = refl
