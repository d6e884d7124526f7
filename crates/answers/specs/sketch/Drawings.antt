-- The lines of a drawing: its layers as the Rust prints them, its regions with their texts, its name.
use Rattle.std.specs.Prelude.{Bool, true, false, List, [], ◌∷◌, ◌++◌, ℕ, zero, suc, length}
use Rattle.lists.specs.Picture.{Picture}
use Rattle.model.specs.declared.Rect.{Rect}
use Rattle.characters.specs.utf8.Utf8.{encode}
use Rattle.print.specs.Decimal.{decimal}
use Rattle.print.specs.Lines.{blank, line_feed, count_line}

-- the first n characters of row y, in UTF-8
unfoldable pub row_to : Picture → ℕ → ℕ → List ℕ
row_to p y zero = []
row_to p y (suc x) = row_to p y x ++ encode (p x y)

-- the first n rows of w characters, a line each
unfoldable pub rows_to : Picture → ℕ → ℕ → List ℕ
rows_to p w zero = []
rows_to p w (suc y) = rows_to p w y ++ (row_to p y w ++ (line_feed ∷ []))

-- a layer of w columns and h rows behind its title
unfoldable pub layer_lines : List ℕ → Picture → ℕ → ℕ → List ℕ
layer_lines title p w h = title ++ rows_to p w h

-- "TEXT", "THIN", "BODY" and "GRID", each with a line feed
abbrev pub text_title : List ℕ
text_title = 0x54 ∷ 0x45 ∷ 0x58 ∷ 0x54 ∷ line_feed ∷ []

abbrev pub thin_title : List ℕ
thin_title = 0x54 ∷ 0x48 ∷ 0x49 ∷ 0x4E ∷ line_feed ∷ []

abbrev pub body_title : List ℕ
body_title = 0x42 ∷ 0x4F ∷ 0x44 ∷ 0x59 ∷ line_feed ∷ []

abbrev pub grid_title : List ℕ
grid_title = 0x47 ∷ 0x52 ∷ 0x49 ∷ 0x44 ∷ line_feed ∷ []

-- the four layers of w columns and h rows
unfoldable pub layers_lines : Picture → Picture → Picture → Picture → ℕ → ℕ → List ℕ
layers_lines text thin body grid w h =
    layer_lines text_title text w h ++ (layer_lines thin_title thin w h ++ (layer_lines body_title body w h ++ layer_lines grid_title grid w h))

-- room for them: four titles, and 96 rows a layer
abbrev pub layers_bytes : ℕ
layers_bytes = 246164

-- room for each row of the widest canvas: 160 characters and a line feed
abbrev pub row_bytes : ℕ
row_bytes = 641

-- a number and a blank
abbrev pub number_word : ℕ → List ℕ
number_word n = decimal n ++ (blank ∷ [])

-- LEFT TOP RIGHT BOTTOM, each with a blank behind it
unfoldable pub rect_words : Rect → List ℕ
rect_words r = number_word r.left ++ (number_word r.top ++ (number_word r.right ++ number_word r.bottom))

-- LEFT TOP RIGHT BOTTOM TEXT
unfoldable pub region_line : Rect → List ℕ → List ℕ
region_line r t = rect_words r ++ (t ++ (line_feed ∷ []))

-- a line for each region
unfoldable pub region_lines : List Rect → List (List ℕ) → List ℕ
region_lines [] ts = []
region_lines (r ∷ rs) [] = []
region_lines (r ∷ rs) (t ∷ ts) = region_line r t ++ region_lines rs ts

-- "regions "
abbrev pub regions_word : List ℕ
regions_word = 0x72 ∷ 0x65 ∷ 0x67 ∷ 0x69 ∷ 0x6F ∷ 0x6E ∷ 0x73 ∷ 0x20 ∷ []

-- the regions behind their count
unfoldable pub counted_lines : List Rect → List (List ℕ) → List ℕ
counted_lines rs ts = count_line regions_word (length rs) ++ region_lines rs ts

-- room for them: 1,024 lines of four numbers, and the texts
abbrev pub region_bytes : ℕ
region_bytes = 148509

-- "name "
abbrev pub name_word : List ℕ
name_word = 0x6E ∷ 0x61 ∷ 0x6D ∷ 0x65 ∷ 0x20 ∷ []

-- "no name" and a line feed
abbrev pub no_name_line : List ℕ
no_name_line = 0x6E ∷ 0x6F ∷ 0x20 ∷ 0x6E ∷ 0x61 ∷ 0x6D ∷ 0x65 ∷ line_feed ∷ []

-- the name of a table is the text of its first region
unfoldable pub name_line : Bool → List (List ℕ) → List ℕ
name_line false ts = no_name_line
name_line true [] = no_name_line
name_line true (t ∷ ts) = name_word ++ (t ++ (line_feed ∷ []))

-- room for it: the longest text
abbrev pub name_bytes : ℕ
name_bytes = 61446
