-- The word that a line begins with.
use Rattle.std.specs.Prelude.{List, [], ◌∷◌, ℕ, suc, length, drop, Option, None, Some}
use Rattle.lists.specs.Choose.{choose}
use Rattle.plane.specs.hit_policies.Letters.{same_text}
use Rattle.print.specs.Lines.{blank}
use Rattle.answers.specs.lines.Texts.{before}
use Rattle.replay.specs.declared.Kind.{Kind}
use Rattle.replay.specs.declared.Kind.TheVariants.{Split, Drawing, Plane, Sheet, Table}

-- "split"
abbrev pub split_word : List ℕ
split_word = 0x73 ∷ 0x70 ∷ 0x6C ∷ 0x69 ∷ 0x74 ∷ []

-- "drawing"
abbrev pub drawing_word : List ℕ
drawing_word = 0x64 ∷ 0x72 ∷ 0x61 ∷ 0x77 ∷ 0x69 ∷ 0x6E ∷ 0x67 ∷ []

-- "plane"
abbrev pub plane_word : List ℕ
plane_word = 0x70 ∷ 0x6C ∷ 0x61 ∷ 0x6E ∷ 0x65 ∷ []

-- "sheet"
abbrev pub sheet_word : List ℕ
sheet_word = 0x73 ∷ 0x68 ∷ 0x65 ∷ 0x65 ∷ 0x74 ∷ []

-- "table"
abbrev pub table_word : List ℕ
table_word = 0x74 ∷ 0x61 ∷ 0x62 ∷ 0x6C ∷ 0x65 ∷ []

-- what a word asks for, if anything
unfoldable pub kind_of : List ℕ → Option Kind
kind_of word =
    choose (same_text word split_word) (Some Split)
    (choose (same_text word drawing_word) (Some Drawing)
    (choose (same_text word plane_word) (Some Plane) (choose (same_text word sheet_word) (Some Sheet) (choose (same_text word table_word) (Some Table) None))))

-- a line's first word, and what stands behind it and a blank
abbrev pub word_of : List ℕ → List ℕ
word_of line = before blank line

abbrev pub rest_of : List ℕ → List ℕ
rest_of line = drop (suc (length (before blank line))) line
