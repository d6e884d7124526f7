-- What the inner functions of the crate answer on the way: no caller needs these.
use Rattle.std.specs.Prelude.{List, [], ◌∷◌, ◌≡◌, ℕ, ◌+◌, ◌*◌, ◌<◌, eqb, length, get_or, drop}
use Rattle.lists.specs.Choose.{choose}
use Rattle.characters.specs.utf8.Utf8.{codes}
use Rattle.characters.specs.declared.utf8.Decoded.{Decoded}
use Rattle.characters.specs.declared.utf8.Decoded.TheVariants.{Char, IllFormed, End}
use Rattle.characters.specs.white_space.White.{white}
use Rattle.characters.specs.white_space.Trim.{trim_end}
use Rattle.characters.specs.white_space.Lines.{line, last_of}
use Rattle.scan.specs.line_checks.LineEnds.{NextFrom}
use Rattle.scan.specs.declared.text_lines.Seen.{Seen}
use Rattle.scan.specs.declared.text_lines.Seen.TheVariants.{Text, White, LineFeed, Nothing}

-- the text behind the white space in front of it, up to a line feed
unfoldable pub lead : List ℕ → List ℕ
lead [] = []
lead (c ∷ s) = choose (eqb c 0x0A) (c ∷ s) (choose (white c) (lead s) (c ∷ s))

-- what a line takes a sequence for
abbrev pub seen_of : Decoded → Seen
seen_of (Char c n) = choose (white c) (choose (eqb c 0x0A) LineFeed (White n)) (Text n)
seen_of IllFormed = Nothing
seen_of End = Nothing

-- four bytes as a number, the first as the lowest
pub record WordAt (s : List ℕ) (at word : ℕ) : Type 0 where
  pub sum : word ≡ get_or s at 0 + get_or s (at + 1) 0 * 0x100 + get_or s (at + 2) 0 * 0x10000 + get_or s (at + 3) 0 * 0x1000000
  pub bytes : (get_or s at 0 < 256) × (get_or s (at + 1) 0 < 256) × (get_or s (at + 2) 0 < 256) × (get_or s (at + 3) 0 < 256)

-- the code point that a line's text begins with at a sequence, 0 where it has none
abbrev pub head_of : Decoded → ℕ
head_of (Char c n) = choose (eqb c 0x0A) 0 c
head_of IllFormed = 0
head_of End = 0

-- the rest of a line: its length without the white space at the end, its last code point, and where the next line starts
pub record RestAt (s : List ℕ) (from count last next : ℕ) : Type 0 where
  pub counted : count ≡ length (trim_end (line (codes (drop from s))))
  pub lasting : last ≡ last_of (trim_end (line (codes (drop from s))))
  pub ends : NextFrom s from next
