-- The line that the judge prints for a text of the value split.
use Rattle.std.specs.Prelude.{List, [], ◌∷◌, ℕ, Option, None, Some, Ok, Err}
use Rattle.model.specs.Refusals.{Reading, numbers}
use Rattle.values.specs.Values.{Values}
use Rattle.values.specs.utils.Split.{split_of}
use Rattle.print.specs.Lines.{line_feed, values_line, refused_line}

-- "own" and a line feed
abbrev pub own_line : List ℕ
own_line = 0x6F ∷ 0x77 ∷ 0x6E ∷ line_feed ∷ []

abbrev pub printed_by : List ℕ → Option (List ℕ) → List ℕ
printed_by allowed None = own_line
printed_by allowed (Some bare) = values_line allowed bare

-- the line that is printed for what the split answers
abbrev pub printed : Reading Values → List ℕ
printed (Ok v) = printed_by v.allowed v.default
printed (Err r) = refused_line (numbers r)

-- the line that is printed for a text, with a scratch slice of so many bytes
unfoldable pub split_line : ℕ → List ℕ → List ℕ
split_line room text = printed (split_of text room)
