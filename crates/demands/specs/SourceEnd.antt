-- How a call with a drawing or with a lent plane ends.
use Rattle.std.specs.Prelude.{List, ℕ}
use Rattle.policies.specs.Source.{Source, drawing, plane}
use Rattle.builder.specs.ends.Ends.{End}
use Rattle.builder.specs.SheetEnd.{sheet_end}
use Rattle.builder.specs.lent_builder.LentEnd.{lent_end}

-- of the whole reader, or of the table from a lent plane, with whatever slices
abbrev pub source_end : Source → List (List ℕ) → List ℕ → End
source_end (drawing s) works out = sheet_end s works out
source_end (plane l) works out = lent_end l works out
