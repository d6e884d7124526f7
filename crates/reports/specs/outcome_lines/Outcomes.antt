-- An outcome's lines, with the record slice that it leaves.
use Rattle.std.specs.Prelude.{List, ℕ, Ok, Err}
use Rattle.model.specs.Refusals.{numbers, Reading}
use Rattle.print.specs.Lines.{refused_line}
use Rattle.print.specs.listing.RecordLines.{record_lines, Sound}

-- the lines of the record slice, or of the refusal
abbrev pub outcome_lines : Reading ℕ → List ℕ → List ℕ
outcome_lines (Ok n) bytes = record_lines bytes
outcome_lines (Err r) bytes = refused_line (numbers r)

-- a record slice that is printed may be read
abbrev pub OutcomeSound : Reading ℕ → List ℕ → Type 0
OutcomeSound (Ok n) bytes = Sound bytes
OutcomeSound (Err r) bytes = Unit {0}
