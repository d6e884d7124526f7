-- The room for an answer.
use Rattle.std.specs.Prelude.{ℕ}

-- for that to a line: layers, regions and plane of a drawing take most
abbrev pub line_bytes : ℕ
line_bytes = 550000
