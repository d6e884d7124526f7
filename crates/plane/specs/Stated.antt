-- What reading a plane's upright sheet answers, with the slice that holds it.
use Rattle.std.specs.Prelude.{List, ℕ, Ok, Err}
use Rattle.model.specs.Refusals.{Reading}
use Rattle.cells.specs.Held.{Held}
use Rattle.cells.specs.Plane.{plane_in}
use Rattle.plane.specs.Sheet.{Sheet}
use Rattle.plane.specs.declared.Stated.{Stated}

-- an answer's sheet
abbrev pub stated_in : Reading Stated → List ℕ → Reading Sheet
stated_in (Ok s) d = Ok (record { orientation = s.orientation; policy = s.policy; rules = s.rules; plane = plane_in d s.rows })
stated_in (Err r) d = Err r

-- an answer's sheet fits its slice, and its regions are among `count`
abbrev pub StatedHeld : Reading Stated → List ℕ → List ℕ → List ℕ → ℕ → Type 0
StatedHeld (Ok s) d bytes spans count = Held d s.rows bytes spans count
StatedHeld (Err r) d bytes spans count = Unit {0}
