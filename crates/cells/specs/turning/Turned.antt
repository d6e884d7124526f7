-- What turning answers, with the slice that holds the turned plane.
use Rattle.std.specs.Prelude.{List, ℕ, Ok, Err}
use Rattle.model.specs.Refusals.{Reading}
use Rattle.cells.specs.Plane.{Plane, plane_in, PlaneFits}

-- an answer's plane
abbrev pub turned_in : Reading ℕ → List ℕ → Reading Plane
turned_in (Ok n) d = Ok (plane_in d n)
turned_in (Err r) d = Err r

abbrev pub TurnedFits : Reading ℕ → List ℕ → Type 0
TurnedFits (Ok n) d = PlaneFits d n
TurnedFits (Err r) d = Unit {0}
