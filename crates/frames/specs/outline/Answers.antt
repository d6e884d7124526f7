-- What the answers of the crate say.
use Rattle.std.specs.Prelude.{ℕ, ◌+◌, ◌<◌, ◌^◌, Ok, Err}
use Rattle.model.specs.Refusals.{Reading}

-- the place that a walk came to, from another on, is a number of 64 bits
abbrev pub WalkFits : ℕ → Reading ℕ → Type 0
WalkFits from (Ok k) = from + k < 2 ^ 64
WalkFits from (Err r) = Unit {0}
