-- A line through a flat layer, forwards or backwards: what the inner functions of the crate go along.
use Rattle.std.specs.Prelude.{Bool, true, false, List, ℕ, ◌+◌, ◌-◌, ◌*◌, ◌≤◌, ◌<◌, ◌^◌, get_or}
use Rattle.walks.specs.declared.Direction.{Direction}
use Rattle.walks.specs.declared.Direction.TheVariants.{Right, Down, Left, Up}

-- the place k steps from `at`, with `step` places between two characters
abbrev pub place : Bool → ℕ → ℕ → ℕ → ℕ
place true at step k = at - k * step
place false at step k = at + k * step

-- the characters of the line
abbrev pub line_of : List ℕ → Bool → ℕ → ℕ → ℕ → ℕ
line_of l back at step k = get_or l (place back at step k) 0

-- n steps from `at` lie in a list of `len` characters
abbrev pub Reach : Bool → ℕ → ℕ → ℕ → ℕ → Type 0
Reach true at step n len = (n * step ≤ at) × (at < len)
Reach false at step n len = at + n * step < len

-- the place one step on, where it fits
abbrev pub next_of : Bool → ℕ → ℕ → ℕ
next_of true p step = p - step
next_of false p step = p + step

abbrev pub NextFits : Bool → ℕ → ℕ → Type 0
NextFits true p step = step ≤ p
NextFits false p step = p + step < 2 ^ 64

-- the way that each direction has through a layer of w columns: backwards or not, and the places between two characters
abbrev pub back_of : Direction → Bool
back_of Right = false
back_of Down = false
back_of Left = true
back_of Up = true

abbrev pub step_of : Direction → ℕ → ℕ
step_of Right w = 1
step_of Down w = w
step_of Left w = 1
step_of Up w = w
