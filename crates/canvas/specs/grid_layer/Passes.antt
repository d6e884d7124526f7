-- What the inner functions of the GRID pass leave in the layer: no caller needs these.
use Rattle.std.specs.Prelude.{List, ◌≡◌, ℕ, ◌+◌, ◌*◌, ◌<◌, eqb, get_or}
use Rattle.lists.specs.Choose.{choose}
use Rattle.lists.specs.Line.{store_at}
use Rattle.lists.specs.OneOf.{any_at}
use Rattle.lists.specs.Turns.{turns}
use Rattle.canvas.specs.grid_layer.Grid.{carried_code}
use Rattle.canvas.specs.declared.grid_layer.line.Line.{Line}
use Rattle.canvas.specs.declared.grid_layer.Stroke.{Stroke}

-- where the kth character of a line stands
abbrev pub place_in : Line → ℕ → ℕ
place_in l k = l.base + k * l.stride

-- a line of a list of `len` characters
abbrev pub InLine : Line → ℕ → Type 0
InLine l len = (k : ℕ) → k < l.count → place_in l k < len

-- the line's own character stays, wherever the line is carried across it
abbrev pub LineStays : Stroke → Type 0
LineStays d = (off n k : ℕ) → carried_code d off n k d.line ≡ d.line

-- a line of n characters, whose kth stands at `at k`: carried across where it holds a character of its stroke
unfoldable pub line_carried : Stroke → ℕ → (ℕ → ℕ) → ℕ → List ℕ → List ℕ
line_carried d off at n s = choose (any_at (λ k. eqb (get_or s (at k) 0) d.line) n) (turns (store_at at (carried_code d off n)) n s) s

-- m lines, one after the other: the kth character of the jth stands at `ix j k`
abbrev pub lines_carried : Stroke → ℕ → (ℕ → ℕ → ℕ) → ℕ → ℕ → List ℕ → List ℕ
lines_carried d off ix m n s = turns (λ j. line_carried d off (ix j) n) m s
