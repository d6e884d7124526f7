-- The slots that a shape takes: all of them have room.
use mathlib.Core.Path.{◌≡◌}
use mathlib.Core.List.{List}
use Prim.Native.Nat.{ℕ, ◌+◌, ◌*◌, ◌≤◌, ◌<◌}
use native.Mathlib.Nat.{mul-le-mul_right}
use native.Mathlib.Omega.{arith}
use lib.ListN.{length, length-append}
use Rattle.lists.proofs.RunLaws.{length_run}
use Rattle.model.specs.Limits.{plane_rows, plane_cells}
use Rattle.record.specs.Record.{slot_count}
use Rattle.record.specs.Slots.{slot_limit}
use Rattle.cells.specs.Plane.{Plane}
use Rattle.clauses.specs.Spelled.{entry_texts}
use Rattle.clauses.specs.Told.{ShapeFits}
use Rattle.clauses.specs.declared.Shape.{Shape}
use Rattle.recognizer.specs.slot_runs.Spelt.{Room}

-- the slots of a rule; of all rules, and of what stands before them too
module _ (s : Shape) where
  abbrev pub for_rule : ℕ
  for_rule = s.inputs + s.outputs + s.notes.count

  abbrev pub for_rules : ℕ → ℕ
  for_rules rules = rules * for_rule

  abbrev pub from_notes : ℕ → ℕ
  from_notes rules = s.notes.count + for_rules rules

  abbrev pub from_outputs : ℕ → ℕ
  from_outputs rules = 3 * s.outputs + from_notes rules

  abbrev pub from_inputs : ℕ → ℕ
  from_inputs rules = 2 * s.inputs + from_outputs rules

pub fewer_rules : {s : Shape} {rows m n : ℕ} → ShapeFits s rows n → m ≤ n → ShapeFits s rows m
fewer_rules f h = record { columns = f.columns; behind = f.behind; height = omega (arith, f.height); notes = f.notes }

-- the slots of a sheet whose clauses have 64 columns with the crossing's: 2 + 3 · 63 + 63 · 63 at most
pub few-slots : (n m k r : ℕ) → n + 1 + m + k ≤ plane_cells → r < plane_rows → slot_count n m k r ≤ slot_limit
few-slots n m k r h l = let p : r * (n + m + k) ≤ 63 * (n + m + k) = mul-le-mul_right (n + m + k) (omega arith) in omega arith

pub room-all : {s : Shape} {rows rules : ℕ} {d : List ℕ} → ShapeFits s rows rules → rows ≤ plane_rows → 3 * slot_limit ≤ length d
    → Room (record { slot = 1; bytes = 0 }) (1 + from_inputs s rules) d
room-all {s} {rows} {rules} {d} f h l =
    let k : rules < plane_rows = omega (arith, f.height) in
    let n : 1 + (1 + from_inputs s rules) ≤ slot_limit = omega (arith, few-slots s.inputs s.outputs s.notes.count rules f.columns k) in
    record { slots = omega arith; few = n; light = omega arith }

pub entry_length : (text : ℕ → List ℕ) (P : Plane) (s : Shape) (r : ℕ) → length (entry_texts text P s r) ≡ for_rule s
entry_length text P s r = simp (length-append, length_run) (omega arith)
