-- `recognizer::slot_runs::part_at` meets its contract.
use Rattle.std.specs.Prelude.{Ok}
use mathlib.Core.Path.{◌≡◌}
use Prim.Native.Nat.{◌<◌}
use native.Mathlib.Omega.{arith}
use Rattle.cells.specs.Slices.{plane_of}
use Rattle.clauses.specs.cell_tests.SheetCells.{region_at}
use Rattle.recognizer.proofs.slot_runs.CellTexts.{region-among, read-text, unread_text}
use Rattle.recognizer.proofs.slot_runs.part_at.Goals as goal
use Rattle.recognizer.proofs.slot_runs.part_at.Goals.{In-Ok}

found : (c : In-Ok) → Ok c.in-Ok.k ≡ region_at (plane_of c.args.sheet.plane) c.args.y c.args.x
found c = rw c.in-Ok.is at c.region_at.ensures

among : (c : In-Ok) → c.in-Ok.k < c.args.sheet.texts.count
among c = region-among c.args.sheet.held _ _ c.in-Ok.k (found c)

pub overflow_mul-result : goal.overflow_mul-result
overflow_mul-result c = omega (arith, among c, c.args.sheet.held.two_each)

pub offset_bounds-spans-k : goal.offset_bounds-spans-k
offset_bounds-spans-k c = omega (arith, among c, c.args.sheet.held.two_each)

pub bounds-spans-k : goal.bounds-spans-k
bounds-spans-k c = omega (arith, among (goal.at.bounds-spans-k c).In-Ok, c.args.sheet.held.two_each)

pub overflow_mul-result-in-Ok : goal.overflow_mul-result-in-Ok
overflow_mul-result-in-Ok c = omega (arith, among (goal.at.overflow_mul-result-in-Ok c).In-Ok, c.args.sheet.held.two_each)

pub overflow_add-result : goal.overflow_add-result
overflow_add-result c = omega (arith, among (goal.at.overflow_add-result c).In-Ok, c.args.sheet.held.two_each)

pub offset_bounds-spans-k-in-Ok : goal.offset_bounds-spans-k-in-Ok
offset_bounds-spans-k-in-Ok c = omega (arith, among (goal.at.offset_bounds-spans-k-in-Ok c).In-Ok, c.args.sheet.held.two_each)

pub bounds-spans-k-in-Ok : goal.bounds-spans-k-in-Ok
bounds-spans-k-in-Ok c = omega (arith, among (goal.at.bounds-spans-k-in-Ok c).In-Ok, c.args.sheet.held.two_each)

pub returns-in-Ok : goal.returns-in-Ok
returns-in-Ok c =
    let t = c.args.sheet.held in
    record { text = read-text t _ _ c.in-Ok.k (found (goal.at.returns-in-Ok c).In-Ok); inside = record { inside = t.inside c.in-Ok.k (among (goal.at.returns-in-Ok c).In-Ok); few = c.requires } }

pub returns-in-Err : goal.returns-in-Err
returns-in-Err c =
    record { text = unread_text c.args.sheet.held _ _ _ (rw c.in-Err.is at c.region_at.ensures); inside = record { inside = omega arith; few = c.requires } }
