-- `scan::scan` meets its contract.
use mathlib.Core.Path.{◌∙◌}
use Prim.Native.Nat.{◌≤◌}
use native.Mathlib.Omega.{arith}
use Rattle.model.specs.Limits.{canvas_rows}
use Rattle.scan.proofs.Answers.{scan_rows, scan_columns, scan_room, scan_canvas}
use Rattle.scan.proofs.scan.Goals as goal

pub returns-then-rows-gt-CANVAS_ROWS : goal.returns-then-rows-gt-CANVAS_ROWS
returns-then-rows-gt-CANVAS_ROWS c =
    let a = c.args in let w = scan_rows c.sheet_start-start.ensures.start c.measure-m.ensures.measured a.text.now a.body.now (omega arith) in record { answer = w.0; end = w.1.0; valid = w.1.1.0; layer = w.1.1.1.0; body = w.1.1.1.1 }

pub returns-then-columns-gt-CANVAS_COLUMNS : goal.returns-then-columns-gt-CANVAS_COLUMNS
returns-then-columns-gt-CANVAS_COLUMNS c =
    let a = c.args in let w = scan_columns c.sheet_start-start.ensures.start c.measure-m.ensures.measured a.text.now a.body.now (omega arith) in record { answer = w.0; end = w.1.0; valid = w.1.1.0; layer = w.1.1.1.0; body = w.1.1.1.1 }

pub write_rows-requires : goal.write_rows-requires
write_rows-requires c =
    let a = c.args in
    let m = c.measure-m.ensures in
    let h : c.measure-m.result.rows ≤ canvas_rows = omega arith in
    rw (c.as_slice.ensures.value, m.all h) (scan_room c.sheet_start-start.ensures.start m.measured a.text.now a.body.now h (omega arith) (m.kept h) c.requires.1 c.requires.2)

pub returns : goal.returns
returns c =
    let a = c.args in
    let m = c.measure-m.ensures in
    let h : c.measure-m.result.rows ≤ canvas_rows = omega arith in
    let o = rw (c.as_slice.ensures.value, m.all h) at c.write_rows.ensures.text in
    let p = rw (c.as_slice.ensures.value, m.all h) at c.write_rows.ensures.body in
    let w = scan_canvas c.sheet_start-start.ensures.start m.measured a.text.now a.body.now h (omega arith) (m.kept h) _ (c.sheet_start-start.ensures.valid.same ∙ m.valid) (o, p) in
    record { answer = w.0; end = w.1.0; valid = w.1.1.0; layer = w.1.1.1.0; body = w.1.1.1.1 }
