use Rattle.cells.specs.Slices.{plane_of, text_of}
use Rattle.clauses.specs.Spelled.{row_texts}
use Rattle.recognizer.proofs.slot_runs.SpeltLaws.{Turning}
use Rattle.recognizer.proofs.slot_runs.put_row.Given as goal

abbrev pub invariant-loop-i : goal.invariant-loop-i
invariant-loop-i l =
    let t = l.sheet.texts in
    Turning t.bytes.now l.initial.out (row_texts (text_of t) (plane_of l.sheet.plane) l.y l.x) 1 l.n l.out l.i
