-- `recognizer::tables::plane_table` meets its contract.
use Rattle.std.proofs.lemmas.Result.{err_from_is_err_and}
use native.Mathlib.Omega.{arith}
use Rattle.cells.specs.Slices.{text_of}
use Rattle.recognizer.specs.tables.NamedTable.{name_of}
use Rattle.recognizer.proofs.tables.NameLaws.{named_table_lem}
use Rattle.recognizer.proofs.tables.plane_table.Goals as goal

pub add_name-requires : goal.add_name-requires
add_name-requires c =
    (rw c.in_ok-t.was at c.recognize.ensures.held, c.requires.1, c.requires.0.few, omega (arith, c.requires.0.room, c.recognize.auto.slots))

pub returns : goal.returns
returns c =
    let a = c.add_name.ensures in
    record { table = named_table_lem _ a (rw c.in_ok-t.was at (c.recognize.ensures.table (name_of c.args.named (text_of c.args.sheet.texts)))); held = a.held }

pub returns-in_err-t : goal.returns-in_err-t
returns-in_err-t c =
    let p = err_from_is_err_and c.from_residual.result c.from_residual.ensures.1 in
    rw (p.1, p.2) (
    record { table = rw c.in_err-t.was at (c.recognize.ensures.table (name_of c.args.named (text_of c.args.sheet.texts))); held = tt }
    )
