-- `policies::lent_records::lent_record` meets its contract.
use Rattle.std.proofs.lemmas.Result.{err_from_is_err_and}
use mathlib.Core.Path.{refl, sym, ap, ◌∙◌}
use native.Mathlib.Omega.{arith}
use Rattle.model.specs.Refusals.{Reading}
use Rattle.recognizer.specs.declared.SlotTable.{SlotTable}
use Rattle.recognizer.specs.tables.NamedTable.{named_table}
use Rattle.recognizer.proofs.records.OutcomeLaws.{read_as}
use Rattle.policies.proofs.lent_records.lent_record.Goals as goal

pub write_table-requires : goal.write_table-requires
write_table-requires c =
    (rw c.in_ok-t.was at c.lent_table.ensures.held, omega (arith, c.requires.room, c.lent_table.auto.slots))

pub returns : goal.returns
returns c =
    let w = c.write_table.ensures in
    let e = ap (λ (m : Reading SlotTable). named_table m c.args.l.bytes.now c.lent_table.new.slots) (sym c.in_ok-t.was) ∙ c.lent_table.ensures.table in
    let r = read_as c.args.out.now e w.outcome w.out in
    record { outcome = r.0; out = r.1 }

pub returns-in_err-t : goal.returns-in_err-t
returns-in_err-t c =
    let p = err_from_is_err_and c.from_residual.result c.from_residual.ensures.1 in
    let e = ap (λ (m : Reading SlotTable). named_table m c.args.l.bytes.now c.lent_table.new.slots) (sym c.in_err-t.was) ∙ c.lent_table.ensures.table in
    let r = read_as c.args.out.now e (p.1 ∙ rw p.2) refl in
    record { outcome = r.0; out = r.1 }
