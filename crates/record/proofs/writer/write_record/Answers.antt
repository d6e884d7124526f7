-- `record::writer::write_record` meets its contract.
use mathlib.Core.Path.{sym, ◌∙◌}
use Rattle.record.proofs.writer.WritingLaws.{record_small, texts_fit, record_room, record_whole, record_short}
use native.Mathlib.Omega.{arith}
use Rattle.std.proofs.lemmas.Result.{err_from_is_err_and}
use Rattle.record.proofs.writer.write_record.Goals as goal

pub begin_record-requires : goal.begin_record-requires
begin_record-requires c = record_small c.requires

pub write_slots-requires : goal.write_slots-requires
write_slots-requires c =
    let begun = c.begin_record.ensures in
    record { held = λ i h. record { one = h; inside = c.requires.inside i h }; fits = texts_fit c.requires (omega (arith, record_room c.requires c.args.out.now _ (sym c.in_ok-total.was ∙ begun.value))) }

pub returns-in_err-total : goal.returns-in_err-total
returns-in_err-total c =
    let begun = c.begin_record.ensures in
    let w = record_short c.requires c.args.out.now _ begun.out_after _ (sym c.in_err-total.was ∙ begun.value) in
    let p = err_from_is_err_and c.from_residual.result c.from_residual.ensures.1 in
    record { answer = rw (p.1, p.2) w.0; written = w.1 }

pub returns : goal.returns
returns c =
    let begun = c.begin_record.ensures in
    let w = record_whole c.requires c.args.out.now _ begun.out_after _ _ (sym c.in_ok-total.was ∙ begun.value) c.write_slots.ensures in
    record { answer = w.0; written = w.1 }
