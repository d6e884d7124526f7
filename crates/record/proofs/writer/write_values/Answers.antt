-- `record::writer::write_values` meets its contract.
use Rattle.record.proofs.writer.WritingLaws.{values_ask, values-left}
use mathlib.Core.Path.{refl}
use native.Mathlib.Omega.{arith}
use Rattle.record.proofs.writer.write_values.Goals as goal

pub part_of-text-requires : goal.part_of-text-requires
part_of-text-requires c = let held = c.requires.held.0 in (omega (arith, held.one, c.args.texts.parts.room), held.inside)

pub put_values-end-requires : goal.put_values-end-requires
put_values-end-requires c =
    (values_ask _ _ _ c.requires.held.1 _ c.part_of-text.ensures _ _ _ c.requires.held.0.one c.requires.fits).1

pub put_slot-requires : goal.put_slot-requires
put_slot-requires c =
    let ask = values_ask _ _ _ c.requires.held.1 _ c.part_of-text.ensures _ _ _ c.requires.held.0.one c.requires.fits in
    (omega (arith, ask, c.put_values-end.auto), omega (arith, ask), omega (arith, ask, c.put_values-end.ensures.value))

pub returns : goal.returns
returns c = let w = values-left _ _ _ c.requires.held.1 _ c.part_of-text.ensures _ _ _ c.requires.held.0.one c.requires.fits _ _ _ _ refl (c.put_values-end.ensures.value, c.put_values-end.ensures.out_after) c.put_slot.ensures in record { value = w.0; out_after = w.1 }
