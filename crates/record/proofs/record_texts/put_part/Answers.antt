-- `record::record_texts::put_part` meets its contract.
use mathlib.Core.Path.{refl}
use Rattle.record.proofs.record_texts.Steps.{absent_part, part_within, present-fits, present_part}
use Rattle.record.proofs.record_texts.put_part.Goals as goal

pub returns-then-slots-at-eq-ABSENT : goal.returns-then-slots-at-eq-ABSENT
returns-then-slots-at-eq-ABSENT c = let w = absent_part _ _ _ _ _ _ c.if-slots-at-eq-ABSENT.true c.put_slot.ensures in record { value = w.0; out_after = w.1 }

pub part-requires : goal.part-requires
part-requires c =
    part_within c.args.texts.parts _ _ _ c.requires.plain.0 c.requires.plain.1 c.if-slots-at-eq-ABSENT.false refl refl

pub put_text-requires : goal.put_text-requires
put_text-requires c =
    present-fits c.args.texts.parts _ _ _ c.requires.plain.0 c.requires.plain.1 c.if-slots-at-eq-ABSENT.false refl refl _ c.part.ensures _ _ c.requires.fits

pub returns : goal.returns
returns c = let w = present_part c.args.texts.parts _ _ _ c.requires.plain.0 c.requires.plain.1 c.if-slots-at-eq-ABSENT.false refl refl _ c.part.ensures _ _ _ _ (c.put_text.ensures.value, c.put_text.ensures.out_after) in record { value = w.0; out_after = w.1 }
