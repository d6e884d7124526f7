-- `recognizer::slot_runs::put_row` meets its contract.
use Rattle.std.specs.Prelude.{Some}
use mathlib.Core.Path.{refl, ap}
use native.Mathlib.Omega.{arith}
use Rattle.lists.specs.Run.{run}
use Rattle.recognizer.proofs.slot_runs.SpeltLaws.{turning_start, turning_room, turning_more, turning_end, run_more, appended_text}
use Rattle.recognizer.proofs.slot_runs.put_row.Goals as goal

pub loop-i-init : goal.loop-i-init
unfolding run
loop-i-init c = turning_start _ _ _ 1 _ _ c.requires.1 (omega arith) refl

pub overflow_add-x : goal.overflow_add-x
overflow_add-x c = let i = c.loop-i.invariant in omega (arith, c.loop-i-test.true, c.requires.2)

pub part_at-p-requires : goal.part_at-p-requires
part_at-p-requires c = c.requires.0

pub put_part-requires : goal.put_part-requires
put_part-requires c = turning_room c.loop-i.invariant c.loop-i-test.true

pub loop-i-preserved : goal.loop-i-preserved
loop-i-preserved c =
    let p = c.part_at-p.ensures in
    let w = appended_text (c.put_part.ensures c.args.sheet.texts.bytes.now p.inside) (ap Some p.text) in
    turning_more c.loop-i.invariant c.loop-i-test.true w refl (run_more _ _ _)

pub returns : goal.returns
returns c = turning_end c.loop-i.invariant c.loop-i-test.false
