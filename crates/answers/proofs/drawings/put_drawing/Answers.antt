-- `answers::drawings::put_drawing` meets its contract.
use mathlib.Core.Path.{refl}
use Rattle.print.proofs.WrittenLaws.{written_then, written_long, written_as, written_within}
use Rattle.answers.proofs.drawings.DrawingLaws.{drawn-size, drawn-lines, not_drawn}
use native.Mathlib.Omega.{arith}
use Rattle.answers.proofs.drawings.put_drawing.Goals as goal

pub slice_bounds-draw_sheet-end : goal.slice_bounds-draw_sheet-end
slice_bounds-draw_sheet-end g c = refl

pub slice_bounds-draw_sheet-end-2 : goal.slice_bounds-draw_sheet-end-2
slice_bounds-draw_sheet-end-2 g c = refl

pub slice_bounds-draw_sheet-end-3 : goal.slice_bounds-draw_sheet-end-3
slice_bounds-draw_sheet-end-3 g c = refl

pub slice_bounds-draw_sheet-end-4 : goal.slice_bounds-draw_sheet-end-4
slice_bounds-draw_sheet-end-4 g c = refl

pub invariant_of-text : goal.invariant_of-text
invariant_of-text g c =
    omega (arith, c.draw_sheet.auto.text, drawn-size c.args.s.now _ c.draw_sheet.ensures.answer _ _ _ _ c.draw_sheet.ensures.layers c.in-Ok.is)

pub put_layers-requires : goal.put_layers-requires
put_layers-requires g c =
    let z = drawn-size c.args.s.now _ c.draw_sheet.ensures.answer _ _ _ _ c.draw_sheet.ensures.layers c.in-Ok.is in
    (search arith, (omega (arith, c.requires), record { columns = z.0; rows = z.1 }, record { columns = refl; rows = refl }, record { columns = refl; rows = refl }, record { columns = refl; rows = refl }))

pub put_regions-requires : goal.put_regions-requires
put_regions-requires g c =
    let z = drawn-size c.args.s.now _ c.draw_sheet.ensures.answer _ _ _ _ c.draw_sheet.ensures.layers c.in-Ok.is in
    (search arith, (omega (arith, c.requires, written_long c.put_layers.ensures), record { columns = z.0; rows = z.1 }, record { columns = refl; rows = refl }, record { columns = refl; rows = refl }))

pub returns-in-Ok : goal.returns-in-Ok
returns-in-Ok g c =
    written_within
    (written_as (written_then c.put_layers.ensures c.put_regions.ensures)
    (drawn-lines c.args.s.now _ c.draw_sheet.ensures.answer _ _ _ _ c.draw_sheet.ensures.layers c.in-Ok.is))
    (omega arith)

pub returns-in-Err : goal.returns-in-Err
returns-in-Err g c =
    written_within (written_as c.put_refusal.ensures (not_drawn c.args.s.now _ c.draw_sheet.ensures.answer c.in-Err.is)) (omega arith)
