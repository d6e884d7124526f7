-- `answers::put_upright_sheet` meets its contract.
use mathlib.Core.Path.{refl}
use Rattle.print.proofs.WrittenLaws.{written_as, written_within}
use Rattle.answers.proofs.LentLaws.{stated_lines, not_stated, stated_fits}
use native.Mathlib.Omega.{arith}
use Rattle.answers.proofs.put_upright_sheet.Goals as goal

pub slice_bounds-lent_sheet-end : goal.slice_bounds-lent_sheet-end
slice_bounds-lent_sheet-end g c = refl

pub slice_bounds-lent_sheet-end-2 : goal.slice_bounds-lent_sheet-end-2
slice_bounds-lent_sheet-end-2 g c = refl

pub slice_bounds-lent_sheet-end-3 : goal.slice_bounds-lent_sheet-end-3
slice_bounds-lent_sheet-end-3 g c = refl

pub put_stated-requires : goal.put_stated-requires
put_stated-requires g c = (search arith, (omega (arith, c.requires), stated_fits _ _ _ _ _ c.lent_sheet.ensures.held c.in-Ok.is))

pub returns-in-Ok : goal.returns-in-Ok
returns-in-Ok g c = written_as c.put_stated.ensures (stated_lines _ _ _ c.lent_sheet.ensures.sheet c.in-Ok.is)

pub returns-in-Err : goal.returns-in-Err
returns-in-Err g c = written_within (written_as c.put_refusal.ensures (not_stated _ _ _ c.lent_sheet.ensures.sheet c.in-Err.is)) (omega arith)
