-- `recognizer::recognize` meets its contract.
use Rattle.std.proofs.lemmas.Result.{err_from_is_err_and}
use mathlib.Core.Path.{refl, sym, ◌∙◌}
use Rattle.cells.specs.Slices.{plane_of, text_of}
use Rattle.plane.proofs.SomeRules.{some-rules}
use Rattle.recognizer.proofs.Recognizing.{not_stated, stated_sheet_lem}
use Rattle.recognizer.proofs.recognize.Goals as goal

pub recognize_sheet-requires : goal.recognize_sheet-requires
recognize_sheet-requires c =
    let g = c.in_ok-s.was in
    (c.requires.few, c.requires.room, some-rules (text_of c.args.sheet.texts) (plane_of c.args.sheet.plane) _ (sym (rw g at c.upright_sheet.ensures.sheet)))

pub returns : goal.returns
returns c =
    let r = c.recognize_sheet.ensures in
    let e = rw c.in_ok-s.was at c.upright_sheet.ensures.sheet in
    record { table = λ name. r.table name ∙ stated_sheet_lem (text_of c.args.sheet.texts) (plane_of c.args.sheet.plane) name _ e; held = r.held; name = r.name }

pub returns-in_err-s : goal.returns-in_err-s
returns-in_err-s c =
    let p = err_from_is_err_and c.from_residual.result c.from_residual.ensures.1 in
    rw (p.1, p.2) (
    record { table = λ name. not_stated (text_of c.args.sheet.texts) (plane_of c.args.sheet.plane) name _ (rw c.in_err-s.was at c.upright_sheet.ensures.sheet); held = tt; name = λ j h. refl }
    )
