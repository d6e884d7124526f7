-- `recognizer::recognize_sheet` meets its contract.
use Rattle.std.proofs.lemmas.Result.{err_from_is_err_and}
use mathlib.Core.Path.{refl}
use native.Mathlib.Omega.{arith}
use Rattle.cells.specs.Slices.{plane_of, text_of}
use Rattle.recognizer.proofs.Recognizing.{not_shaped, stands, table-held}
use Rattle.recognizer.proofs.recognize_sheet.Goals as goal

pub returns-in_err-f : goal.returns-in_err-f
returns-in_err-f c =
    let p = err_from_is_err_and c.from_residual.result c.from_residual.ensures.1 in
    rw (p.1, p.2) (
    record { table = λ name. not_shaped (text_of c.args.sheet.texts) (record { orientation = c.args.s.orientation; policy = c.args.s.policy; rules = c.args.s.rules; plane = plane_of c.args.sheet.plane }) c.requires.2 _ (rw c.in_err-f.was at c.checked_shape.ensures.shape) name; held = tt; name = λ j h. refl }
    )

pub fill-e-requires : goal.fill-e-requires
fill-e-requires c =
    (c.requires.0, rw c.in_ok-f.was at c.checked_shape.ensures.fits, c.requires.1)

pub returns : goal.returns
returns c =
    let p = c.fill-e.ensures in
    let f = c.args.sheet.plane.fits in
    let e = rw c.in_ok-f.was at c.checked_shape.ensures.shape in record { table = stands (text_of c.args.sheet.texts) (record { orientation = c.args.s.orientation; policy = c.args.s.policy; rules = c.args.s.rules; plane = plane_of c.args.sheet.plane }) c.requires.2 c.in_ok-f.f e p; held = table-held (text_of c.args.sheet.texts) (record { orientation = c.args.s.orientation; policy = c.args.s.policy; rules = c.args.s.rules; plane = plane_of c.args.sheet.plane }) c.requires.2 c.in_ok-f.f e p (rw c.in_ok-f.was at c.checked_shape.ensures.fits) f.rows c.requires.1; name = λ j h. p.kept j (omega arith) }
