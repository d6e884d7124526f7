-- `frames::outline::name_above` meets its contract.
use Rattle.std.proofs.lemmas.Result.{err_from_is_err_and}
use mathlib.Core.Path.{sym, ap, ◌∙◌}
use Rattle.frames.specs.outline.Outline.{named_of}
use Rattle.frames.proofs.outline.OutlineLaws.{none_above, name_above_lem, name-refused}
use native.Mathlib.Omega.{arith}
use Rattle.frames.proofs.outline.name_above.Goals as goal

pub returns-then-row-eq0 : goal.returns-then-row-eq0
returns-then-row-eq0 c =
    let l = c.args.layer in
    none_above _ _ _ ∙ ap (named_of _ l.width l.height) (sym c.if-row-eq0.true)

pub returns : goal.returns
returns c =
    name_above_lem _ _ _ _ (omega (arith, c.if-row-eq0.false)) _ (sym c.recognize_name.ensures ∙ c.in_ok-recognize_name.was)

pub returns-in_err-recognize_name : goal.returns-in_err-recognize_name
returns-in_err-recognize_name c =
    let p = err_from_is_err_and c.from_residual.result c.from_residual.ensures.1 in
    rw (p.1, p.2) (name-refused _ _ _ _ (omega (arith, c.if-row-eq0.false)) _ (sym c.recognize_name.ensures ∙ c.in_err-recognize_name.was))
