-- `clauses::shape_of` meets its contract.
use mathlib.Core.Path.{sym, ◌∙◌}
use native.Mathlib.Omega.{arith}
use Rattle.std.proofs.lemmas.Result.{err_from_is_err_and}
use Rattle.lists.proofs.OptionLaws.{there, missing}
use Rattle.clauses.proofs.SpotLaws.{column-behind}
use Rattle.clauses.proofs.ShapeLaws.{no_main, shape_outside, shape_within}
use Rattle.clauses.proofs.shape_of.Goals as goal

pub returns-in_err-p : goal.returns-in_err-p
returns-in_err-p c =
    let m = missing c.args.main _ c.in_err-p.ensures.value in
    let p = err_from_is_err_and c.from_residual.result c.from_residual.ensures.1 in
    rw (p.1, p.2, m.1) (record { shape = rw (← m.0) (no_main _ _); fits = tt })

pub outputs_end-e-requires : goal.outputs_end-e-requires
outputs_end-e-requires c = c.requires.1

pub returns-then-e-p : goal.returns-then-e-p
returns-then-e-p c =
    let m = sym (there c.args.main _ c.in_ok-p.ensures.value) in
    record { shape = rw m (shape_outside _ _ _ _ _ c.outputs_end-e.ensures.end c.if-e-p.true); fits = tt }

pub clauses_at-requires : goal.clauses_at-requires
clauses_at-requires c =
    let w = rw (sym (there c.args.main _ c.in_ok-p.ensures.value)) at c.requires.0 in
    let b = c.outputs_end-e.ensures.within in
    (omega (arith, b.0, c.if-e-p.false), w.0, column-behind c.args.notes c.args.plane.rows _ _ c.if-e-p.false b.1)

pub returns : goal.returns
returns c =
    let m = sym (there c.args.main _ c.in_ok-p.ensures.value) in
    record {
      shape = rw m (c.clauses_at.ensures.shape ∙ shape_within _ _ _ _ _ c.outputs_end-e.ensures.end c.if-e-p.false);
      fits = c.clauses_at.ensures.fits;
    }
