-- `clauses::clauses_at` meets its contract.
use mathlib.Core.Path.{sym}
use native.Mathlib.Omega.{arith}
use Rattle.std.proofs.lemmas.Result.{err_from_is_err_and}
use Rattle.clauses.proofs.allowed.AllowedLaws.{some-rows}
use Rattle.clauses.proofs.ShapeLaws.{at-allowed, at-inputs, at_layout, at-outputs, at-notes, at_shape}
use Rattle.clauses.proofs.clauses_at.Goals as goal

pub returns-in_err-values : goal.returns-in_err-values
returns-in_err-values c =
    let p = err_from_is_err_and c.from_residual.result c.from_residual.ensures.1 in
    rw (p.1, p.2) (record { shape = at-allowed _ _ _ _ _ c.in_err-values.ensures; fits = tt })

pub pass_inputs-requires : goal.pass_inputs-requires
pass_inputs-requires c =
    (omega (arith, c.requires.0), some-rows _ _ _ _ _ (sym c.in_ok-values.ensures), c.requires.1)

pub returns-in_err-pass_inputs : goal.returns-in_err-pass_inputs
returns-in_err-pass_inputs c =
    let p = err_from_is_err_and c.from_residual-in_err-pass_inputs.result c.from_residual-in_err-pass_inputs.ensures.1 in
    rw (p.1, p.2) (record { shape = at-inputs _ _ _ _ _ c.in_ok-values.ensures c.in_err-pass_inputs.ensures; fits = tt })

pub returns-in_err-layout : goal.returns-in_err-layout
returns-in_err-layout c =
    let p = err_from_is_err_and c.from_residual-in_err-layout.result c.from_residual-in_err-layout.ensures.1 in
    rw (p.1, p.2) (record { shape = at_layout _ _ _ _ _ c.in_ok-values.ensures c.in_ok-pass_inputs.ensures c.in_err-layout.ensures; fits = tt })

pub returns-in_err-pass_rows : goal.returns-in_err-pass_rows
returns-in_err-pass_rows c =
    let p = err_from_is_err_and c.from_residual-in_err-pass_rows.result c.from_residual-in_err-pass_rows.ensures.1 in
    rw (p.1, p.2) (record { shape = at-outputs _ _ _ _ _ c.in_ok-values.ensures c.in_ok-pass_inputs.ensures c.in_ok-layout.ensures c.in_err-pass_rows.ensures; fits = tt })

pub returns-in_err-a : goal.returns-in_err-a
returns-in_err-a c =
    let p = err_from_is_err_and c.from_residual-in_err-a.result c.from_residual-in_err-a.ensures.1 in
    rw (p.1, p.2) (record { shape = at-notes _ _ _ _ _ c.in_ok-values.ensures c.in_ok-pass_inputs.ensures c.in_ok-layout.ensures c.in_ok-pass_rows.ensures c.in_err-a.ensures.notes; fits = tt })

pub returns : goal.returns
returns c =
    let w = c.in_ok-a.ensures.fit in
    record {
      shape = at_shape _ _ _ _ _ c.in_ok-values.ensures c.in_ok-pass_inputs.ensures c.in_ok-layout.ensures c.in_ok-pass_rows.ensures c.in_ok-a.ensures.notes;
      fits = record { columns = w.0; behind = w.1; height = omega (arith, c.requires.1); notes = w.2 };
    }
