-- `clauses::notes_behind` meets its contract.
use native.Mathlib.Omega.{arith}
use Rattle.std.proofs.lemmas.Result.{err_from_is_err_and}
use Rattle.clauses.proofs.ShapeLaws.{notes_outside, notes-names, notes-rows, notes_are}
use Rattle.clauses.proofs.notes_behind.Goals as goal

pub returns-then-w-spot : goal.returns-then-w-spot
returns-then-w-spot c = record { notes = notes_outside _ _ _ _ c.width-w.ensures.0 c.if-w-spot.true; fit = tt }

pub returns-in_err-pass_row : goal.returns-in_err-pass_row
returns-in_err-pass_row c =
    let p = err_from_is_err_and c.from_residual.result c.from_residual.ensures.1 in
    rw (p.1, p.2) (record { notes = notes-names _ _ _ _ c.width-w.ensures.0 c.if-w-spot.false c.in_err-pass_row.ensures; fit = tt })

pub returns-in_err-pass_rows : goal.returns-in_err-pass_rows
returns-in_err-pass_rows c =
    let p = err_from_is_err_and c.from_residual-in_err-pass_rows.result c.from_residual-in_err-pass_rows.ensures.1 in
    rw (p.1, p.2) (record { notes = notes-rows _ _ _ _ c.width-w.ensures.0 c.if-w-spot.false c.in_ok-pass_row.ensures c.in_err-pass_rows.ensures; fit = tt })

pub returns : goal.returns
returns c =
    record {
      notes = notes_are _ _ _ _ c.width-w.ensures.0 c.if-w-spot.false c.in_ok-pass_row.ensures c.in_ok-pass_rows.ensures;
      fit = (omega (arith, c.width-w.ensures.1), omega (arith, c.width-w.ensures.1), omega arith);
    }
