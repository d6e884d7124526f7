-- `reports::outcome_lines::put_outcome` meets its contract.
use mathlib.Core.Path.{sym, ap, subst}
use Rattle.print.proofs.WrittenLaws.{written_as, written_within}
use Rattle.reports.specs.outcome_lines.Outcomes.{outcome_lines, OutcomeSound}
use native.Mathlib.Omega.{arith}
use Rattle.reports.proofs.outcome_lines.put_outcome.Goals as goal
use Rattle.std.specs.Prelude.{ℕ}
use Rattle.model.specs.Refusals.{Reading}

pub put_record-requires : goal.put_record-requires
put_record-requires g c =
    (search arith, (omega (arith, c.requires.0, c.requires.1), subst (λ (o : Reading ℕ). OutcomeSound o c.args.bytes.now) c.in-Ok.is c.requires.2))

pub returns-in-Ok : goal.returns-in-Ok
returns-in-Ok g c =
    written_within (written_as c.put_record.ensures (ap (λ (o : Reading ℕ). outcome_lines o c.args.bytes.now) (sym c.in-Ok.is))) (omega (arith, c.requires.1))

pub returns-in-Err : goal.returns-in-Err
returns-in-Err g c =
    written_within (written_as c.put_refusal.ensures (ap (λ (o : Reading ℕ). outcome_lines o c.args.bytes.now) (sym c.in-Err.is))) (omega arith)
