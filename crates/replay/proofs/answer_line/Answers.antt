-- `replay::answer_line` meets its contract.
use mathlib.Core.Path.{refl}
use Rattle.replay.proofs.Replaying.{answer-is, no_kind, no_rest, answered_as}
use Rattle.replay.proofs.answer_line.Goals as goal

pub returns-then-end-line : goal.returns-then-end-line
returns-then-end-line g c = (no_rest c.find-end.ensures c.if-end-line.true, refl)

pub returns-in_err-kind : goal.returns-in_err-kind
returns-in_err-kind g c = rw c.from_residual.ensures (no_kind c.find-end.ensures c.in_err-kind.ensures, refl)

pub returns : goal.returns
returns g c = answered_as c.answer_by.result _ _ c.answer_by.ensures (answer-is c.find-end.ensures c.in_ok-kind.ensures)
