-- `replay::answer_lines` meets its contract.
use mathlib.Core.Path.{refl}
use Rattle.replay.proofs.Replaying.{answering_start, answering_more, answering_stop, answering_last, answering_full, answering_end}
use native.Mathlib.Omega.{arith}
use Rattle.replay.proofs.answer_lines.Goals as goal

pub loop-at-init : goal.loop-at-init
loop-at-init g c = answering_start c.clear.ensures

pub returns-then-end-input : goal.returns-then-end-input
returns-then-end-input g c =
    let e = answering_last c.loop-at.invariant c.find-end.ensures c.if-end-input.true in record { replayed = e.0; result_in_bounds = e.1.0; stopped = e.1.1 }

pub returns-then-remaining_capacity-lt-LINE_BYTES : goal.returns-then-remaining_capacity-lt-LINE_BYTES
returns-then-remaining_capacity-lt-LINE_BYTES g c =
    let e = answering_full c.loop-at.invariant (omega (arith, c.remaining_capacity.ensures, c.if-remaining_capacity-lt-LINE_BYTES.true)) in record { replayed = e.0; result_in_bounds = e.1.0; stopped = e.1.1 }

pub answer_line-requires : goal.answer_line-requires
answer_line-requires g c = omega (arith, c.remaining_capacity.ensures, c.if-remaining_capacity-lt-LINE_BYTES.false)

pub loop-at-preserved : goal.loop-at-preserved
loop-at-preserved g c =
    answering_more c.loop-at.invariant _ _ _ c.answer_line.ensures c.find-end.ensures refl (omega (arith, c.find-end.ensures.high, c.if-end-input.false)) c.in-Some.is

pub returns-in-None : goal.returns-in-None
returns-in-None g c =
    let e = answering_stop c.loop-at.invariant _ _ _ c.answer_line.ensures c.find-end.ensures refl c.in-None.is in record { replayed = e.0; result_in_bounds = e.1.0; stopped = e.1.1 }

pub returns : goal.returns
returns g c =
    let e = answering_end c.loop-at.invariant c.loop-at-test.false in record { replayed = e.0; result_in_bounds = e.1.0; stopped = e.1.1 }
