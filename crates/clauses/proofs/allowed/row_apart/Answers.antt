-- `clauses::allowed::row_apart` meets its contract.
use Rattle.std.proofs.lemmas.Result.{err_from_is_err_and}
use Rattle.clauses.proofs.allowed.MetLaws.{region_number_lem, meet_start, meet_out, meet_twice, meet_next, meet_end}
use Rattle.clauses.proofs.allowed.row_apart.Goals as goal

pub loop-i-init : goal.loop-i-init
loop-i-init c = meet_start _ _ _ _ _ _

pub is_met-requires : goal.is_met-requires
is_met-requires c = (c.requires.0, c.requires.1, c.loop-i.invariant.within)

pub returns-then-is_met : goal.returns-then-is_met
returns-then-is_met c =
    meet_twice c.loop-i.invariant c.loop-i-test.true c.in_ok-a.ensures c.is_met.ensures c.if-is_met.true

pub returns-in_err-a : goal.returns-in_err-a
returns-in_err-a c =
    let p = err_from_is_err_and c.from_residual.result c.from_residual.ensures.1 in
    rw (p.1, p.2) (meet_out c.loop-i.invariant c.loop-i-test.true c.in_err-a.ensures)

pub loop-i-preserved : goal.loop-i-preserved
loop-i-preserved c =
    meet_next c.loop-i.invariant c.loop-i-test.true c.in_ok-a.ensures c.is_met.ensures c.if-is_met.false (region_number_lem _ _ _ _ _ c.in_ok-a.ensures)

pub returns : goal.returns
returns c = meet_end c.loop-i.invariant c.loop-i-test.false
