-- `plane::rule_numbers::count_numbers` meets its contract.
use mathlib.Core.Path.{◌∙◌}
use Rattle.std.proofs.lemmas.Result.{err_from_is_err_and}
use Rattle.lists.proofs.OptionLaws.{there, missing}
use Rattle.plane.proofs.rule_numbers.HeldLaws.{line_numbered}
use Rattle.plane.proofs.rule_numbers.CountLaws.{count-start, count_missing, count_other, count_wrong, count_on, count_end}
use native.Mathlib.Omega.{arith}
use Rattle.plane.proofs.rule_numbers.count_numbers.Goals as goal

pub loop-k-init : goal.loop-k-init
loop-k-init c = count-start _ _ _ _ _ c.requires.1

pub returns-in_err-c : goal.returns-in_err-c
returns-in_err-c c =
    let p = err_from_is_err_and c.from_residual.result c.from_residual.ensures.1 in
    let m = missing c.slot_at.result _ c.in_err-c.ensures.value in
    rw (p.1, p.2, m.1) (count_missing c.loop-k.invariant (omega arith) (m.0 ∙ c.slot_at.ensures))

pub number_in-requires : goal.number_in-requires
number_in-requires c =
    let e = there c.slot_at.result _ c.in_ok-c.ensures.value ∙ c.slot_at.ensures in
    line_numbered c.requires.0 _ _ (omega arith) e

pub returns-in_default : goal.returns-in_default
returns-in_default c =
    let e = there c.slot_at.result _ c.in_ok-c.ensures.value ∙ c.slot_at.ensures in
    count_other c.loop-k.invariant (omega arith) _ e c.in_default.ensures

pub returns-then-x-m : goal.returns-then-x-m
returns-then-x-m c =
    let e = there c.slot_at.result _ c.in_ok-c.ensures.value ∙ c.slot_at.ensures in
    count_wrong c.loop-k.invariant (omega arith) _ e _ c.in-Some.ensures c.if-x-m.true

pub loop-k-preserved : goal.loop-k-preserved
loop-k-preserved c =
    let e = there c.slot_at.result _ c.in_ok-c.ensures.value ∙ c.slot_at.ensures in
    count_on c.loop-k.invariant (omega arith) _ e _ c.in-Some.ensures c.if-x-m.false

pub returns : goal.returns
returns c = count_end c.loop-k.invariant c.loop-k-test.false
