-- `plane::rule_numbers::place_behind` meets its contract.
use mathlib.Core.Path.{sym, ◌∙◌}
use Rattle.std.proofs.lemmas.Result.{err_from_is_err_and}
use Rattle.lists.proofs.OptionLaws.{there, missing}
use Rattle.plane.proofs.rule_numbers.PlaceLaws.{look_start, look_missing, look_found, look_on, look_end}
use native.Mathlib.Omega.{arith}
use borrow.Author.Rules.{rules}
use Rattle.plane.proofs.rule_numbers.place_behind.Goals as goal

pub loop-k-init : goal.loop-k-init
loop-k-init c = look_start _ _ _ _

pub returns-in_err-c : goal.returns-in_err-c
returns-in_err-c c =
    let p = err_from_is_err_and c.from_residual.result c.from_residual.ensures.1 in
    let m = missing c.slot_at.result _ c.in_err-c.ensures.value in
    rw (p.1, p.2, m.1) (record { place = look_missing c.loop-k.invariant (omega arith) (m.0 ∙ c.slot_at.ensures); inside = tt })

pub returns-then-is_same_kind : goal.returns-then-is_same_kind
returns-then-is_same_kind c =
    let e = there c.slot_at.result _ c.in_ok-c.ensures.value ∙ c.slot_at.ensures in
    record { place = look_found c.loop-k.invariant (omega arith) _ e (sym c.if-is_same_kind.ensures); inside = omega arith }

pub loop-k-preserved : goal.loop-k-preserved
loop-k-preserved c =
    let e = there c.slot_at.result _ c.in_ok-c.ensures.value ∙ c.slot_at.ensures in
    look_on c.loop-k.invariant (omega arith) _ e (sym c.if-is_same_kind.ensures)

pub returns : goal.returns
returns c = record { place = look_end c.loop-k.invariant c.loop-k-test.false; inside = search rules }
