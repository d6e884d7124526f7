-- `plane::rule_numbers::count_behind` meets its contract.
use Rattle.std.proofs.lemmas.Result.{err_from_is_err_and}
use Rattle.plane.proofs.rule_numbers.count_behind.Goals as goal

pub count_numbers-requires : goal.count_numbers-requires
count_numbers-requires c = (c.requires, c.in_ok-k.ensures.inside)

pub returns : goal.returns
returns c = rw (← c.in_ok-k.ensures.place) c.count_numbers.ensures

pub returns-in_err-k : goal.returns-in_err-k
returns-in_err-k c =
    let p = err_from_is_err_and c.from_residual.result c.from_residual.ensures.1 in
    rw (p.1, p.2, ← c.in_err-k.ensures.place)
