-- `values::utils::split_values` meets its contract.
use Rattle.std.proofs.Common.{rules}
use Rattle.values.specs.utils.Split.{split_of, scratch_of}
use Rattle.values.proofs.utils.split_values.Goals as goal

pub returns-in_err-map_err-clause-answer : goal.returns-in_err-map_err-clause-answer
unfolding split_of
returns-in_err-map_err-clause-answer c = search rules

pub returns-in_err-map_err-clause-scratch : goal.returns-in_err-map_err-clause-scratch
unfolding scratch_of
returns-in_err-map_err-clause-scratch c = search rules

pub returns-clause-answer : goal.returns-clause-answer
unfolding split_of
returns-clause-answer c = search rules

pub returns-clause-scratch : goal.returns-clause-scratch
unfolding scratch_of
returns-clause-scratch c = search rules
