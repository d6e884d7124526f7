-- `values::utils::split_text` meets its contract.
use Rattle.values.proofs.utils.Answers.{answer_rewritten, answer_short}
use Rattle.values.proofs.utils.split_text.Goals as goal

pub returns-then-scratch-bytes-clause-answer : goal.returns-then-scratch-bytes-clause-answer
returns-then-scratch-bytes-clause-answer c = answer_short c.in-Some.ensures c.args.scratch.now c.measure-bytes.ensures c.if-scratch-bytes.true

pub returns-clause-answer : goal.returns-clause-answer
returns-clause-answer c =
    answer_rewritten c.in-Some.ensures c.args.scratch.now c.measure-bytes.ensures c.if-scratch-bytes.false c.rewrite.ensures.out_after
