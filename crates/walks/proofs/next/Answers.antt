-- `walks::next` meets its contract.
use Rattle.walks.proofs.next.Goals as goal

pub overflow_sub-result : goal.overflow_sub-result
overflow_sub-result c = rw c.if-back.true at c.requires

pub overflow_add-result : goal.overflow_add-result
overflow_add-result c = record { fits = rw c.if-back.false at c.requires }

pub returns-then-back : goal.returns-then-back
returns-then-back c = rw c.if-back.true

pub returns-else-back : goal.returns-else-back
returns-else-back c = rw c.if-back.false
