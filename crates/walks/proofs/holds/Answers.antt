-- `walks::holds` meets its contract: one of the two numbers has the character.
use mathlib.Core.Path.{sym, ◌∙◌}
use Rattle.walks.proofs.SetLaws.{held-light, held_double}
use Rattle.walks.proofs.holds.Goals as goal

pub returns-then-code-lt-FIRST_DOUBLE : goal.returns-then-code-lt-FIRST_DOUBLE
returns-then-code-lt-FIRST_DOUBLE c =
    let a = c.args in
    c.has_bit.ensures ∙ sym (held-light a.set a.code c.if-code-lt-FIRST_DOUBLE.true)

pub returns : goal.returns
returns c =
    let a = c.args in
    c.has_bit-2.ensures ∙ sym (held_double a.set a.code c.if-code-lt-FIRST_DOUBLE.false)
