-- `walks::has_bit` meets its contract.
use mathlib.Core.Path.{sym}
use native.Mathlib.Omega.{arith}
use Rattle.walks.proofs.SetLaws.{bit_below, bit_above, bit_in}
use Rattle.walks.proofs.has_bit.Goals as goal

pub returns-then-code-first : goal.returns-then-code-first
returns-then-code-first c = sym (bit_below c.args.bits c.args.first c.args.code c.if-code-first.true)

pub returns-then-k-ge64 : goal.returns-then-k-ge64
returns-then-k-ge64 c =
    let a = c.args in
    sym (bit_above a.bits a.first a.code c.if-code-first.false (omega (arith, c.if-k-ge64.true)))

pub returns : goal.returns
returns c =
    let a = c.args in
    sym (bit_in a.bits a.first a.code c.if-code-first.false (omega (arith, c.if-k-ge64.false)))
