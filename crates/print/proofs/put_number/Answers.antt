-- `print::put_number` meets its contract.
use native.Mathlib.Omega.{arith}
use Rattle.print.proofs.DecimalLaws.{decimal-width, width_most}
use Rattle.print.proofs.WrittenLaws.{written_number}
use Rattle.print.proofs.put_number.Goals as goal

pub put_word-requires : goal.put_word-requires
put_word-requires g c =
    omega (arith, decimal-width _ _ (omega arith) c.decimal-k.ensures.len, width_most c.args.n, c.decimal-k.ensures.in_bounds)

pub returns : goal.returns
returns g c =
    written_number _ _ _ (omega arith) c.decimal-k.ensures.len c.decimal-k.ensures.digits c.put_word.ensures
