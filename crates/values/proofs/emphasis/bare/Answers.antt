-- `values::emphasis::bare` meets its contract.
use native.Mathlib.Omega.{arith}
use Rattle.values.proofs.emphasis.Stripping.{start_less, bare_mark}
use Rattle.values.proofs.emphasis.bare.Goals as goal

pub overflow_sub-from : goal.overflow_sub-from
overflow_sub-from c = omega (arith, start_less _ _ c.strip_start-left.ensures)

pub returns : goal.returns
returns c = bare_mark _ _ c.strip_start-left.ensures c.strip_end.ensures
