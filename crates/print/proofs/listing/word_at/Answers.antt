-- `print::listing::word_at` meets its contract.
use Rattle.record.specs.Compared.{word_at}
use native.Mathlib.Omega.{arith}
use Rattle.print.proofs.listing.word_at.Goals as goal

pub returns : goal.returns
unfolding word_at
returns c = omega arith
