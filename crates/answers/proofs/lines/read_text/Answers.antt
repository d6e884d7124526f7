-- `answers::lines::read_text` meets its contract.
use mathlib.Core.Path.{◌∙◌}
use Rattle.answers.proofs.lines.Reading.{text_bad, text-read, count_small}
use native.Mathlib.Omega.{arith}
use Rattle.answers.proofs.lines.read_text.Goals as goal

pub returns-in_err-count : goal.returns-in_err-count
returns-in_err-count g c = rw c.from_residual.ensures (text_bad _ c.find-end.ensures c.in_err-count.ensures)

pub read_bytes-requires : goal.read_bytes-requires
read_bytes-requires g c = (search arith, count_small _ c.find-end.ensures c.in_ok-count.ensures)

pub returns : goal.returns
returns g c = text-read _ c.find-end.ensures c.in_ok-count.ensures ∙ c.read_bytes.ensures
