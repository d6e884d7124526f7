-- `frames::lookup::put_number` meets its contract.
use mathlib.Core.Path.{refl}
use native.Mathlib.Omega.{arith}
use Rattle.frames.proofs.lookup.put_number.Goals as goal

pub returns-then-size-at : goal.returns-then-size-at
returns-then-size-at c = record { put = λ l. absurd (omega (arith, c.if-size-at.true)); past = λ l. (refl, refl) }

pub returns : goal.returns
returns c =
    record { put = λ l. (refl, refl); past = λ l. absurd (omega (arith, c.if-size-at.false)) }
