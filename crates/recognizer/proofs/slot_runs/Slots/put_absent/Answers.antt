-- `recognizer::slot_runs::Slots::put_absent` meets its contract.
use Rattle.std.specs.Prelude.{None}
use mathlib.Core.Path.{refl}
use native.Mathlib.Omega.{arith}
use Rattle.recognizer.proofs.slot_runs.Slots.put_absent.Goals as goal

pub returns : goal.returns
returns c = λ bytes. c.push.ensures bytes None (record { text = refl; size = refl; inside = omega arith; short = omega arith })
