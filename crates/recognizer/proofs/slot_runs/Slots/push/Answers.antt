-- `recognizer::slot_runs::Slots::push` meets its contract.
use mathlib.Core.Path.{refl, ap}
use Prim.Native.Nat.{ℕ, ◌+◌}
use native.Mathlib.Omega.{arith}
use Rattle.recognizer.proofs.slot_runs.SpeltLaws.{appended_one}
use Rattle.recognizer.proofs.slot_runs.Slots.push.Goals as goal

pub returns : goal.returns
returns c =
    λ texts t n.
    appended_one t c.put_slot.ensures refl n.text refl (ap (λ (k : ℕ). c.args.self.now.filled.bytes + k) n.size) n.inside (omega (arith, n.size, n.short))
