-- `recognizer::slot_runs::Slots::put_part` meets its contract.
use Rattle.std.specs.Prelude.{Some}
use mathlib.Core.Path.{refl, sym}
use native.Mathlib.Omega.{arith}
use Rattle.recognizer.specs.slot_runs.Spelt.{part_of}
use Rattle.recognizer.proofs.slot_runs.SpeltLaws.{part_length}
use Rattle.recognizer.proofs.slot_runs.Slots.put_part.Goals as goal

pub returns : goal.returns
returns c =
    λ bytes i.
    let p = c.args.p in
    c.push.ensures bytes (Some (part_of bytes p)) (record { text = refl; size = sym (part_length bytes p i); inside = i.inside; short = omega (arith, i.inside, i.few) })
