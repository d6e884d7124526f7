-- `recognizer::slot_runs::Slots::put_rewritten` meets its contract.
use Rattle.std.specs.Prelude.{Some}
use mathlib.Core.Path.{refl}
use Rattle.values.specs.Values.{values_of}
use Rattle.recognizer.specs.slot_runs.Spelt.{part_of}
use Rattle.recognizer.proofs.slot_runs.Slots.put_rewritten.Goals as goal

pub returns : goal.returns
returns c =
    λ bytes i e.
    c.push.ensures bytes (Some (values_of (part_of bytes c.args.p)).allowed) (record { text = refl; size = e; inside = i.inside; short = c.requires.1 })
