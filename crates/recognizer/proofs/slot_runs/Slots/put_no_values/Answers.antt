-- `recognizer::slot_runs::Slots::put_no_values` meets its contract.
use mathlib.Core.Path.{refl}
use mathlib.Core.List.{[]}
use native.Mathlib.Omega.{arith}
use Rattle.recognizer.proofs.slot_runs.SpeltLaws.{room_next, appended_then}
use Rattle.recognizer.proofs.slot_runs.Slots.put_no_values.Goals as goal

pub put_absent-requires-2 : goal.put_absent-requires-2
put_absent-requires-2 c = room_next c.requires (c.put_absent.ensures []) refl (omega arith)

pub returns : goal.returns
returns c = λ bytes. appended_then (c.put_absent.ensures bytes) (c.put_absent-2.ensures bytes)
