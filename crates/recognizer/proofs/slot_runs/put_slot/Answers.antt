-- `recognizer::slot_runs::put_slot` meets its contract.
use native.Mathlib.Omega.{arith}
use lib.ListN.{length-set}
use Rattle.recognizer.proofs.slot_runs.SpeltLaws.{slot_put}
use Rattle.recognizer.proofs.slot_runs.put_slot.Goals as goal

pub bounds-slots-at-2 : goal.bounds-slots-at-2
bounds-slots-at-2 c = simp length-set (omega arith)

pub bounds-slots-at-3 : goal.bounds-slots-at-3
bounds-slots-at-3 c = simp length-set (omega arith)

pub returns : goal.returns
returns c = slot_put _ _ _ _ _ c.requires.0
