-- `recognizer::slot_runs::Slots::put_values` meets its contract.
use Rattle.std.specs.Prelude.{Some}
use mathlib.Core.Path.{refl}
use mathlib.Core.List.{[], ◌∷◌}
use Prim.Native.Nat.{◌+◌, ◌≤◌}
use native.Mathlib.Omega.{arith}
use Rattle.model.specs.Limits.{text_bytes}
use Rattle.values.specs.Values.{values_of}
use Rattle.recognizer.specs.slot_runs.Spelt.{part_of, Appended}
use Rattle.recognizer.proofs.slot_runs.ValueTexts.{MarkedIn, values-none, values-plain, marked_in, default_in, values-marked}
use Rattle.recognizer.proofs.slot_runs.SpeltLaws.{appended_then, appended_as, room_next, room_less}
use Rattle.recognizer.proofs.slot_runs.Slots.put_values.Goals as goal
use Rattle.recognizer.proofs.slot_runs.Slots.put_values.Goals.{After-put_rewritten, In-Some}

-- the default is measured
marked : (c : In-Some)
    → MarkedIn c.args.bytes.now c.args.p c.in-Some.m.bytes c.in-Some.m.from c.in-Some.m.to
marked c =
    marked_in c.args.bytes.now c.args.p c.requires.1 _ (rw c.in-Some.is at c.measure_values.ensures)

-- the rewritten values are written
rewritten : (c : After-put_rewritten) → Appended c.args.bytes.now c.args.self.now c.put_rewritten.new.self
    (Some (values_of (part_of c.args.bytes.now c.args.p)).allowed ∷ [])
rewritten c = c.put_rewritten.ensures c.args.bytes.now c.requires.1 (marked_in c.args.bytes.now c.args.p c.requires.1 _ (rw c.in-Some.is at c.measure_values.ensures)).size

-- where the default lies
placed : (c : In-Some) → let a = c.args in
    (a.p.offset + c.in-Some.m.to ≤ text_bytes) × (c.in-Some.m.from ≤ c.in-Some.m.to)
placed c = let m = marked c in let i = c.requires.1 in (omega (arith, m.ends, i.inside, i.few), m.ordered)

pub returns-then-p-eq0 : goal.returns-then-p-eq0
returns-then-p-eq0 c = appended_as (c.put_no_values.ensures _) (values-none _ c.args.p c.if-p-eq0.true)

pub put_absent-requires : goal.put_absent-requires
put_absent-requires c =
    room_next c.requires.0 (c.put_part.ensures c.args.bytes.now c.requires.1) refl (omega arith)

pub put_rewritten-requires : goal.put_rewritten-requires
put_rewritten-requires c = (room_less c.requires.0 (omega arith), (marked (goal.at.put_rewritten-requires c).In-Some).few)

pub overflow_add-start : goal.overflow_add-start
overflow_add-start c = omega (arith, placed (goal.at.overflow_add-start c).In-Some)

pub overflow_cast-start-in-Some : goal.overflow_cast-start-in-Some
overflow_cast-start-in-Some c = omega (arith, placed (goal.at.overflow_cast-start-in-Some c).In-Some)

pub overflow_sub-m : goal.overflow_sub-m
overflow_sub-m c = (placed (goal.at.overflow_sub-m c).In-Some).1

pub overflow_cast-m : goal.overflow_cast-m
overflow_cast-m c = omega (arith, placed (goal.at.overflow_cast-m c).In-Some)

pub put_part-requires-in-Some : goal.put_part-requires-in-Some
put_part-requires-in-Some c = room_next c.requires.0 (rewritten (goal.at.put_part-requires-in-Some c).After-put_rewritten) refl (omega arith)

pub returns-in-None : goal.returns-in-None
returns-in-None c =
    let b = c.args.bytes.now in
    let v = values-plain b c.args.p c.requires.1 (omega (arith, c.if-p-eq0.false)) (rw c.in-None.is at c.measure_values.ensures) in
    appended_as (appended_then (c.put_part.ensures b c.requires.1) (c.put_absent.ensures b)) v

pub returns-in-Some : goal.returns-in-Some
returns-in-Some c =
    let b = c.args.bytes.now in
    let v = values-marked b c.args.p c.requires.1 (omega (arith, c.if-p-eq0.false)) (marked (goal.at.returns-in-Some c).In-Some) in
    appended_as (appended_then (rewritten (goal.at.returns-in-Some c).After-put_rewritten) (c.put_part-in-Some.ensures b (default_in b c.args.p c.requires.1 (marked (goal.at.returns-in-Some c).In-Some)))) v
