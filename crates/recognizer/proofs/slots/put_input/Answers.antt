-- `recognizer::slots::put_input` meets its contract.
use Rattle.std.specs.Prelude.{None, Some}
use mathlib.Core.Path.{refl, sym, ap}
use mathlib.Core.List.{[], ◌∷◌}
use native.Mathlib.Omega.{arith}
use Rattle.lists.proofs.Tests.{choose_off}
use Rattle.clauses.specs.Spelled.{whole}
use Rattle.recognizer.specs.slot_runs.Spelt.{HasRoom, Appended}
use Rattle.recognizer.proofs.slot_runs.SpeltLaws.{appended_then, appended_text, optional_on, room_next}
use Rattle.recognizer.specs.slots.ShapedTexts.{bytes_of, on_sheet}
use Rattle.recognizer.proofs.slots.put_input.Goals as goal
use Rattle.recognizer.proofs.slots.put_input.Goals.{After-put_part}

-- the expression is written
written : (c : After-put_part) → let f = c.args.shaped in
    Appended (bytes_of f) c.args.out.now c.put_part.new.self (on_sheet (λ text plane s. whole text plane 0 c.args.i) f ∷ [])
written c =
    let p = c.part_at-p.ensures in
    appended_text (c.put_part.ensures (bytes_of c.args.shaped) p.inside) (ap Some p.text)

room-behind : (c : After-put_part) → HasRoom c.put_part.new.self 1
room-behind c = room_next c.requires (written c) refl (omega arith)

pub put_optional-requires : goal.put_optional-requires
put_optional-requires c = room-behind (goal.at.put_optional-requires c).After-put_part

pub returns-then-s : goal.returns-then-s
returns-then-s c =
    let v = c.part_at-v.ensures in
    let e = rw c.saturating_sub.ensures at v.text in
    appended_then (written (goal.at.returns-then-s c).After-put_part) (appended_text (c.put_optional.ensures (bytes_of c.args.shaped) v.inside) (optional_on None e c.if-s.true))

pub put_absent-requires : goal.put_absent-requires
put_absent-requires c = room-behind (goal.at.put_absent-requires c).After-put_part

pub returns-else-s : goal.returns-else-s
returns-else-s c =
    appended_then (written (goal.at.returns-else-s c).After-put_part) (appended_text (c.put_absent.ensures (bytes_of c.args.shaped)) (sym (choose_off _ _ _ c.if-s.false)))
