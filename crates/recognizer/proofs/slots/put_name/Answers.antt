-- `recognizer::slots::put_name` meets its contract.
use mathlib.Core.Path.{◌≡◌, sym}
use Prim.Native.Nat.{◌+◌}
use Rattle.lists.proofs.Tests.{choose_off}
use Rattle.clauses.specs.Spelled.{cell_text, names_row}
use Rattle.recognizer.specs.slot_runs.Spelt.{part_of}
use Rattle.recognizer.proofs.slot_runs.SpeltLaws.{appended_text, optional_on}
use Rattle.recognizer.specs.slots.ShapedTexts.{bytes_of, on_sheet}
use Rattle.recognizer.proofs.slots.put_name.Goals as goal
use Rattle.recognizer.proofs.slots.put_name.Goals.{After-part_at-p}

-- the part is the name's
named : (c : After-part_at-p) → let f = c.args.shaped in
    part_of (bytes_of f) c.part_at-p.result ≡ on_sheet (λ text plane s. cell_text text plane (names_row text plane s) (s.inputs + 1 + c.args.j)) f
named c = rw c.names_row.ensures at c.part_at-p.ensures.text

pub returns-then-s : goal.returns-then-s
returns-then-s c =
    appended_text (c.put_optional.ensures (bytes_of c.args.shaped) c.part_at-p.ensures.inside) (optional_on _ (named (goal.at.returns-then-s c).After-part_at-p) c.if-s.true)

pub returns-else-s : goal.returns-else-s
returns-else-s c = appended_text c.put_label.ensures (sym (choose_off _ _ _ c.if-s.false))
