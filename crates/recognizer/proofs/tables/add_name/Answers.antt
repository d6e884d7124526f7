-- `recognizer::tables::add_name` meets its contract.
use native.Mathlib.Omega.{arith}
use Rattle.recognizer.proofs.tables.NameLaws.{NameHeld, name-light, table-named}
use Rattle.recognizer.proofs.tables.add_name.Goals as goal
use Rattle.recognizer.proofs.tables.add_name.Goals.{Start}

name-held : (c : Start) → let t = c.args.texts in NameHeld c.args.named t.bytes.now t.spans.now t.count
name-held c = record { first = c.requires.1; few = c.requires.2; texts = c.args.texts.held }

pub put_name-size-requires : goal.put_name-size-requires
put_name-size-requires c = (c.requires.1, omega (arith, c.requires.3))

pub overflow_add-result : goal.overflow_add-result
overflow_add-result c = omega (arith, name-light c.requires.0 (name-held (goal.at.overflow_add-result c).Start) c.put_name-size.ensures)

pub returns : goal.returns
returns c = table-named c.requires.0 (name-held (goal.at.returns c).Start) c.put_name-size.ensures
