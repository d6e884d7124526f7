-- `recognizer::tables::put_name` meets its contract.
use native.Mathlib.Omega.{arith}
use Rattle.recognizer.proofs.tables.NameLaws.{name_part, name_absent}
use Rattle.recognizer.proofs.tables.put_name.Goals as goal

pub bounds-spans-0 : goal.bounds-spans-0
bounds-spans-0 c = omega (arith, c.requires.0 c.if-named.true, c.args.texts.held.two_each)

pub bounds-spans-1 : goal.bounds-spans-1
bounds-spans-1 c = omega (arith, c.requires.0 c.if-named.true, c.args.texts.held.two_each)

pub bounds-spans-1-then-named : goal.bounds-spans-1-then-named
bounds-spans-1-then-named c = omega (arith, c.requires.0 c.if-named.true, c.args.texts.held.two_each)

pub returns-then-named : goal.returns-then-named
returns-then-named c = name_part c.if-named.true c.put_slot.ensures

pub returns : goal.returns
returns c = name_absent c.if-named.false c.put_slot-2.ensures
