-- `clauses::notes_at` meets its contract.
use native.Mathlib.Omega.{arith}
use Rattle.clauses.proofs.ShapeLaws.{no_notes}
use Rattle.clauses.proofs.notes_at.Goals as goal

pub notes_behind-requires : goal.notes_behind-requires
notes_behind-requires c =
    let w = rw c.in-Some.is at c.requires.0 in
    (w.0, omega (arith, w.1, c.requires.1))

pub returns-in-Some : goal.returns-in-Some
returns-in-Some c =
    let e = c.in-Some.is in
    let w = rw e at c.requires.0 in
    record { notes = rw e c.notes_behind.ensures.notes; fit = rw w.1 at c.notes_behind.ensures.fit }

pub returns-in-None : goal.returns-in-None
returns-in-None c =
    record { notes = rw c.in-None.is (no_notes _ _); fit = (omega (arith, c.requires.1), omega arith, omega arith) }
