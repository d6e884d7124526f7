-- `text_planes::texts::put_next` meets its contract.
use mathlib.Core.Path.{refl, sym, ◌∙◌}
use native.Mathlib.Omega.{arith}
use borrow.Author.Tests.{eqb-true, eqb-false}
use lib.ListN.{length}
use Rattle.text_planes.proofs.texts.NextPutting.{next-none, next_over, next-blank}
use Rattle.text_planes.proofs.texts.put_next.Goals as goal

pub returns-then-is_empty : goal.returns-then-is_empty
returns-then-is_empty c =
    let e = eqb-true (length c.args.part.now) 0 (sym c.is_empty.ensures ∙ c.if-is_empty.true) in
    next-none c.args.part.now c.args.start c.args.at (omega arith) c.requires.0

pub returns-then-at-ge-TEXT_BYTES : goal.returns-then-at-ge-TEXT_BYTES
returns-then-at-ge-TEXT_BYTES c =
    let e = eqb-false (length c.args.part.now) 0 (sym c.is_empty.ensures ∙ c.if-is_empty.false) in
    (next_over c.args.part.now c.args.start c.args.at (omega arith) c.if-start-at.true c.if-at-ge-TEXT_BYTES.true, refl)

pub returns-then-start-at : goal.returns-then-start-at
returns-then-start-at c =
    let e = eqb-false (length c.args.part.now) 0 (sym c.is_empty.ensures ∙ c.if-is_empty.false) in
    next-blank c.args.part.now c.args.start c.args.at (omega arith) c.if-start-at.true c.args.bytes.now c.put_part.new.bytes c.put_part.result (omega (arith, c.requires.1)) c.if-at-ge-TEXT_BYTES.false c.put_part.ensures
