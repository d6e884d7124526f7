-- `model::Rect::contains` meets its contract.
use borrow.Author.Tests.{lt-leb}
use mathlib.Core.Bool.{and-false}
use Rattle.model.proofs.RectLaws.{contains_last}
use Rattle.model.proofs.Rect.contains.Goals as goal

pub returns-then-other-self : goal.returns-then-other-self
returns-then-other-self c = simp (lt-leb _ _ c.if-other-self.true)

pub returns-then-other-self-2 : goal.returns-then-other-self-2
returns-then-other-self-2 c = simp (lt-leb _ _ c.if-other-self-2.true, and-false)

pub returns-then-self-other : goal.returns-then-self-other
returns-then-self-other c = simp (lt-leb _ _ c.if-self-other.true, and-false)

pub returns : goal.returns
returns c = let a = c.args in contains_last a.self a.other c.if-other-self.false c.if-other-self-2.false c.if-self-other.false
