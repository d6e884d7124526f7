-- `characters::utf8::more` meets its contract.
use mathlib.Core.Path.{sym}
use native.Mathlib.Omega.{arith}
use Rattle.characters.proofs.utf8.MoreLaws.{following_start, following_end, following_below, following_above, following_more, followed}
use Rattle.characters.proofs.utf8.Utf8Laws.{more_end, more_below, more_above}
use borrow.Author.Rules.{rules}
use Rattle.characters.proofs.utf8.more.Goals as goal

pub returns-then-s-at : goal.returns-then-s-at
returns-then-s-at c = let a = c.args in sym (more_end _ _ _ _ _ a.s.now a.at (search rules))

pub returns-then-b-lo : goal.returns-then-b-lo
returns-then-b-lo c = let a = c.args in sym (more_below _ _ _ _ _ a.s.now a.at (search rules) c.if-b-lo.true)

pub returns-then-hi-b : goal.returns-then-hi-b
returns-then-hi-b c = let a = c.args in sym (more_above _ _ _ _ _ a.s.now a.at (search rules) c.if-hi-b.true)

pub loop-k-init : goal.loop-k-init
loop-k-init c =
    let a = c.args in
    let r = c.requires in
    following_start a.s.now a.at a.lo a.hi a.code a.n a.left (search rules) c.if-b-lo.false c.if-hi-b.false r.0 r.1 r.2 r.3

pub returns-then-s-p : goal.returns-then-s-p
returns-then-s-p c = following_end c.loop-k.invariant c.loop-k-test.true (search rules)

pub returns-then-c-lt128 : goal.returns-then-c-lt128
returns-then-c-lt128 c = following_below c.loop-k.invariant c.loop-k-test.true (search rules) (search rules)

pub returns-then-c-gt191 : goal.returns-then-c-gt191
returns-then-c-gt191 c = following_above c.loop-k.invariant c.loop-k-test.true (search rules) (search rules)

pub loop-k-preserved : goal.loop-k-preserved
loop-k-preserved c = following_more c.loop-k.invariant c.loop-k-test.true (search rules) (search rules) (search rules)

pub returns : goal.returns
returns c = followed c.loop-k.invariant c.loop-k-test.false
