-- `scan::line_checks::line_end` meets its contract.
use mathlib.Core.Path.{◌≡◌, refl, sym, ◌∙◌}
use native.Mathlib.Omega.{arith}
use lib.ListN.{drop}
use Rattle.characters.specs.utf8.Utf8.{decode}
use Rattle.characters.specs.utf8.Passed.{code_of}
use Rattle.characters.specs.declared.utf8.Decoded.TheVariants.{Char}
use Rattle.characters.proofs.utf8.Utf8Laws.{codes_bad}
use Rattle.characters.proofs.utf8.RareLaws.{bad_bytes, told_bytes}
use Rattle.scan.proofs.line_checks.LinePassing.{pass-start, pass_fits, pass-more, pass_feed, pass_stop, pass_end}
use Rattle.scan.proofs.line_checks.PlainLaws.{pass-plain, feed_here, no_feed_here}
use Rattle.scan.proofs.line_checks.line_end.Goals as goal
use Rattle.scan.proofs.line_checks.line_end.Goals.{In-Some}

pub loop-p-init : goal.loop-p-init
loop-p-init c = let e = c.skip_plain-p.ensures in pass-plain e.0 e.1 e.2 (pass-start _ _ c.requires)

pub returns-in_default : goal.returns-in_default
returns-in_default c = let w = pass_stop c.loop-p.invariant (codes_bad _ (bad_bytes c.args.s.now c.loop-p.p c.loop-p-test.true (sym c.in_default.is ∙ c.passed.ensures))) in record { next = w.0; valid = w.1 }

-- a code point
char : (c : In-Some) → decode (drop c.loop-p.p c.args.s.now) ≡ Char (code_of (decode (drop c.loop-p.p c.args.s.now))) c.in-Some.n
char c = told_bytes (drop c.loop-p.p c.args.s.now) _ (sym c.in-Some.is ∙ c.passed.ensures)

pub returns-then-s-p-eq10 : goal.returns-then-s-p-eq10
returns-then-s-p-eq10 c = let w = pass_feed c.loop-p.invariant (feed_here c.args.s.now c.loop-p.p c.loop-p-test.true c.if-s-p-eq10.true) refl in record { next = w.0; valid = w.1 }

pub skip_some-p-requires : goal.skip_some-p-requires
skip_some-p-requires c =
    (pass_fits c.loop-p.invariant (char (goal.at.skip_some-p-requires c).In-Some)).1

pub loop-p-smaller : goal.loop-p-smaller
loop-p-smaller c =
    omega (arith, c.skip_some-p.ensures.0, (pass_fits c.loop-p.invariant (char (goal.at.loop-p-smaller c).In-Some)).0, c.loop-p-test.true)

pub loop-p-preserved : goal.loop-p-preserved
loop-p-preserved c =
    let e = c.skip_some-p.ensures in
    let d = char (goal.at.loop-p-preserved c).In-Some in
    pass-plain e.0 e.1 e.2 (pass-more c.loop-p.invariant d (no_feed_here c.args.s.now c.loop-p.p c.loop-p-test.true c.if-s-p-eq10.false d))

pub returns : goal.returns
returns c = let w = pass_end c.loop-p.invariant c.loop-p-test.false in record { next = w.0; valid = w.1 }
