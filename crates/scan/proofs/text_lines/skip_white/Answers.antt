-- `scan::text_lines::skip_white` meets its contract.
use Rattle.characters.specs.utf8.Utf8.{decode}
use Rattle.characters.specs.declared.utf8.Decoded.TheVariants.{Char}
use Rattle.characters.proofs.utf8.Utf8Laws.{codes_bad, codes_end, codes-none}
use Rattle.scan.proofs.text_lines.LineReading.{skip_fits, skip_more, skip_feed, skip_dark, skip_stop}
use mathlib.Core.Path.{◌≡◌, refl, sym, ◌∙◌}
use native.Mathlib.Omega.{arith}
use borrow.Author.Rules.{rules}
use lib.ListN.{drop}
use Rattle.scan.proofs.text_lines.skip_white.Goals as goal
use Rattle.scan.proofs.text_lines.skip_white.Goals.{In-Char}

pub loop-p-init : goal.loop-p-init
loop-p-init c = record { along = search rules; inside = search rules; led = refl; checks = refl }

-- in the arm of a code point
char : (c : In-Char) → decode (drop c.loop-p.p c.args.s.now) ≡ Char c.in-Char.c c.in-Char.n
char c = sym c.next-d.ensures ∙ c.in-Char.is

pub returns-then-c-eq10 : goal.returns-then-c-eq10
returns-then-c-eq10 c = (search rules, search rules, skip_feed c.loop-p.invariant (char (goal.at.returns-then-c-eq10 c).In-Char) c.if-c-eq10.true, c.loop-p.invariant.checks)

pub overflow_add-p : goal.overflow_add-p
overflow_add-p c = omega (arith, skip_fits c.loop-p.invariant (char (goal.at.overflow_add-p c).In-Char))

pub loop-p-smaller : goal.loop-p-smaller
loop-p-smaller c = omega (arith, skip_fits c.loop-p.invariant (char (goal.at.loop-p-smaller c).In-Char))

pub loop-p-preserved : goal.loop-p-preserved
loop-p-preserved c = skip_more c.loop-p.invariant (char (goal.at.loop-p-preserved c).In-Char) c.if-c-eq10.false (sym c.white_space.ensures ∙ c.if-white_space.true)

pub returns-else-white_space : goal.returns-else-white_space
returns-else-white_space c = (search rules, search rules, skip_dark c.loop-p.invariant (char (goal.at.returns-else-white_space c).In-Char) c.if-c-eq10.false (sym c.white_space.ensures ∙ c.if-white_space.false), c.loop-p.invariant.checks)

pub returns-in-IllFormed : goal.returns-in-IllFormed
returns-in-IllFormed c =
    let e = codes_bad _ (sym c.next-d.ensures ∙ c.in-IllFormed.is) in
    (search rules, search rules, e ∙ skip_stop c.loop-p.invariant e, c.loop-p.invariant.checks)

pub returns-in-End : goal.returns-in-End
returns-in-End c =
    let e = codes-none _ (sym c.next-d.ensures ∙ c.in-End.is) in
    (search rules, search rules, e ∙ skip_stop c.loop-p.invariant e, c.loop-p.invariant.checks)

pub returns : goal.returns
returns c =
    let e = codes_end c.args.s.now c.loop-p.p c.loop-p-test.false in
    (search rules, search rules, e ∙ skip_stop c.loop-p.invariant e, c.loop-p.invariant.checks)
