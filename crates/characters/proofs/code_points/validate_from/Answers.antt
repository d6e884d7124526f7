-- `characters::code_points::validate_from` meets its contract.
use mathlib.Core.Path.{◌≡◌, refl, sym, ◌∙◌}
use Prim.Native.Nat.{◌+◌, ◌≤◌}
use native.Mathlib.Omega.{arith}
use borrow.Author.Rules.{rules}
use lib.ListN.{length, drop}
use Rattle.characters.specs.declared.utf8.Decoded.TheVariants.{Char}
use Rattle.characters.specs.utf8.Utf8.{decode}
use Rattle.characters.specs.utf8.Passed.{code_of}
use Rattle.characters.proofs.utf8.Utf8Laws.{char_fits, check-at, check_bad, check_end}
use Rattle.characters.proofs.utf8.RareLaws.{bad_bytes, told_bytes}
use Rattle.characters.proofs.code_points.validate_from.Goals as goal
use Rattle.characters.proofs.code_points.validate_from.Goals.{In-Some}

pub loop-at-init : goal.loop-at-init
loop-at-init c = refl

pub returns-in_default : goal.returns-in_default
returns-in_default c =
    sym (c.loop-at.invariant ∙ check_bad c.loop-at.at _ (bad_bytes c.args.s.now c.loop-at.at c.loop-at-test.true (sym c.in_default.is ∙ c.passed.ensures)))

-- a code point
module _ (c : In-Some) where
  char : decode (drop c.loop-at.at c.args.s.now) ≡ Char (code_of (decode (drop c.loop-at.at c.args.s.now))) c.in-Some.n
  char = told_bytes (drop c.loop-at.at c.args.s.now) _ (sym c.in-Some.is ∙ c.passed.ensures)

  fits : (1 ≤ c.in-Some.n) × (c.loop-at.at + c.in-Some.n ≤ length c.args.s.now)
  fits = char_fits c.args.s.now c.loop-at.at _ c.in-Some.n char (search rules)

pub overflow_add-at : goal.overflow_add-at
overflow_add-at c = omega (arith, fits (goal.at.overflow_add-at c).In-Some)

pub loop-at-smaller : goal.loop-at-smaller
loop-at-smaller c = omega (arith, fits (goal.at.loop-at-smaller c).In-Some)

pub loop-at-preserved : goal.loop-at-preserved
loop-at-preserved c =
    c.loop-at.invariant ∙ check-at c.args.s.now c.loop-at.at _ c.in-Some.n (char (goal.at.loop-at-preserved c).In-Some) (search rules)

pub returns : goal.returns
returns c = sym (c.loop-at.invariant ∙ check_end _ c.loop-at.at (search rules))
