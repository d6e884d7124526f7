-- `characters::white_space::codes_end` meets its contract. The invariant: what is trimmed from the end is the same up to `i`.
use mathlib.Core.Path.{◌≡◌, sym, ap, ◌∙◌}
use Prim.Native.Nat.{ℕ, ◌+◌, ◌-◌, ◌≤◌}
use borrow.Author.Rules.{rules}
use native.Mathlib.Nat.{le_refl}
use native.Mathlib.Omega.{arith}
use mathlib.Core.List.{List}
use lib.ListN.{length, drop, length-drop}
use Rattle.lists.proofs.Parts.{part_end}
use Rattle.characters.specs.white_space.Trim.{trim_end}
use Rattle.characters.proofs.white_space.TrimLaws.{end_white, end_dark, end_none}
use Rattle.characters.proofs.white_space.codes_end.Goals as goal

whole : (s : List ℕ) (from : ℕ) → from ≤ length s → from + length (drop from s) ≡ length s
whole s from h = omega (arith, length-drop from s)

pub loop-i-init : goal.loop-i-init
loop-i-init c = (search rules, search rules, ap trim_end (sym (part_end c.args.s.now c.args.from)))

pub loop-i-preserved : goal.loop-i-preserved
loop-i-preserved c =
    let a = c.args in
    (omega (arith, c.loop-i-test.true), omega (arith, c.loop-i.auto.i), c.loop-i.invariant.2 ∙ end_white a.s.now a.from c.loop-i.i (search rules) (search rules) (sym c.white_code.ensures ∙ c.if-not-white_code.false))

pub returns-then-not-white_code : goal.returns-then-not-white_code
returns-then-not-white_code c =
    let a = c.args in
    let e : c.loop-i.i - 1 + 1 ≡ c.loop-i.i = omega (arith, c.loop-i-test.true) in
    rw e (record {
      low = le_refl _;
      ordered = search rules;
      high = search rules;
      start = whole _ _ c.requires;
      text = sym (c.loop-i.invariant.2 ∙ end_dark a.s.now a.from c.loop-i.i (search rules) (search rules) (sym c.white_code.ensures ∙ c.if-not-white_code.true));
    })

pub returns : goal.returns
returns c =
    let a = c.args in
    let e : c.loop-i.i ≡ a.from = omega (arith, c.loop-i-test.false, c.loop-i.invariant.0) in
    record { low = le_refl _; ordered = search rules; high = search rules; start = whole _ _ c.requires; text = sym (rw e at (c.loop-i.invariant.2 ∙ end_none a.s.now a.from c.loop-i.i (search rules))) }
