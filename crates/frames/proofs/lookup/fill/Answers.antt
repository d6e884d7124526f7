-- `frames::lookup::fill` meets its contract.
use mathlib.Core.Path.{sym, ap, ◌∙◌}
use native.Mathlib.Omega.{arith}
use lib.ListN.{set}
use Rattle.model.specs.declared.Rect.{Rect}
use mathlib.Core.List.{List}
use Rattle.frames.proofs.lookup.FirstLaws.{filled, filled_none, filled_next}
use Rattle.frames.proofs.lookup.fill.Goals as goal

pub loop-i-init : goal.loop-i-init
loop-i-init c = (omega arith, sym (filled_none c.args.run.now c.args.rects.numbers.now))

pub loop-i-preserved : goal.loop-i-preserved
loop-i-preserved c =
    let l = c.loop-i in
    let old = c.args.run.now in
    let d = c.args.rects.numbers.now in (
      omega (arith, c.loop-i-test.true),
      ap (λ (t : List Rect). set t l.i c.at.result) l.invariant.1
          ∙ ap (set (filled old d l.i) l.i) c.at.ensures
          ∙ filled_next old d l.i (omega (arith, c.loop-i-test.true, c.requires)),
    )
