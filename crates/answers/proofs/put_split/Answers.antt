-- `answers::put_split` meets its contract.
use Rattle.std.specs.Prelude.{Ok}
use mathlib.Core.Path.{ap, sym, ◌∙◌}
use Rattle.values.specs.utils.Split.{answered}
use Rattle.answers.specs.SplitLines.{printed}
use Rattle.print.proofs.WrittenLaws.{written_as, written_within}
use Rattle.answers.proofs.SplitLaws.{places, printed-values, parts_most}
use native.Mathlib.Omega.{arith}
use Rattle.answers.proofs.put_split.Goals as goal

pub slice_bounds-put_values-end : goal.slice_bounds-put_values-end
slice_bounds-put_values-end g c = omega (arith, (places _ _ _ c.requires.3 (c.in-Ok-Some.is ∙ ap Ok (rw c.in-Ok-Some.is at c.in-Ok-Some.field-0-is))).0)

pub slice_bounds-put_values-count-in-Ok-Some : goal.slice_bounds-put_values-count-in-Ok-Some
slice_bounds-put_values-count-in-Ok-Some g c = omega (arith, (places _ _ _ c.requires.3 (c.in-Ok-Some.is ∙ ap Ok (rw c.in-Ok-Some.is at c.in-Ok-Some.field-0-is))).1)

pub slice_bounds-put_values-start-in-Ok-Some : goal.slice_bounds-put_values-start-in-Ok-Some
slice_bounds-put_values-start-in-Ok-Some g c = omega (arith, (places _ _ _ c.requires.3 (c.in-Ok-Some.is ∙ ap Ok (rw c.in-Ok-Some.is at c.in-Ok-Some.field-0-is))).1)

pub slice_bounds-put_values-end-in-Ok-Some : goal.slice_bounds-put_values-end-in-Ok-Some
slice_bounds-put_values-end-in-Ok-Some g c = omega (arith, (places _ _ _ c.requires.3 (c.in-Ok-Some.is ∙ ap Ok (rw c.in-Ok-Some.is at c.in-Ok-Some.field-0-is))).2)

pub put_values-requires : goal.put_values-requires
put_values-requires g c =
    omega (arith, c.requires, parts_most _ c.args.text.now c.args.scratch.now (c.in-Ok-Some.is ∙ ap Ok (rw c.in-Ok-Some.is at c.in-Ok-Some.field-0-is)))

pub returns-in-Ok-None : goal.returns-in-Ok-None
returns-in-Ok-None g c =
    written_within (written_as c.put_word.ensures (sym (ap (λ s. printed (answered s c.args.text.now c.args.scratch.now)) (c.in-Ok-None.is ∙ ap Ok (rw c.in-Ok-None.is at c.in-Ok-None.field-0-is))))) (omega arith)

pub returns-in-Ok-Some : goal.returns-in-Ok-Some
returns-in-Ok-Some g c =
    written_within (written_as c.put_values.ensures (printed-values _ c.args.text.now c.args.scratch.now (c.in-Ok-Some.is ∙ ap Ok (rw c.in-Ok-Some.is at c.in-Ok-Some.field-0-is))))
    (omega (arith, c.requires, parts_most _ c.args.text.now c.args.scratch.now (c.in-Ok-Some.is ∙ ap Ok (rw c.in-Ok-Some.is at c.in-Ok-Some.field-0-is))))

pub returns-in-Err : goal.returns-in-Err
returns-in-Err g c =
    written_within (written_as c.put_refusal.ensures (sym (ap (λ s. printed (answered s c.args.text.now c.args.scratch.now)) c.in-Err.is))) (omega arith)
