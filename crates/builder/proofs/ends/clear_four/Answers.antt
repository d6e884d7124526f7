-- `builder::ends::clear_four` meets its contract.
use Rattle.std.proofs.Common.{◌∙◌}
use Rattle.lists.proofs.Filling.{filled-zeros}
use Rattle.builder.proofs.ends.clear_four.Goals as goal

pub returns : goal.returns
returns c =
    (c.fill.ensures ∙ filled-zeros _, c.fill-2.ensures ∙ filled-zeros _, c.fill-3.ensures ∙ filled-zeros _, c.fill-4.ensures ∙ filled-zeros _)
