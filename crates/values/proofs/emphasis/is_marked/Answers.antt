-- `values::emphasis::is_marked` meets its contract.
use mathlib.Core.Path.{◌∙◌}
use Rattle.values.proofs.emphasis.StartsWith.{both_hold, first_fails, by-start, by-end}
use Rattle.values.proofs.emphasis.is_marked.Goals as goal

pub returns-then-starts_with : goal.returns-then-starts_with
returns-then-starts_with c = both_hold _ _ (c.starts_with.ensures.value ∙ by-start _ _) c.if-starts_with.true (c.ends_with.ensures.value ∙ by-end _ _)

pub returns-else-starts_with : goal.returns-else-starts_with
returns-else-starts_with c = first_fails _ _ (c.starts_with.ensures.value ∙ by-start _ _) c.if-starts_with.false
