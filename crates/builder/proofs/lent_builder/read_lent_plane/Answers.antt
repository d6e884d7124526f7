-- `builder::lent_builder::read_lent_plane` meets its contract.
use Rattle.std.proofs.lemmas.Result.{err_from_is_err_and}
use mathlib.Core.List.{[], ◌∷◌}
use mathlib.Core.Path.{sym, ◌∙◌}
use Rattle.plane.specs.lent.Lent.{lists_of}
use Rattle.policies.specs.LentPolicy.{lent_policy}
use Rattle.builder.specs.lent_builder.LentEnd.{lent_sizes}
use Rattle.builder.proofs.ends.EndLaws.{end_refused}
use Rattle.builder.proofs.lent_builder.read_lent_plane.Goals as goal

pub lent_cleared-requires : goal.lent_cleared-requires
lent_cleared-requires c =
    sym c.work_slices.ensures ∙ c.in_ok-work_slices.was

pub returns : goal.returns
returns c = c.lent_cleared.ensures

pub returns-in_err-work_slices : goal.returns-in_err-work_slices
returns-in_err-work_slices c =
    let p = err_from_is_err_and c.from_residual.result c.from_residual.ensures.1 in
    let a = c.args in
    record { end = end_refused lent_sizes (lent_policy (lists_of a.l)) (a.plane.now ∷ a.spans.now ∷ a.upright.now ∷ a.slots.now ∷ []) a.out.now p.1 p.2 c.in_err-work_slices.was c.work_slices.ensures }
