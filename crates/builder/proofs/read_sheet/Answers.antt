-- `builder::read_sheet` meets its contract.
use Rattle.std.proofs.lemmas.Result.{err_from_is_err_and}
use mathlib.Core.List.{[], ◌∷◌}
use mathlib.Core.Path.{sym, ◌∙◌}
use Rattle.policies.specs.DrawnPolicy.{walked_policy}
use Rattle.builder.specs.SheetEnd.{sheet_sizes}
use Rattle.builder.proofs.ends.EndLaws.{end_refused}
use Rattle.builder.proofs.read_sheet.Goals as goal

pub sheet_cleared-requires : goal.sheet_cleared-requires
sheet_cleared-requires c =
    sym c.work_slices.ensures ∙ c.in_ok-work_slices.was

pub returns : goal.returns
returns c = c.sheet_cleared.ensures

pub returns-in_err-work_slices : goal.returns-in_err-work_slices
returns-in_err-work_slices c =
    let p = err_from_is_err_and c.from_residual.result c.from_residual.ensures.1 in
    let a = c.args in
    record { end = end_refused sheet_sizes (walked_policy a.s.now) (a.text.now ∷ a.thins.now ∷ a.bodies.now ∷ a.grid.now ∷ a.spans.now ∷ a.bytes.now ∷ []) a.out.now p.1 p.2 c.in_err-work_slices.was c.work_slices.ensures }
