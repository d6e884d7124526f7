-- `policies::lent_records::lent_table` meets its contract.
use Rattle.plane.specs.lent.Lent.{lists_of}
use Rattle.std.proofs.lemmas.Result.{err_from_is_err_and}
use Rattle.std.specs.Prelude.{Ok, ℕ}
use mathlib.Core.Path.{◌≡◌, refl, sym, ap, ◌∙◌}
use lib.ListN.{length}
use Rattle.cells.specs.Plane.{plane_in}
use Rattle.cells.specs.Spans.{texts_in}
use Rattle.plane.specs.lent.Held.{loaded_in}
use Rattle.lists.proofs.Tests.{true_false}
use Rattle.plane.specs.lent.LentPlane.{lent_of}
use Rattle.policies.proofs.lent_records.LentTableLaws.{not_lent, lent-policy, few_bytes}
use Rattle.policies.proofs.lent_records.lent_table.Goals as goal
use Rattle.policies.proofs.lent_records.lent_table.Goals.{In_ok-rows, Start}
use Rattle.model.specs.Refusals.{Reading}

told : (c : In_ok-rows) → Ok (record { plane = plane_in c.load.new.plane c.in_ok-rows.rows; texts = texts_in c.args.l.bytes.now c.load.new.spans (length c.args.l.offsets.now) }) ≡ lent_of (lists_of c.args.l)
told c = ap (λ (m : Reading ℕ). loaded_in m c.load.new.plane c.args.l.bytes.now c.load.new.spans (length c.args.l.offsets.now)) (sym c.in_ok-rows.was) ∙ c.load.ensures.loaded

pub plane_table-requires : goal.plane_table-requires
plane_table-requires c =
    let few = few_bytes (lists_of c.args.l) (record { plane = plane_in c.load.new.plane c.in_ok-rows.rows; texts = texts_in c.args.l.bytes.now c.load.new.spans (length c.args.l.offsets.now) }) (told (goal.at.plane_table-requires c).In_ok-rows) in
    (record { few = few; sheet = c.requires.sheet; room = c.requires.room }, λ t. true_false t refl)

pub returns : goal.returns
returns c =
    let p = c.plane_table.ensures in
    record { table = p.table ∙ lent-policy (lists_of c.args.l) (record { plane = plane_in c.load.new.plane c.in_ok-rows.rows; texts = texts_in c.args.l.bytes.now c.load.new.spans (length c.args.l.offsets.now) }) (told (goal.at.returns c).In_ok-rows); held = p.held }

pub returns-in_err-rows : goal.returns-in_err-rows
returns-in_err-rows c =
    let p = err_from_is_err_and c.from_residual.result c.from_residual.ensures.1 in
    rw (p.1, p.2) (
    record { table = not_lent (lists_of c.args.l) _ (ap (λ (m : Reading ℕ). loaded_in m c.load.new.plane c.args.l.bytes.now c.load.new.spans (length c.args.l.offsets.now)) (sym c.in_err-rows.was) ∙ c.load.ensures.loaded); held = tt }
    )
