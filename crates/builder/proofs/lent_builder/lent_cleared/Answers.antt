-- `builder::lent_builder::lent_cleared` meets its contract.
use mathlib.Core.List.{[], ◌∷◌}
use mathlib.Core.Path.{◌∙◌}
use Rattle.plane.specs.lent.Lent.{lists_of}
use Rattle.policies.specs.LentPolicy.{lent_policy}
use Rattle.builder.specs.lent_builder.LentEnd.{lent_sizes}
use Rattle.builder.proofs.ends.EndLaws.{Cleared, none, one, cleared_all, zeros-same, end_cleared}
use Rattle.builder.proofs.lent_builder.RoomLaws.{lent-room}
use Rattle.builder.proofs.lent_builder.lent_cleared.Goals as goal
use Rattle.builder.proofs.lent_builder.lent_cleared.Goals.{After-slice_known-14-1, Start}

gone : (c : After-slice_known-14-1) → Cleared (c.clear_four.new.a ∷ c.clear_four.new.b ∷ c.clear_four.new.c ∷ c.clear_four.new.d ∷ []) (c.args.plane.now ∷ c.args.spans.now ∷ c.args.upright.now ∷ c.args.slots.now ∷ [])
gone c =
    let s = c.args in
    one (c.clear_four.ensures.0 ∙ zeros-same c.lent_record-r.new.plane s.plane.now c.lent_record-r.auto.plane) (one (c.clear_four.ensures.1 ∙ zeros-same c.lent_record-r.new.spans s.spans.now c.lent_record-r.auto.spans) (one (c.clear_four.ensures.2 ∙ zeros-same c.lent_record-r.new.upright s.upright.now c.lent_record-r.auto.upright) (one (c.clear_four.ensures.3 ∙ zeros-same c.lent_record-r.new.slots s.slots.now c.lent_record-r.auto.slots) (none))))

pub lent_record-r-requires : goal.lent_record-r-requires
lent_record-r-requires c =
    let a = c.args in
    lent-room a.plane.now a.spans.now a.upright.now a.slots.now c.requires

pub returns : goal.returns
returns c =
    let e = end_cleared lent_sizes (lent_policy (lists_of c.args.l)) (c.args.plane.now ∷ c.args.spans.now ∷ c.args.upright.now ∷ c.args.slots.now ∷ []) (c.clear_four.new.a ∷ c.clear_four.new.b ∷ c.clear_four.new.c ∷ c.clear_four.new.d ∷ []) c.args.out.now c.lent_record-r.new.out c.lent_record-r.result c.requires c.lent_record-r.ensures.outcome c.lent_record-r.ensures.out (cleared_all (gone c)) in
    record { end = e }
