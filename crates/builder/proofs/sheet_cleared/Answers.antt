-- `builder::sheet_cleared` meets its contract.
use mathlib.Core.List.{[], ◌∷◌}
use mathlib.Core.Path.{◌∙◌}
use Rattle.policies.specs.DrawnPolicy.{walked_policy}
use Rattle.builder.specs.SheetEnd.{sheet_sizes}
use Rattle.lists.proofs.Filling.{filled-zeros}
use Rattle.builder.proofs.ends.EndLaws.{Cleared, none, one, cleared_all, zeros-same, end_cleared}
use Rattle.builder.proofs.RoomLaws.{sheet-room}
use Rattle.builder.proofs.sheet_cleared.Goals as goal
use Rattle.builder.proofs.sheet_cleared.Goals.{After-slice_known-20-1}

gone : (c : After-slice_known-20-1) → Cleared (c.clear_four.new.a ∷ c.clear_four.new.b ∷ c.clear_four.new.c ∷ c.clear_four.new.d ∷ c.fill.new.s ∷ c.fill-2.new.s ∷ []) (c.args.text.now ∷ c.args.thins.now ∷ c.args.bodies.now ∷ c.args.grid.now ∷ c.args.spans.now ∷ c.args.bytes.now ∷ [])
gone c =
    let s = c.args in
    one (c.clear_four.ensures.0 ∙ zeros-same c.sheet_record-r.new.text s.text.now c.sheet_record-r.auto.text) (one (c.clear_four.ensures.1 ∙ zeros-same c.sheet_record-r.new.thins s.thins.now c.sheet_record-r.auto.thins) (one (c.clear_four.ensures.2 ∙ zeros-same c.sheet_record-r.new.bodies s.bodies.now c.sheet_record-r.auto.bodies) (one (c.clear_four.ensures.3 ∙ zeros-same c.sheet_record-r.new.grid s.grid.now c.sheet_record-r.auto.grid) (one (c.fill.ensures ∙ filled-zeros _ ∙ zeros-same c.sheet_record-r.new.spans s.spans.now c.sheet_record-r.auto.spans) (one (c.fill-2.ensures ∙ filled-zeros _ ∙ zeros-same c.sheet_record-r.new.bytes s.bytes.now c.sheet_record-r.auto.bytes) (none))))))

pub sheet_record-r-requires : goal.sheet_record-r-requires
sheet_record-r-requires c =
    let a = c.args in
    sheet-room a.text.now a.thins.now a.bodies.now a.grid.now a.spans.now a.bytes.now c.requires

pub returns : goal.returns
returns c =
    let e = end_cleared sheet_sizes (walked_policy c.args.s.now) (c.args.text.now ∷ c.args.thins.now ∷ c.args.bodies.now ∷ c.args.grid.now ∷ c.args.spans.now ∷ c.args.bytes.now ∷ []) (c.clear_four.new.a ∷ c.clear_four.new.b ∷ c.clear_four.new.c ∷ c.clear_four.new.d ∷ c.fill.new.s ∷ c.fill-2.new.s ∷ []) c.args.out.now c.sheet_record-r.new.out c.sheet_record-r.result c.requires c.sheet_record-r.ensures.outcome c.sheet_record-r.ensures.out (cleared_all (gone c)) in
    record { end = e }
