-- `plane::lent::is_well_formed` meets its contract.
use mathlib.Core.Path.{◌≡◌, sym, ◌∙◌}
use mathlib.Core.Bool.{true}
use lib.ListN.{length}
use Rattle.plane.specs.lent.Lent.{lists_of}
use Rattle.plane.specs.lent.LentPlane.{within_limits, counts_agree, cells_known}
use Rattle.plane.proofs.lent.LimitLaws.{few-rows}
use Rattle.plane.proofs.lent.CountLaws.{same-regions, same-sizes}
use Rattle.plane.proofs.lent.FormLaws.{too_much, not_agreed, not_known, parts_decide}
use Rattle.plane.proofs.lent.is_well_formed.Goals as goal
use Rattle.plane.proofs.lent.is_well_formed.Goals.{Else-not-cells_known, Else-not-counts_agree, Else-not-is_within, Start}

-- the tests that have held
within : (c : Else-not-is_within) → let l = lists_of c.args.l in within_limits l.rows l.offsets l.bytes ≡ true
within c = sym c.is_within.ensures ∙ c.if-not-is_within.false

agree : (c : Else-not-counts_agree) → let l = lists_of c.args.l in counts_agree l.rows l.kinds l.regions l.offsets l.sizes ≡ true
agree c = sym c.counts_agree.ensures ∙ c.if-not-counts_agree.false

known : (c : Else-not-cells_known) → let l = lists_of c.args.l in cells_known (length l.offsets) l.kinds l.regions ≡ true
known c = sym c.cells_known.ensures ∙ c.if-not-cells_known.false

pub returns-then-not-is_within : goal.returns-then-not-is_within
returns-then-not-is_within c = too_much (lists_of c.args.l) (sym c.is_within.ensures ∙ c.if-not-is_within.true)

pub counts_agree-requires : goal.counts_agree-requires
counts_agree-requires c = let l = lists_of c.args.l in few-rows l.rows l.offsets l.bytes (within (goal.at.counts_agree-requires c).Else-not-is_within)

pub returns-then-not-counts_agree : goal.returns-then-not-counts_agree
returns-then-not-counts_agree c = not_agreed (lists_of c.args.l) (within (goal.at.returns-then-not-counts_agree c).Else-not-is_within) (sym c.counts_agree.ensures ∙ c.if-not-counts_agree.true)

pub cells_known-requires : goal.cells_known-requires
cells_known-requires c = let l = lists_of c.args.l in same-regions l.rows l.kinds l.regions l.offsets l.sizes (agree (goal.at.cells_known-requires c).Else-not-counts_agree)

pub returns-then-not-cells_known : goal.returns-then-not-cells_known
returns-then-not-cells_known c =
    not_known (lists_of c.args.l) (within (goal.at.returns-then-not-cells_known c).Else-not-is_within) (agree (goal.at.returns-then-not-cells_known c).Else-not-counts_agree) (sym c.cells_known.ensures ∙ c.if-not-cells_known.true)

pub parts_good-requires : goal.parts_good-requires
parts_good-requires c =
    let l = lists_of c.args.l in
    same-sizes l.rows l.kinds l.regions l.offsets l.sizes (agree (goal.at.parts_good-requires c).Else-not-counts_agree)

pub returns : goal.returns
returns c =
    parts_decide (lists_of c.args.l) (within (goal.at.returns c).Else-not-is_within) (agree (goal.at.returns c).Else-not-counts_agree) (known (goal.at.returns c).Else-not-cells_known) _ c.parts_good.ensures
