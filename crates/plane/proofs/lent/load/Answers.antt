-- `plane::lent::load` meets its contract.
use mathlib.Core.Path.{◌≡◌, refl, sym, ◌∙◌}
use mathlib.Core.Bool.{true}
use Rattle.std.proofs.Common.{rules}
use Rattle.cells.proofs.WriterLaws.{fits_as, plane_as}
use Rattle.plane.specs.lent.Lent.{lists_of}
use Rattle.plane.specs.lent.LentPlane.{well_formed}
use Rattle.plane.proofs.lent.FormLaws.{rows_good, parts_good_lem, regions-few}
use Rattle.plane.proofs.lent.LoadLaws.{lent-refused, lent_loaded, lent-held}
use native.Mathlib.Omega.{arith}
use Rattle.plane.proofs.lent.load.Goals as goal
use Rattle.plane.proofs.lent.load.Goals.{Else-not-is_well_formed, Start}

formed : (c : Else-not-is_well_formed) → well_formed (lists_of c.args.l) ≡ true
formed c = sym c.is_well_formed.ensures ∙ c.if-not-is_well_formed.false

pub returns-then-not-is_well_formed : goal.returns-then-not-is_well_formed
returns-then-not-is_well_formed c = record { loaded = lent-refused (lists_of c.args.l) (sym c.is_well_formed.ensures ∙ c.if-not-is_well_formed.true); held = tt }

pub load_rows-requires : goal.load_rows-requires
load_rows-requires c = (rows_good (lists_of c.args.l) (formed (goal.at.load_rows-requires c).Else-not-is_well_formed), refl)

pub load_texts-requires : goal.load_texts-requires
load_texts-requires c =
    (parts_good_lem (lists_of c.args.l) (formed (goal.at.load_texts-requires c).Else-not-is_well_formed), omega (arith, regions-few (lists_of c.args.l) (formed (goal.at.load_texts-requires c).Else-not-is_well_formed), c.requires.two_each))

pub returns : goal.returns
returns c =
    let l = lists_of c.args.l in
    let f = formed (goal.at.returns c).Else-not-is_well_formed in
    let w = c.load_rows.new.plane in
    let p = c.load_rows.ensures in
    let q = c.load_texts.ensures in
    let same = sym p.plane.same in
    let h = p.rows in
    record {
      loaded = lent_loaded l f _ c.load_texts.new.spans (plane_as w h (search rules) p.plane.plane) q.texts;
      held = lent-held l f _ _ (plane_as w h (search rules) p.plane.plane) (fits_as w h (search rules)) (omega (arith, c.load_texts.auto.spans, c.requires.two_each)) q.inside;
    }
