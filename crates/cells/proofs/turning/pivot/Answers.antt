-- `cells::turning::pivot` meets its contract.
use mathlib.Core.Path.{refl, sym, ◌∙◌}
use Rattle.cells.proofs.turning.PivotLaws.{pivot_none, pivot_narrow, pivot_wide}
use native.Mathlib.Omega.{arith}
use Rattle.cells.proofs.turning.pivot.Goals as goal

pub returns-then-plane-eq0 : goal.returns-then-plane-eq0
returns-then-plane-eq0 c = record { turned = pivot_none _ _ c.if-plane-eq0.true; same = refl }

pub returns-then-not-is_wide : goal.returns-then-not-is_wide
returns-then-not-is_wide c =
    record { turned = pivot_narrow _ _ _ (omega (arith, c.if-plane-eq0.false)) c.width-w.ensures (sym c.is_wide.ensures ∙ c.if-not-is_wide.true); same = refl }

pub turn_columns-requires : goal.turn_columns-requires
turn_columns-requires c = let f = c.args.plane.fits in (c.requires, omega (arith, c.width-w.ensures, f.cells 0 (omega (arith, c.if-plane-eq0.false))))

pub returns : goal.returns
returns c =
    record { turned = pivot_wide _ _ _ (omega (arith, c.if-plane-eq0.false)) c.width-w.ensures _ (sym c.is_wide.ensures ∙ c.if-not-is_wide.false) c.turn_columns.ensures.plane; same = c.turn_columns.ensures.same }
