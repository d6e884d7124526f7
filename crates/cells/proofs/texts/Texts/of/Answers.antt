-- `cells::texts::Texts::of` meets its contract.
use Rattle.std.specs.Prelude.{Some}
use mathlib.Core.Path.{sym, ap, ◌∙◌}
use Rattle.model.proofs.CellLaws.{region-is}
use Rattle.cells.proofs.SpanLaws.{text_in_lem}
use Rattle.cells.proofs.texts.Texts.of.Goals as goal

pub returns : goal.returns
returns c =
    let k = c.in_ok-k.k in
    let h = c.requires k (region-is c.args.c k (sym c.in_ok-k.ensures)) in
    rw (← c.in_ok-k.ensures) (ap Some (c.text.ensures ∙ sym (text_in_lem _ _ _ k h)))
