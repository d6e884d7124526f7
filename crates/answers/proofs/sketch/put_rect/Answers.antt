-- `answers::sketch::put_rect` meets its contract.
use mathlib.Core.Path.{subst}
use Rattle.model.specs.declared.Rect.{Rect}
use Rattle.print.specs.Decimal.{Written}
use Rattle.print.proofs.WrittenLaws.{written_then}
use Rattle.answers.specs.sketch.Drawings.{rect_words}
use Rattle.answers.proofs.sketch.put_rect.Goals as goal

pub returns : goal.returns
unfolding rect_words
returns g c =
    subst (λ (q : Rect). Written c.args.out.now.items c.put_spaced-4.new.out.items (rect_words q) 84) c.at-r.ensures
    (written_then c.put_spaced.ensures (written_then c.put_spaced-2.ensures (written_then c.put_spaced-3.ensures c.put_spaced-4.ensures)))
