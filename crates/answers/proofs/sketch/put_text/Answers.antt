-- `answers::sketch::put_text` meets its contract.
use mathlib.Core.Path.{ap, ◌∙◌}
use lib.ListN.{length}
use Rattle.print.proofs.WrittenLaws.{written_one, written_long}
use Rattle.answers.proofs.sketch.RegionLaws.{length-text, written_text}
use native.Mathlib.Omega.{arith}
use Rattle.answers.proofs.sketch.put_text.Goals as goal

pub put_word-requires : goal.put_word-requires
put_word-requires g c = omega (arith, c.requires.0, ap length c.text.ensures ∙ length-text c.args.texts c.args.k c.requires.1)

pub push-requires : goal.push-requires
push-requires g c =
    omega (arith, c.requires.0, ap length c.text.ensures ∙ length-text c.args.texts c.args.k c.requires.1, written_long c.put_word.ensures)

pub returns : goal.returns
returns g c = written_text c.args.texts c.args.k c.requires.1 c.text.ensures c.put_word.ensures (written_one c.push.ensures.items)
