-- `text_planes::texts::put_part` meets its contract.
use native.Mathlib.Omega.{arith}
use mathlib.Core.Path.{refl}
use Rattle.text_planes.proofs.texts.PartPutting.{encoding_start, encoding_more, encoding_past}
use Rattle.text_planes.proofs.texts.put_part.Goals as goal

pub loop-i-init : goal.loop-i-init
loop-i-init c = encoding_start c.requires.0

pub returns-then-p-gt-TEXT_BYTES : goal.returns-then-p-gt-TEXT_BYTES
returns-then-p-gt-TEXT_BYTES c =
    (encoding_past c.loop-i.invariant c.loop-i-test.true c.put_code-p.ensures c.if-p-gt-TEXT_BYTES.true, refl)

pub loop-i-preserved : goal.loop-i-preserved
loop-i-preserved c =
    encoding_more c.loop-i.invariant c.loop-i-test.true c.put_code-p.ensures c.if-p-gt-TEXT_BYTES.false (omega (arith, c.requires.1)) c.put_code-p.auto.out
