-- `replay::answer_text` meets its contract.
use mathlib.Core.Path.{sym, ap}
use Prim.Native.Nat.{ℕ}
use lib.ListN.{length-replicate}
use Rattle.print.proofs.WrittenLaws.{written_as, written_within}
use Rattle.answers.specs.SplitLines.{split_line}
use Rattle.replay.proofs.Replaying.{by_kind}
use native.Mathlib.Omega.{arith}
use Rattle.replay.proofs.answer_text.Goals as goal

pub put_split_line-requires : goal.put_split_line-requires
put_split_line-requires g c = (search arith, (c.requires.0, c.requires.1, omega arith))

pub returns-in-Split : goal.returns-in-Split
returns-in-Split g c =
    let t = c.args.text.now in
    (_, (by_kind t c.in-Split.is, written_as c.put_split_line.ensures (ap (λ (m : ℕ). split_line m t) c.told-scratch)))

pub returns-in-Drawing : goal.returns-in-Drawing
returns-in-Drawing g c = (_, (by_kind c.args.text.now c.in-Drawing.is, c.put_drawing.ensures))

pub returns-in-Sheet : goal.returns-in-Sheet
returns-in-Sheet g c = (_, (by_kind c.args.text.now c.in-Sheet.is, written_within c.put_sheet.ensures (omega arith)))
