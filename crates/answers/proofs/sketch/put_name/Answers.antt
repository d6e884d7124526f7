-- `answers::sketch::put_name` meets its contract.
use Prim.Native.Nat.{◌<◌}
use native.Mathlib.Omega.{arith}
use Rattle.print.proofs.WrittenLaws.{written_then, written_long, written_within, written_as}
use Rattle.answers.proofs.sketch.RegionLaws.{unnamed, no_regions, first-text, text-short}
use Rattle.answers.proofs.sketch.put_name.Goals.{then-not-named-via-then-not-named, then-not-named-via-else-not-named+then-texts-eq0}
use Rattle.answers.proofs.sketch.put_name.Goals as goal

pub returns-then-not-named : goal.returns-then-not-named
returns-then-not-named g c =
    elim c.then-not-named.branch [
      | then-not-named-via-then-not-named w ↦ written_within (written_as c.put_word.ensures (unnamed _ _ w.if-not-named.true)) (omega arith)
      | then-not-named-via-else-not-named+then-texts-eq0 w ↦ written_within (written_as c.put_word.ensures (no_regions c.args.texts c.args.named w.if-texts-eq0.true)) (omega arith)
    ]

pub put_text-requires : goal.put_text-requires
put_text-requires g c =
    omega (arith, c.requires.0, written_long c.put_word-2.ensures, c.if-texts-eq0.false, text-short c.args.texts 0 c.requires.1 (omega (arith, c.if-texts-eq0.false)))

pub returns : goal.returns
returns g c =
    let l : 0 < c.args.texts.count = omega (arith, c.if-texts-eq0.false) in
    written_within
    (written_as (written_then c.put_word-2.ensures c.put_text.ensures) (first-text c.args.texts c.args.named c.if-not-named.false l))
    (omega (arith, text-short c.args.texts 0 c.requires.1 l))
