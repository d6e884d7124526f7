-- `characters::white_space::codes_start` meets its contract. The invariant: what is trimmed from the front is the same from i on.
use Rattle.std.proofs.Common.{rules, arith, ◌≡◌, length, sym, ◌∙◌}
use Rattle.characters.proofs.white_space.TrimLaws.{start-white, start_dark, start_none}
use Rattle.characters.proofs.white_space.codes_start.Goals as goal

pub loop-i-preserved : goal.loop-i-preserved
loop-i-preserved c =
    (search rules, c.loop-i.invariant.1 ∙ start-white c.args.s.now c.loop-i.i (search rules) (sym c.white_code.ensures ∙ c.if-not-white_code.false))

pub returns-then-not-white_code : goal.returns-then-not-white_code
returns-then-not-white_code c =
    (search rules, sym (c.loop-i.invariant.1 ∙ start_dark c.args.s.now c.loop-i.i (search rules) (sym c.white_code.ensures ∙ c.if-not-white_code.true)))

pub returns : goal.returns
returns c =
    let e : c.loop-i.i ≡ length c.args.s.now = omega arith in
    (omega arith, rw e at (sym (c.loop-i.invariant.1 ∙ start_none c.args.s.now c.loop-i.i (search rules))))
