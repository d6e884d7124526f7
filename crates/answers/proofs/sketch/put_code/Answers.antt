-- `answers::sketch::put_code` meets its contract.
use mathlib.Core.Path.{◌≡◌, ap, ◌∙◌}
use mathlib.Core.List.{List, ◌++◌}
use Prim.Native.Nat.{ℕ}
use native.Mathlib.Omega.{arith}
use lib.ListN.{length, take, length-take}
use lib.Seq.{take_all}
use Rattle.print.specs.Decimal.{Written}
use Rattle.answers.proofs.sketch.LayerLaws.{encode_most, written_code}
use Rattle.answers.proofs.sketch.put_code.Goals as goal

pub slice_bounds-code-end : goal.slice_bounds-code-end
slice_bounds-code-end g c = omega (arith, c.put_code-n.ensures.0, encode_most c.args.c)

pub slice_bounds-bytes-end : goal.slice_bounds-bytes-end
slice_bounds-bytes-end g c =
    omega (arith, c.put_code-n.ensures.0, c.put_code-n.auto.out, encode_most c.args.c, length-take c.put_code-n.result c.put_code-n.new.out)

pub returns : goal.returns
returns g c =
    let s = take c.put_code-n.result c.put_code-n.new.out in
    let w : c.loop-b.out.items ≡ c.args.out.now.items ++ s = c.loop-b.invariant ∙ ap (λ (x : List ℕ). c.args.out.now.items ++ x) (take_all c.loop-b.b-index s (omega (arith, c.loop-b-test.false, c.loop-b.auto.b-index-end))) in
    let p : Written c.args.out.now.items c.loop-b.out.items s (length s) = record { same = w; short = omega arith } in
    written_code _ _ _ c.put_code-n.ensures p
