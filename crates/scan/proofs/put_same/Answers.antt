-- `scan::put_same` meets its contract.
use mathlib.Core.Path.{◌≡◌, ◌∙◌}
use Prim.Native.Nat.{◌+◌, ◌-◌}
use native.Mathlib.Omega.{arith}
use lib.ListN.{length, take, drop, length-drop, length-replicate}
use lib.Seq.{length-take-le}
use Rattle.lists.proofs.Copying.{copied}
use Rattle.scan.proofs.put_same.Goals as goal

pub returns : goal.returns
returns c =
    let a = c.args in
    let m : a.base + a.n - a.base ≡ a.n = omega arith in
    let l : length (take (a.base + a.n - a.base) (drop a.base a.out.now)) ≡ a.n = length-take-le (a.base + a.n - a.base) (drop a.base a.out.now) (omega (arith, length-drop a.base a.out.now, c.requires)) ∙ m in
    let f = rw l at c.fill.ensures.after (λ y e. e) in
    let p = copied a.out.now a.base f in
    rw (length-replicate a.n a.code) at p
