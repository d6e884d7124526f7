-- `canvas::grid_layer::carried_code` meets its contract.
use Prim.Native.Nat.{◌+◌}
use native.Mathlib.Omega.{arith}
use borrow.Author.Tests.{eq-eqb, ne_eqb, lt-ltb, le-ltb}
use Rattle.canvas.specs.grid_layer.Grid.{carried_code}
use Rattle.canvas.proofs.grid_layer.carried_code.Goals as goal

pub returns-then-k-eq0 : goal.returns-then-k-eq0
unfolding carried_code
returns-then-k-eq0 c = simp (eq-eqb _ _ c.if-c-d.true, eq-eqb _ _ c.if-k-eq0.true)

pub returns-then-k-l : goal.returns-then-k-l
unfolding carried_code
returns-then-k-l c = simp (eq-eqb _ _ c.if-c-d.true, ne_eqb _ _ c.if-k-eq0.false, eq-eqb _ _ c.if-k-l.true)

pub returns-then-c-d : goal.returns-then-c-d
unfolding carried_code
returns-then-c-d c = simp (eq-eqb _ _ c.if-c-d.true, ne_eqb _ _ c.if-k-eq0.false, ne_eqb _ _ c.if-k-l.false)

pub returns-then-k-l-2 : goal.returns-then-k-l-2
unfolding carried_code
returns-then-k-l-2 c = simp (ne_eqb _ _ c.if-c-d.false, eq-eqb _ _ c.if-c-d-2.true, lt-ltb _ _ c.if-k-l-2.true)

pub returns-then-c-d-2 : goal.returns-then-c-d-2
unfolding carried_code
returns-then-c-d-2 c = simp (ne_eqb _ _ c.if-c-d.false, eq-eqb _ _ c.if-c-d-2.true, le-ltb _ _ c.if-k-l-2.false)

pub returns-then-l-k-gt0 : goal.returns-then-l-k-gt0
unfolding carried_code
returns-then-l-k-gt0 c =
    let a = c.args in
    simp (ne_eqb _ _ c.if-c-d.false, ne_eqb _ _ c.if-c-d-2.false, eq-eqb _ _ c.if-c-d-3.true, lt-ltb 0 (a.l.off + a.k) (omega arith))

pub returns-then-c-d-3 : goal.returns-then-c-d-3
unfolding carried_code
returns-then-c-d-3 c = simp (ne_eqb _ _ c.if-c-d.false, ne_eqb _ _ c.if-c-d-2.false, eq-eqb _ _ c.if-c-d-3.true, le-ltb _ _ c.if-l-k-gt0.false)

pub returns-then-c-eq-SPACE : goal.returns-then-c-eq-SPACE
unfolding carried_code
returns-then-c-eq-SPACE c = simp (ne_eqb _ _ c.if-c-d.false, ne_eqb _ _ c.if-c-d-2.false, ne_eqb _ _ c.if-c-d-3.false, eq-eqb _ _ c.if-c-eq-SPACE.true)

pub returns : goal.returns
unfolding carried_code
returns c = simp (ne_eqb _ _ c.if-c-d.false, ne_eqb _ _ c.if-c-d-2.false, ne_eqb _ _ c.if-c-d-3.false, ne_eqb _ _ c.if-c-eq-SPACE.false)
