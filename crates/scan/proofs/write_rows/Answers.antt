-- `scan::write_rows` meets its contract.
use mathlib.Core.Path.{◌≡◌, refl, ◌∙◌}
use mathlib.Core.List.{◌∷◌}
use Prim.Native.Nat.{◌+◌}
use native.Mathlib.Omega.{arith}
use lib.ListN.{length, drop}
use Rattle.lists.proofs.RunLaws.{length_run, drop-build, drop_build_end}
use Rattle.scan.specs.sheet_rows.Found.{row_in, rows_in}
use Rattle.scan.specs.Rows.{blank}
use Rattle.scan.proofs.TextLayer.{blank-length}
use Rattle.scan.proofs.Writing.{text-layer, writing_start, writing_more, writing_end, writing_room}
use Rattle.scan.proofs.write_rows.Goals as goal
use Rattle.scan.proofs.write_rows.Goals.{In-loop-r}

pub loop-r-init : goal.loop-r-init
loop-r-init c =
    let n = length_run (row_in c.args.s.now c.args.rows.now) 0 (length c.args.rows.now) in (
      writing_start (λ t. t) (λ t. refl) _ _ _ c.requires.1 (rw n c.requires.2),
      writing_start blank blank-length _ _ _ c.requires.1 (rw n c.requires.3),
    )

-- the row of a turn, and those behind it
row : (c : In-loop-r)
    → drop c.loop-r.r (rows_in c.args.s.now c.args.rows.now (length c.args.rows.now)) ≡ row_in c.args.s.now c.args.rows.now c.loop-r.r ∷ drop (c.loop-r.r + 1) (rows_in c.args.s.now c.args.rows.now (length c.args.rows.now))
row c = let a = c.args in drop-build (length a.rows.now) (row_in a.s.now a.rows.now) c.loop-r.r c.loop-r-test.true

pub put_row-requires : goal.put_row-requires
put_row-requires c =
    let i = c.loop-r.invariant in
    let x = writing_room i.0 (row (goal.at.put_row-requires c).In-loop-r) in
    let y = writing_room i.1 (row (goal.at.put_row-requires c).In-loop-r) in
    let n = c.requires.0 c.loop-r.r c.loop-r-test.true in
    (n, omega arith, x.1, y.1)

pub loop-r-preserved : goal.loop-r-preserved
loop-r-preserved c =
    let i = c.loop-r.invariant in
    let k = c.put_row.auto in (
      writing_more i.0 (row (goal.at.loop-r-preserved c).In-loop-r) c.put_row.ensures.text k.text,
      writing_more i.1 (row (goal.at.loop-r-preserved c).In-loop-r) c.put_row.ensures.body k.body,
    )

pub returns : goal.returns
returns c =
    let i = c.loop-r.invariant in
    let a = c.args in
    let e = drop_build_end (length a.rows.now) (row_in a.s.now a.rows.now) c.loop-r.r c.loop-r-test.false in
    record { text = writing_end i.0 e ∙ text-layer _ _ _; body = writing_end i.1 e }
