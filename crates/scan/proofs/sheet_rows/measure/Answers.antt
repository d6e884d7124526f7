-- `scan::sheet_rows::measure` meets its contract.
use mathlib.Core.Path.{refl}
use Rattle.scan.proofs.sheet_rows.Measuring.{measuring_start, measuring_none, measuring_more, measuring_last, measuring_end, valid_more}
use Rattle.scan.proofs.sheet_rows.Keeping.{keeping_start, keeping_none, keeping_long, keeping_more, keeping_last, keeping_end}
use Rattle.scan.proofs.sheet_rows.measure.Goals as goal

pub loop-end-init : goal.loop-end-init
loop-end-init c =
    (measuring_start _ _ c.requires.0, (rw c.clear.ensures (keeping_start _ _), record { same = refl; level = c.requires.1 }))

pub returns-then-last-eq-LIGHT_UP_AND_LEFT : goal.returns-then-last-eq-LIGHT_UP_AND_LEFT
returns-then-last-eq-LIGHT_UP_AND_LEFT c =
    let i = c.loop-end.invariant in
    let h = c.loop-end-test.true in
    let z = c.if-count-gt0.true in
    let l = c.line_at-l.ensures in
    let w = c.keep_row.ensures in
    record {
      measured = measuring_last i.0 l.line h c.max-columns.ensures z c.if-last-eq-LIGHT_UP_AND_LEFT.true;
      all = keeping_long i.1.0 l.line z w;
      kept = keeping_last i.1.0 l.line z w c.if-last-eq-LIGHT_UP_AND_LEFT.true;
      valid = (valid_more i.1.1 h l.valid).same;
    }

pub loop-end-preserved-else-last-eq-LIGHT_UP_AND_LEFT : goal.loop-end-preserved-else-last-eq-LIGHT_UP_AND_LEFT
loop-end-preserved-else-last-eq-LIGHT_UP_AND_LEFT c =
    let i = c.loop-end.invariant in
    let h = c.loop-end-test.true in
    let z = c.if-count-gt0.true in
    let l = c.line_at-l.ensures in
    let q = c.if-last-eq-LIGHT_UP_AND_LEFT.false in (
      measuring_more i.0 l.line h c.max-columns.ensures z q,
      (keeping_more i.1.0 l.line z c.keep_row.ensures q, valid_more i.1.1 h l.valid),
    )

pub loop-end-preserved : goal.loop-end-preserved
loop-end-preserved c =
    let i = c.loop-end.invariant in
    let h = c.loop-end-test.true in
    let z = c.if-count-gt0.false in
    let l = c.line_at-l.ensures in
    (measuring_none i.0 l.line h z, (keeping_none i.1.0 l.line z, valid_more i.1.1 h l.valid))

pub returns : goal.returns
returns c =
    let i = c.loop-end.invariant in
    let h = c.loop-end-test.false in
    record { measured = measuring_end i.0 h; all = i.1.0.long; kept = keeping_end i.1.0 h; valid = i.1.1.same }
