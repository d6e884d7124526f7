-- `answers::drawings::put_regions` meets its contract.
use mathlib.Core.Path.{refl}
use Rattle.print.proofs.WrittenLaws.{written_then, written_long, written_as, written_within}
use Rattle.answers.proofs.drawings.DrawingLaws.{read-lines, not_read, read-total, read-few}
use native.Mathlib.Omega.{arith}
use Rattle.answers.proofs.drawings.put_regions.Goals as goal

pub slice_bounds-read_regions-end : goal.slice_bounds-read_regions-end
slice_bounds-read_regions-end g c = refl

pub slice_bounds-read_regions-end-2 : goal.slice_bounds-read_regions-end-2
slice_bounds-read_regions-end-2 g c = refl

pub slice_bounds-read_regions-end-3 : goal.slice_bounds-read_regions-end-3
slice_bounds-read_regions-end-3 g c = refl

pub read_regions-requires : goal.read_regions-requires
read_regions-requires g c =
    let p = c.requires in
    record {
      columns = p.2.columns;
      rows = p.2.rows;
      small = record { columns = omega (arith, p.1.columns, p.2.columns); rows = omega (arith, p.1.rows, p.2.rows) };
      four_each = omega arith;
      all_texts = omega arith;
      two_each = omega arith;
    }

pub invariant_of-rects : goal.invariant_of-rects
invariant_of-rects g c = omega (arith, read-few _ _ _ c.read_regions.ensures.used c.in-Ok.is, c.read_regions.auto.rects)

pub put_regions-requires : goal.put_regions-requires
put_regions-requires g c =
    let few = read-few _ _ _ c.read_regions.ensures.used c.in-Ok.is in
    (search arith, (omega (arith, c.requires.0), record { count = few; same = refl; few = read-total _ _ _ c.read_regions.ensures.used c.in-Ok.is }))

pub put_name-requires : goal.put_name-requires
put_name-requires g c =
    (search arith, (omega (arith, c.requires.0, written_long c.put_regions.ensures), read-total _ _ _ c.read_regions.ensures.used c.in-Ok.is))

pub put_step-requires : goal.put_step-requires
put_step-requires g c =
    let p = c.requires in
    let few = read-few _ _ _ c.read_regions.ensures.used c.in-Ok.is in (
      search arith,
      (
        omega (arith, p.0, written_long c.put_regions.ensures, written_long c.put_name.ensures),
        record { columns = omega (arith, p.1.columns, p.3.columns); rows = omega (arith, p.1.rows, p.3.rows) },
        few,
      ),
    )

pub returns-in-Ok : goal.returns-in-Ok
returns-in-Ok g c =
    written_within
    (written_as (written_then c.put_regions.ensures (written_then c.put_name.ensures c.put_step.ensures))
    (read-lines c.args.o _ _ _ _ _ _ _ _ c.read_regions.ensures.answer c.in-Ok.is))
    (omega arith)

pub returns-in-Err : goal.returns-in-Err
returns-in-Err g c =
    written_within
    (written_as c.put_refusal.ensures (not_read c.args.o _ _ _ _ _ _ _ _ c.read_regions.ensures.answer c.in-Err.is))
    (omega arith)
