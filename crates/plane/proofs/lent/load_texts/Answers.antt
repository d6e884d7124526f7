-- `plane::lent::load_texts` meets its contract.
use Prim.Native.Nat.{ℕ, ◌+◌, ◌*◌, ◌≤◌, ◌<◌}
use lib.ListN.{length, get_or}
use lib.Seq.{lt-length-set}
use Rattle.model.specs.Limits.{text_bytes}
use Rattle.cells.proofs.SpanLaws.{spans-start, spans-next, spans_end}
use Rattle.plane.proofs.lent.TextLaws.{part_trimmed}
use native.Mathlib.Omega.{arith}
use Rattle.plane.proofs.lent.load_texts.Goals as goal
use Rattle.plane.proofs.lent.load_texts.Goals.{After-trim_utf8_part-part}

-- part k lies within the bytes, which are few, and there is room for its two numbers
module _ (c : After-trim_utf8_part-part) where
  abbrev k : ℕ
  k = c.loop-k.k

  inside : get_or c.args.l.offsets.now k 0 + get_or c.args.l.sizes.now k 0 ≤ length c.args.l.bytes.now
  inside = c.requires.0.inside k c.loop-k-test.true

  few : length c.args.l.bytes.now ≤ text_bytes
  few = c.requires.0.few

  room : k * 2 + 1 < length c.args.spans.now
  room = omega (arith, c.loop-k-test.true, c.requires.1)

pub loop-k-init : goal.loop-k-init
loop-k-init c = (omega arith, spans-start _ _ _)

pub trim_utf8_part-part-requires : goal.trim_utf8_part-part-requires
trim_utf8_part-part-requires c =
    (omega arith, c.requires.0.inside _ c.loop-k-test.true)

pub overflow_cast-spans : goal.overflow_cast-spans
overflow_cast-spans c = let p = c.trim_utf8_part-part.ensures in omega (arith, p.ordered, p.high, inside (goal.at.overflow_cast-spans c).After-trim_utf8_part-part, few (goal.at.overflow_cast-spans c).After-trim_utf8_part-part)

pub overflow_mul-spans : goal.overflow_mul-spans
overflow_mul-spans c = omega (arith, room (goal.at.overflow_mul-spans c).After-trim_utf8_part-part)

pub bounds-spans-k : goal.bounds-spans-k
bounds-spans-k c = omega (arith, room (goal.at.bounds-spans-k c).After-trim_utf8_part-part)

pub overflow_sub-spans : goal.overflow_sub-spans
overflow_sub-spans c = omega (arith, c.trim_utf8_part-part.ensures.ordered)

pub overflow_cast-spans-in-loop-k : goal.overflow_cast-spans-in-loop-k
overflow_cast-spans-in-loop-k c = let p = c.trim_utf8_part-part.ensures in omega (arith, p.high, inside (goal.at.overflow_cast-spans-in-loop-k c).After-trim_utf8_part-part, few (goal.at.overflow_cast-spans-in-loop-k c).After-trim_utf8_part-part)

pub bounds-spans-k-in-loop-k : goal.bounds-spans-k-in-loop-k
bounds-spans-k-in-loop-k c =
    let h : c.loop-k.k * 2 + 1 < length c.loop-k.spans = omega (arith, room (goal.at.bounds-spans-k-in-loop-k c).After-trim_utf8_part-part, c.loop-k.invariant.1.same) in
    lt-length-set c.loop-k.spans (c.loop-k.k * 2) c.trim_utf8_part-part.result.from h

pub loop-k-preserved : goal.loop-k-preserved
loop-k-preserved c =
    let p = c.trim_utf8_part-part.ensures in
    let a = c.args in
    let k = c.loop-k.k in (
      omega (arith, c.loop-k-test.true),
      spans-next _ _ _ _ k _ _ c.loop-k.invariant.1 (room (goal.at.loop-k-preserved c).After-trim_utf8_part-part) (omega (arith, p.ordered, p.high, inside (goal.at.loop-k-preserved c).After-trim_utf8_part-part))
          (part_trimmed a.l.bytes.now (get_or a.l.offsets.now k 0) (get_or a.l.sizes.now k 0) _ c.trim_utf8_part-part.result.from c.trim_utf8_part-part.result.to p),
    )

pub returns : goal.returns
returns c =
    let a = c.args in
    let f = spans_end _ _ _ _ (length a.l.offsets.now) _ c.loop-k.invariant.1 c.loop-k.invariant.0 c.loop-k-test.false in
    record { texts = f.texts; inside = record { inside = f.inside } }
