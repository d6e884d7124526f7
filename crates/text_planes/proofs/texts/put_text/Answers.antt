-- `text_planes::texts::put_text` meets its contract.
use Rattle.std.proofs.lemmas.Result.{err_from_is_err_and}
use mathlib.Core.Path.{sym, subst}
use Prim.Native.Nat.{◌+◌, ◌-◌, ◌<◌}
use lib.ListN.{length}
use Rattle.model.specs.Layers.{picture_of}
use Rattle.model.specs.Limits.{text_bytes}
use Rattle.model.specs.declared.Rect.{Rect}
use Rattle.cells.specs.rects.Rects.{RectIn}
use Rattle.text_planes.specs.texts.RegionText.{text_of}
use Rattle.text_planes.proofs.texts.TextPutting.{Joining, joining_of, joining_start, joining_past, joining_more, joining_end}
use Rattle.text_planes.proofs.texts.put_text.Goals as goal
use Rattle.text_planes.proofs.texts.put_text.Goals.{After-at-r, At-loop-y}

inside : (c : After-at-r) → RectIn c.args.text.width c.args.text.height c.at-r.result
inside c = subst (RectIn c.args.text.width c.args.text.height) (sym c.at-r.ensures) c.requires.1

pub loop-y-init : goal.loop-y-init
loop-y-init c =
    let p = c.requires in
    joining_of c.at-r.ensures (joining_start c.args.text.sized (inside (goal.at.loop-y-init c).After-at-r) p.2 p.3)

-- the invariant, of the rect that was read
joining : (c : At-loop-y) → (let a = c.args in let r = c.at-r.result in Joining a.text.width a.text.height a.text.codes.now r (r.bottom - 1) a.bytes.now a.start c.loop-y.bytes c.loop-y.y c.loop-y.at)
joining c = joining_of (sym c.at-r.ensures) c.loop-y.invariant

pub returns-in_err-at : goal.returns-in_err-at
returns-in_err-at c =
    let p = err_from_is_err_and c.from_residual.result c.from_residual.ensures.1 in
    let a = c.args in
    let i = joining (goal.at.returns-in_err-at c).At-loop-y in
    let m = joining_past i c.loop-y-test.true c.trim_codes_part-part.ensures c.in_err-at.ensures.0 in
    rw (p.1, p.2) (subst (λ (q : Rect). text_bytes < a.start + length (text_of (picture_of a.text) q)) c.at-r.ensures m, c.in_err-at.ensures.1)

pub loop-y-preserved : goal.loop-y-preserved
loop-y-preserved c =
    joining_of c.at-r.ensures
    (joining_more (joining (goal.at.loop-y-preserved c).At-loop-y) c.loop-y-test.true c.trim_codes_part-part.ensures c.in_ok-at.ensures c.put_next.auto.bytes)

pub returns : goal.returns
returns c = joining_end c.loop-y.invariant c.loop-y-test.false
