-- Every policy that a drawing or a lent plane states can be recorded, in few slots: the theorem `stated_recordable`, and `stated_few`.
use Rattle.std.specs.Prelude.{Ok, None}
use mathlib.Core.Path.{◌≡◌}
use mathlib.Core.List.{List}
use Prim.Native.Nat.{ℕ, ◌≤◌}
use native.Mathlib.Omega.{arith}
use Rattle.lists.proofs.AnswerLaws.{then_ok}
use Rattle.record.specs.Policy.{Policy}
use Rattle.record.specs.Record.{slots_in, table_of}
use Rattle.record.specs.Slots.{slot_limit}
use Rattle.plane.specs.lent.LentPlane.{LentPlane, lent_of}
use Rattle.scan.specs.sheet_rows.Rows.{rows_at}
use Rattle.walks.specs.Frame.{frame_of}
use Rattle.canvas.specs.Layers.{sheet_by}
use Rattle.policies.specs.DrawnPolicy.{drawn_plane_by, name_by, policy_by, walked_policy}
use Rattle.policies.specs.LentPolicy.{text_in, lent_policy}
use Rattle.policies.specs.Recordable.{Recordable}
use Rattle.policies.specs.Source.{Source, drawing, plane, stated_by}
use Rattle.policies.proofs.DrawnWithin.{drawn-within, name-within}
use Rattle.policies.proofs.LentWithin.{lent-within}
use Rattle.policies.proofs.PlaneRecordable.{Bounded, plane_bounded}
use Rattle.policies.proofs.WalkedIsDrawn.{walked_is_drawn}

lent_bounded : (l : LentPlane) (p : Policy) → lent_policy l ≡ Ok p → Bounded p
unfolding lent_policy
lent_bounded l p e =
    let t = then_ok (lent_of l) _ p e in
    let w = lent-within l t.0 t.1 in
    plane_bounded None (text_in t.0) (omega arith) w.texts t.0.plane w.plane p t.2

walked_bounded : (s : List ℕ) (p : Policy) → walked_policy s ≡ Ok p → Bounded p
unfolding policy_by
walked_bounded s p e =
    let rs = rows_at s 0 in
    let o = then_ok (sheet_by frame_of s) _ p e in
    let t = then_ok (drawn_plane_by frame_of rs o.0) _ p o.2 in
    let n = then_ok (name_by frame_of rs o.0.named) _ p t.2 in
    let w = drawn-within rs o.0 t.0 t.1 in
    plane_bounded n.0 (text_in t.0) (name-within rs o.0 t.0 t.1 o.0.named n.0 n.1) w.texts t.0.plane w.plane p n.2

stated_bounded : (x : Source) (p : Policy) → stated_by x ≡ Ok p → Bounded p
stated_bounded (drawing s) p e = walked_bounded s p ((walked_is_drawn s p).1 e)
stated_bounded (plane l) p e = lent_bounded l p e

pub stated_recordable : (x : Source) (p : Policy) → stated_by x ≡ Ok p → Recordable p
stated_recordable x p e = (stated_bounded x p e).recordable

pub stated_few : (x : Source) (p : Policy) → stated_by x ≡ Ok p → slots_in (table_of p) ≤ slot_limit
stated_few x p e = (stated_bounded x p e).few
