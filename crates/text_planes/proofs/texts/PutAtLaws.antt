-- Laws of `PutAt`: nothing written, two writings one behind the other, and one past 61,440 bytes.
use Rattle.std.specs.Prelude.{Ok, Err}
use mathlib.Core.Path.{sym, ap, ◌∙◌}
use mathlib.Core.List.{List, [], ◌++◌}
use Prim.Native.Nat.{ℕ, ◌+◌, ◌≤◌, ◌<◌}
use native.Mathlib.Omega.{arith}
use lib.ListN.{length, length-append}
use Rattle.lists.specs.Put.{put}
use Rattle.lists.proofs.PutLaws.{put_nil, put_next}
use Rattle.model.specs.Limits.{text_bytes}
use Rattle.model.specs.Refusals.{Reading}
use Rattle.text_planes.specs.texts.Spans.{WrittenTo, PutAt}

pub written_none : (d : List ℕ) (at : ℕ) → at ≤ text_bytes → WrittenTo [] d d at at
written_none d at h = record { ends = omega arith; room = h; put = sym (put_nil d at) }

module _ {u d m : List ℕ} {at p : ℕ} (q : WrittenTo u d m at p) where
  pub written_then : {v o : List ℕ} {e : ℕ} → text_bytes ≤ length d → WrittenTo v m o p e → WrittenTo (u ++ v) d o at e
  written_then {v} room n =
      record {
        ends = omega (arith, n.ends, q.ends, length-append u v);
        room = n.room;
        put = n.put ∙ ap (λ (x : List ℕ). put x p v) q.put ∙ put_next d at u v p q.ends (omega (arith, q.room, room));
      }

  pub written_past : (v : List ℕ) → text_bytes < p + length v → text_bytes < at + length (u ++ v)
  written_past v h = omega (arith, q.ends, length-append u v)

  pub put_then : (v o : List ℕ) (r : Reading ℕ) → text_bytes ≤ length d → PutAt v m o p r → PutAt (u ++ v) d o at r
  put_then v o (Ok e) room n = written_then room n
  put_then v o (Err r) room n = (written_past v n.0, n.1)
