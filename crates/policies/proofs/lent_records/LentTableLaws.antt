-- The table of a lent plane, from its plane and its texts.
use Rattle.std.specs.Prelude.{Ok, Err, None}
use mathlib.Core.Path.{◌≡◌, sym}
use Prim.Native.Nat.{◌≤◌}
use lib.ListN.{length}
use Rattle.lists.proofs.AnswerLaws.{refused-ok}
use Rattle.lists.proofs.Tests.{by_flag}
use Rattle.model.specs.Limits.{text_bytes}
use Rattle.model.specs.declared.Refusal.{Refusal}
use Rattle.cells.specs.Plane.{TextPlane}
use Rattle.plane.specs.lent.LentPlane.{LentPlane, well_formed, lent_of}
use Rattle.plane.proofs.lent.FormLaws.{parts_good_lem}
use Rattle.recognizer.specs.StatedPolicy.{stated_policy}
use Rattle.recognizer.specs.Told.{table_read}
use Rattle.policies.specs.LentPolicy.{text_in, lent_policy}

module _ (l : LentPlane) where
  pub not_lent : (r : Refusal) → Err r ≡ lent_of l → Err r ≡ table_read (lent_policy l)
  unfolding lent_policy
  not_lent r e = rw (← e)

  module _ (t : TextPlane) (e : Ok t ≡ lent_of l) where
    pub lent-policy : table_read (stated_policy None (text_in t) t.plane) ≡ table_read (lent_policy l)
    unfolding lent_policy
    lent-policy = rw (← e)

    pub few_bytes : length l.bytes ≤ text_bytes
    unfolding lent_of
    few_bytes = by_flag (well_formed l) (λ h. (parts_good_lem l h).few) (λ h. refused-ok (sym (rw h at e)))
