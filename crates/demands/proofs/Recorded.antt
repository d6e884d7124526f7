-- What a call that answers a record has read and written.
use Rattle.std.specs.Prelude.{Ok, Err}
use mathlib.Core.Bool.{Bool, true, false}
use mathlib.Core.List.{List, map}
use mathlib.Core.Path.{◌≡◌, refl}
use Prim.Native.Nat.{ℕ}
use native.Mathlib.Omega.{arith}
use lib.Dec.{ltb}
use lib.ListN.{length}
use Rattle.lists.specs.Choose.{choose}
use Rattle.lists.specs.Put.{put}
use Rattle.model.specs.Refusals.{Reading}
use Rattle.model.specs.declared.Refusal.{Refusal}
use Rattle.model.specs.declared.Refusal.TheVariants.{OutputSliceShort}
use Rattle.record.specs.Policy.{Policy}
use Rattle.record.specs.Record.{total, encode, table_of}
use Rattle.recognizer.specs.Told.{table_read}
use Rattle.builder.specs.room.Room.{room_from}
use Rattle.builder.specs.ends.Ends.{End, end_by, end_of}
use Rattle.recognizer.specs.records.Outcomes.{outcome_of}
use Rattle.policies.specs.DrawnPolicy.{walked_policy}
use Rattle.policies.specs.LentPolicy.{lent_policy}
use Rattle.policies.specs.Source.{Source, drawing, plane, stated_by}
use Rattle.policies.proofs.WalkedIsDrawn.{walked_is_drawn}
use Rattle.demands.specs.SourceEnd.{source_end}

no_record : {A : Type 0} {r : Refusal} {k : ℕ} → Err r ≡ Ok k → A
no_record e = let z : ◌≡◌ {A = ℕ} 0 1 = cc in absurd (omega arith)

-- the policy p was read, and its record written in front of what was there
pub record Recorded (m : Reading Policy) (e : End) (out : List ℕ) : Type 0 where
  pub policy : Policy
  pub read : m ≡ Ok policy
  pub outcome : e.outcome ≡ Ok (total (table_of policy))
  pub written : e.out ≡ put out 0 (encode (table_of policy))

table_recorded : (p : Policy) (works : List (List ℕ)) (out : List ℕ) (t : Bool) (k : ℕ)
    → choose t (Err (OutputSliceShort (total (table_of p)))) (Ok (total (table_of p))) ≡ Ok k → t ≡ false
table_recorded p works out true k e = no_record e
table_recorded p works out false k e = refl

policy_recorded : (m : Reading Policy) (works : List (List ℕ)) (out : List ℕ) (k : ℕ) → outcome_of (table_read m) (length out) ≡ Ok k
    → Recorded m (end_by (Ok tt) (table_read m) works out) out
policy_recorded (Ok p) works out k e =
    let f = table_recorded p works out (ltb (length out) (total (table_of p))) k e in
    record { policy = p; read = refl; outcome = rw f; written = rw f }
policy_recorded (Err r) works out k e = no_record e

pub recorded : (sizes : List ℕ) (m : Reading Policy) (works : List (List ℕ)) (out : List ℕ) (k : ℕ) → (end_of sizes m works out).outcome ≡ Ok k → Recorded m (end_of sizes m works out) out
unfolding end_of
recorded sizes m works out k e = go (room_from 0 (map length works) sizes) e
  where
    go : (u : Reading (Unit {0})) → (end_by u (table_read m) works out).outcome ≡ Ok k → Recorded m (end_by u (table_read m) works out) out
    go (Ok u) e = policy_recorded m works out k e
    go (Err r) e = no_record e

-- a source that is accepted states a policy
pub accepted : (x : Source) (works : List (List ℕ)) (out : List ℕ) (k : ℕ) → (source_end x works out).outcome ≡ Ok k → Recorded (stated_by x) (source_end x works out) out
accepted (drawing s) works out k e =
    let r = recorded _ (walked_policy s) works out k e in
    record { policy = r.policy; read = (walked_is_drawn s r.policy).0 r.read; outcome = r.outcome; written = r.written }
accepted (plane l) works out k e = recorded _ (lent_policy l) works out k e
