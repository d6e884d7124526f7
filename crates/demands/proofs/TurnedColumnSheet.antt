-- Demand 3, second half: "Whichever even plane is lent and accepted as a column sheet: with its last row put before its first and the whole
-- then turned, the double lines of that row too, nothing but short slices refuses it, and otherwise it gives the same record, that word set
-- aside." Document 01: "Short slices are numbers 27 and 28."
use Rattle.std.specs.Prelude.{Ok, Err}
use mathlib.Core.List.{List, [], ◌∷◌, map}
use mathlib.Core.Path.{◌≡◌, refl, ap}
use Prim.Native.Nat.{ℕ, suc}
use native.Mathlib.Omega.{arith}
use lib.Dec.{ltb}
use lib.ListN.{length}
use Rattle.lists.specs.Put.{put}
use Rattle.lists.specs.Transpose.{Even}
use Rattle.lists.proofs.Tests.{by_flag}
use Rattle.model.specs.Refusals.{Reading, numbers}
use Rattle.model.specs.declared.Orientation.TheVariants.{RulesAsColumns}
use Rattle.model.specs.declared.Refusal.{Refusal}
use Rattle.model.specs.declared.Refusal.TheVariants.{OutputSliceShort, WorkSliceShort}
use Rattle.cells.specs.Plane.{TextPlane}
use Rattle.record.specs.Compared.{compared}
use Rattle.record.specs.Policy.{Policy, Same}
use Rattle.record.specs.Record.{total, encode, table_of}
use Rattle.plane.specs.lent.LentPlane.{LentPlane, lent_of}
use Rattle.policies.specs.LentPolicy.{lent_policy}
use Rattle.policies.specs.Source.{plane}
use Rattle.policies.specs.TurnedPlane.{turned_plane}
use Rattle.policies.proofs.TurnedPolicy.{policy_in_rows, turned-policy}
use Rattle.recognizer.specs.Told.{table_read}
use Rattle.builder.specs.room.Room.{room_from}
use Rattle.builder.specs.ends.Ends.{End, end_by, end_of}
use Rattle.builder.specs.lent_builder.LentEnd.{lent_sizes, lent_end}
use Rattle.demands.proofs.Recorded.{recorded}
use Rattle.demands.proofs.SamePolicySameRecord.{told_apart}

-- a call ends with a short slice, or with the record of the policy p; `other` is a record slice with which it is compared
pub data Ends (e : End) (p : Policy) (out other : List ℕ) : Type 0 where
  work_slice : (i n : ℕ) → e.outcome ≡ Err (WorkSliceShort i n) → Ends e p out other
  record_slice : (n : ℕ) → e.outcome ≡ Err (OutputSliceShort n) → Ends e p out other
  written : e.outcome ≡ Ok (total (table_of p)) → e.out ≡ put out 0 (encode (table_of p)) → compared e.out ≡ compared other → Ends e p out other

-- only a work slice is refused by its length
room-refused : (i : ℕ) (ns ks : List ℕ) (r : Refusal) → room_from i ns ks ≡ Err r → (j : ℕ) × (n : ℕ) × (r ≡ WorkSliceShort j n)
unfolding room_from
room-refused i [] ks r e = let z : ◌≡◌ {A = ℕ} 0 1 = cc in absurd (omega arith)
room-refused i (n ∷ ns) [] r e = let z : ◌≡◌ {A = ℕ} 0 1 = cc in absurd (omega arith)
room-refused i (n ∷ ns) (k ∷ ks) r e =
    by_flag (ltb n k) (λ t. let q = rw t at e in (i, k, cc)) (λ t. room-refused (suc i) ns ks r (rw t at e))

policy-ends : (sizes : List ℕ) (m : Reading Policy) (p : Policy) (works : List (List ℕ)) (out other : List ℕ) → m ≡ Ok p
    → compared (put out 0 (encode (table_of p))) ≡ compared other → Ends (end_of sizes m works out) p out other
unfolding end_of
policy-ends sizes m p works out other q c = rw q (go (room_from 0 (map length works) sizes) refl)
  where
    go : (u : Reading (Unit {0})) → room_from 0 (map length works) sizes ≡ u → Ends (end_by u (table_read (Ok p)) works out) p out other
    go (Err r) e =
        let s = room-refused 0 (map length works) sizes r e in
        work_slice s.0 s.1 (ap Err s.2)
    go (Ok u) e = by_flag (ltb (length out) (total (table_of p))) (λ t. record_slice (total (table_of p)) (rw t)) (λ f. written (rw f) (rw f) (rw f c))

module _ (l : LentPlane) (t : TextPlane) (p : Policy) (lent : lent_of l ≡ Ok t) (even : Even t.plane) (stated : lent_policy l ≡ Ok p) (columns : p.orientation ≡ RulesAsColumns) where
  same : Same (policy_in_rows p) p
  same = record { name = refl; hit = refl; label = refl; inputs = refl; outputs = refl; annotations = refl; rules = refl }

  -- with any slices lent to either call
  pub turned_column_sheet : (works turnedWorks : List (List ℕ)) (out turnedOut : List ℕ) (k : ℕ) → (lent_end l works out).outcome ≡ Ok k
      → Ends (lent_end (turned_plane l) turnedWorks turnedOut) (policy_in_rows p) turnedOut (lent_end l works out).out
  turned_column_sheet works turnedWorks out turnedOut k e =
      let q = turned-policy l t p lent even stated columns in
      let r = recorded lent_sizes (lent_policy l) works out k e in
      let z : r.policy ≡ p = let a = r.read in cc in
      policy-ends lent_sizes (lent_policy (turned_plane l)) (policy_in_rows p) turnedWorks turnedOut (lent_end l works out).out q
      (rw (r.written, z) ((told_apart (plane (turned_plane l)) (plane l) (policy_in_rows p) p turnedOut out q stated).1 same))
