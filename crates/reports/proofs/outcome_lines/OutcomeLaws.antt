-- An outcome's lines are the lines of what is stated.
use Rattle.std.specs.Prelude.{Ok, Err, ℕ}
use mathlib.Core.List.{List, map}
use mathlib.Core.Path.{◌≡◌, refl, ap, ◌∙◌}
use Prim.Native.Nat.{ℕ, ◌^◌, ◌≤◌, ◌<◌}
use native.Mathlib.Omega.{arith}
use lib.Dec.{ltb}
use lib.ListN.{length, drop}
use Rattle.lists.specs.Put.{put}
use Rattle.lists.proofs.PutLaws.{put_front}
use Rattle.lists.proofs.Tests.{by_flag}
use Rattle.model.specs.Policies.{orientation_number}
use Rattle.model.specs.Refusals.{Reading}
use Rattle.model.specs.declared.Orientation.{Orientation}
use Rattle.model.specs.declared.Orientation.TheVariants.{RulesAsRows, RulesAsColumns}
use Rattle.record.specs.Policy.{Policy}
use Rattle.record.specs.Record.{slots_in, total, encode, table_of}
use Rattle.record.specs.Slots.{slot_limit}
use Rattle.record.proofs.PolicyTexts.{hit-fits, texts-counted}
use Rattle.recognizer.specs.Told.{table_read}
use Rattle.plane.specs.lent.LentPlane.{LentPlane}
use Rattle.policies.specs.DrawnPolicy.{walked_policy}
use Rattle.policies.specs.LentPolicy.{lent_policy}
use Rattle.policies.specs.Recordable.{Recordable}
use Rattle.policies.specs.Source.{drawing, plane}
use Rattle.policies.proofs.StatedFits.{stated_recordable, stated_few}
use Rattle.policies.proofs.WalkedIsDrawn.{walked_is_drawn}
use Rattle.print.specs.listing.RecordLines.{record_lines}
use Rattle.print.specs.listing.TableLines.{table_lines}
use Rattle.print.proofs.listing.ListingLaws.{encode-lines}
use Rattle.print.proofs.listing.SoundLaws.{put-sound}
use Rattle.recognizer.specs.records.Outcomes.{outcome_of, record_of}
use Rattle.builder.specs.room.Room.{room_from}
use Rattle.builder.proofs.room.RoomLaws.{room_exact}
use Rattle.builder.specs.ends.Ends.{End, end_by, end_of}
use Rattle.reports.specs.outcome_lines.Outcomes.{outcome_lines, OutcomeSound}
use Rattle.reports.specs.outcome_lines.PolicyLines.{policy_lines}

orientation-fits : (o : Orientation) → orientation_number o < 2 ^ 32
orientation-fits RulesAsRows = omega arith
orientation-fits RulesAsColumns = omega arith

-- what is stated can be recorded, in few slots
pub record Printable (m : Reading Policy) : Type 0 where
  pub recordable : (p : Policy) → m ≡ Ok p → Recordable p
  pub few : (p : Policy) → m ≡ Ok p → slots_in (table_of p) ≤ slot_limit

pub drawn_printable : (s : List ℕ) → Printable (walked_policy s)
drawn_printable s =
    record {
      recordable = λ p e. stated_recordable (drawing s) p ((walked_is_drawn s p).0 e);
      few = λ p e. stated_few (drawing s) p ((walked_is_drawn s p).0 e);
    }

pub lent_printable : (l : LentPlane) → Printable (lent_policy l)
lent_printable l = record { recordable = stated_recordable (plane l); few = stated_few (plane l) }

put-lines : (p : Policy) (d : List ℕ) → Recordable p → record_lines (put d 0 (encode (table_of p))) ≡ table_lines (table_of p)
put-lines p d h =
    let e = encode (table_of p) in
    ap record_lines (put_front d e (length e) refl)
    ∙ encode-lines (table_of p) (drop (length e) d) (texts-counted p h.complete) h.total (hit-fits p.hit) (orientation-fits p.orientation) h.rules

-- an outcome and a record slice whose lines are those of what is stated, with n bytes for the record
pub record Reported (m : Reading Policy) (n : ℕ) (r : Reading ℕ) (o : List ℕ) : Type 0 where
  pub sound : OutcomeSound r o
  pub lines : outcome_lines r o ≡ policy_lines n m

outcome_reported : (m : Reading Policy) (d : List ℕ) → Printable m → Reported m (length d) (outcome_of (table_read m) (length d)) (record_of (table_read m) d)
unfolding policy_lines
outcome_reported (Ok p) d h =
    let q = h.recordable p refl in
    by_flag (ltb (length d) (total (table_of p))) (λ t. rw t (record { sound = tt; lines = rw t }))
    (λ t. rw t (record { sound = put-sound (table_of p) (texts-counted p q.complete) q.total (h.few p refl) d; lines = rw t (put-lines p d q) }))
outcome_reported (Err r) d h = record { sound = tt; lines = refl }

-- a call with work slices of exactly their lengths
pub end_reported : (sizes : List ℕ) (m : Reading Policy) (works cleared : List (List ℕ)) (d o : List ℕ) (r : Reading ℕ) (n : ℕ) → Printable m → map length works ≡ sizes → length d ≡ n
    → end_of sizes m works d ≡ record { outcome = r; works = cleared; out = o } → Reported m n r o
unfolding end_of
end_reported sizes m works cleared d o r n h w l e =
    let z : room_from 0 (map length works) sizes ≡ Ok tt = ap (λ (ks : List ℕ). room_from 0 ks sizes) w ∙ room_exact 0 sizes in
    let q : end_by (Ok tt) (table_read m) works d ≡ record { outcome = r; works = cleared; out = o } = rw z at e in
    let a : outcome_of (table_read m) (length d) ≡ r = ap (λ (x : End). x.outcome) q in
    let b : record_of (table_read m) d ≡ o = ap (λ (x : End). x.out) q in
    rw (← a, ← b, ← l) (outcome_reported m d h)
