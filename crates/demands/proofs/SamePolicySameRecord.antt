-- Demand 3, first half: "Whatever two drawings the reader accepts, however their boxes are joined or split: their records are the same bytes,
-- the orientation word set aside, exactly when the drawings state the same policy". Document 01: "A lent plane .. stands with the drawings
-- under demand 3."
use Rattle.std.specs.Prelude.{Ok}
use mathlib.Core.List.{List}
use mathlib.Core.Logic.{◌↔◌}
use mathlib.Core.Path.{◌≡◌, refl}
use Prim.Native.Nat.{ℕ}
use lib.ListN.{length, drop}
use Rattle.lists.specs.Put.{put}
use Rattle.lists.proofs.PutLaws.{put_front}
use Rattle.record.specs.Compared.{compared}
use Rattle.record.specs.Policy.{Policy, Same}
use Rattle.record.specs.Record.{encode, table_of}
use Rattle.record.proofs.RecordTellsPolicy.{record_tells_policy}
use Rattle.policies.specs.Source.{Source, stated_by}
use Rattle.policies.proofs.StatedFits.{stated_recordable}
use Rattle.demands.specs.SourceEnd.{source_end}
use Rattle.demands.proofs.Recorded.{accepted}

-- two sources that state the policies p and q, and record slices that were written to
pub told_apart : (x y : Source) (p q : Policy) (o u : List ℕ) → stated_by x ≡ Ok p → stated_by y ≡ Ok q
    → (compared (put o 0 (encode (table_of p))) ≡ compared (put u 0 (encode (table_of q)))) ↔ Same p q
told_apart x y p q o u e f =
    let a = stated_recordable x p e in
    let b = stated_recordable y q f in
    rw (put_front o (encode (table_of p)) (length (encode (table_of p))) refl, put_front u (encode (table_of q)) (length (encode (table_of q))) refl)
    (record_tells_policy p q (drop (length (encode (table_of p))) o) (drop (length (encode (table_of q))) u) a.complete b.complete a.total b.total a.rules b.rules)

-- what two accepted sources state, and that their records tell it
pub record Told (x y : Source) (wx wy : List (List ℕ)) (ox oy : List ℕ) : Type 0 where
  pub first : Policy
  pub second : Policy
  pub first_stated : stated_by x ≡ Ok first
  pub second_stated : stated_by y ≡ Ok second
  pub exactly : (compared (source_end x wx ox).out ≡ compared (source_end y wy oy).out) ↔ Same first second

-- for any two sources, drawings or lent planes in any mix, with whatever slices
pub same_policy_same_record : (x y : Source) (wx wy : List (List ℕ)) (ox oy : List ℕ) (m n : ℕ)
    → (source_end x wx ox).outcome ≡ Ok m → (source_end y wy oy).outcome ≡ Ok n → Told x y wx wy ox oy
same_policy_same_record x y wx wy ox oy m n e f =
    let a = accepted x wx ox m e in
    let b = accepted y wy oy n f in
    record {
      first = a.policy;
      second = b.policy;
      first_stated = a.read;
      second_stated = b.read;
      exactly = rw (a.written, b.written) (told_apart x y a.policy b.policy ox oy a.read b.read);
    }
