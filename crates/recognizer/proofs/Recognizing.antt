-- The table of an upright sheet whose texts are spelled by slots.
use Rattle.std.specs.Prelude.{Ok, Err, None}
use mathlib.Core.Path.{◌≡◌, refl, sym, ap, ◌∙◌}
use mathlib.Core.List.{List, ◌∷◌}
use Prim.Native.Nat.{ℕ, suc, ◌+◌, ◌-◌, ◌*◌, ◌≤◌, ◌<◌}
use native.Mathlib.Omega.{arith}
use lib.ListN.{length}
use Rattle.lists.specs.Answer.{◌>>=◌}
use Rattle.model.specs.Limits.{plane_rows}
use Rattle.model.specs.Refusals.{Reading}
use Rattle.model.specs.declared.Refusal.{Refusal}
use Rattle.cells.specs.Plane.{Plane}
use Rattle.record.specs.Policy.{Text, Policy, Complete}
use Rattle.record.specs.Record.{packed, slot_count, slot_texts}
use Rattle.record.specs.Slots.{slot_limit}
use Rattle.record.proofs.PolicyTexts.{texts-counted}
use Rattle.plane.specs.Sheet.{Sheet, stated_sheet}
use Rattle.clauses.specs.Shape.{checked_shape}
use Rattle.clauses.specs.Spelled.{spelled}
use Rattle.clauses.specs.Stated.{Clauses, stated_by, clause_texts}
use Rattle.clauses.specs.Told.{ShapeFits}
use Rattle.clauses.specs.declared.Shape.{Shape}
use Rattle.clauses.proofs.Apart.{found_as}
use Rattle.clauses.proofs.ClausesApart.{clauses_apart}
use Rattle.clauses.proofs.SpelledStated.{spelled_stated, counted_stated, complete_stated}
use Rattle.recognizer.specs.slot_runs.Spelt.{Spelt}
use Rattle.recognizer.specs.declared.slot_runs.Filled.{Filled}
use Rattle.recognizer.proofs.slots.ShapeRoom.{room-all}
use Rattle.record.specs.writer.SlotTexts.{texts_from}
use Rattle.recognizer.specs.StatedPolicy.{sheet_policy, stated_policy}
use Rattle.recognizer.specs.Told.{table_read, table_in, TableHeld}
use Rattle.recognizer.specs.declared.SlotTable.{SlotTable}

-- a policy of what the clause rules give
abbrev pub with : Text → Sheet → Clauses → Policy
with name s c =
    record {
      name = name;
      hit = s.policy;
      orientation = s.orientation;
      label = c.label;
      inputs = c.inputs;
      outputs = c.outputs;
      annotations = c.annotations;
      rules = c.rules;
    }

pub with_texts_lem : (name : Text) (s : Sheet) (c : Clauses) → slot_texts (with name s c) ≡ name ∷ clause_texts c
unfolding slot_texts clause_texts
with_texts_lem name s c = refl

module _ (text : ℕ → List ℕ) (s : Sheet) (some : 0 < s.rules) where
  -- by the shape
  pub by_shape : (name : Text) → sheet_policy name text s ≡ ◌>>=◌ (checked_shape s.plane s.rules) (λ f. Ok (with name s (stated_by (found_as text s.plane f) s.rules)))
  unfolding sheet_policy
  by_shape name = rw (clauses_apart text s.plane s.rules some) (go (checked_shape s.plane s.rules))
    where
      go : (m : Reading Shape) → ◌>>=◌ (◌>>=◌ m (λ f. Ok (stated_by (found_as text s.plane f) s.rules))) (λ c. Ok (with name s c))
          ≡ ◌>>=◌ m (λ f. Ok (with name s (stated_by (found_as text s.plane f) s.rules)))
      go (Ok f) = refl
      go (Err r) = refl

  pub not_shaped : (r : Refusal) → Err r ≡ checked_shape s.plane s.rules → (name : Text) → Err r ≡ table_read (sheet_policy name text s)
  not_shaped r e name = rw (by_shape name, ← e)

  module _ (f : Shape) (e : Ok f ≡ checked_shape s.plane s.rules) where
    abbrev pub stated : Clauses
    stated = stated_by (found_as text s.plane f) s.rules

    -- the policy that a sheet of a shape states
    pub shaped : (name : Text) → sheet_policy name text s ≡ Ok (with name s stated)
    shaped name = by_shape name ∙ rw (← e)

    pub complete : (name : Text) → Complete (with name s stated)
    complete name = complete_stated text s.plane s.rules f (sym e)

    pub texts-spelled : clause_texts stated ≡ spelled text s.plane f s.rules
    texts-spelled = spelled_stated text s.plane s.rules f (sym e)

    -- the numbers of its table
    abbrev pub table_as : ℕ → ℕ → SlotTable
    table_as slots bytes =
        record {
          policy = s.policy;
          orientation = s.orientation;
          inputs = f.inputs;
          outputs = f.outputs;
          annotations = f.notes.count;
          rules = s.rules;
          slots = slots;
          bytes = bytes;
        }

    counted : 1 + length (spelled text s.plane f s.rules) ≡ slot_count f.inputs f.outputs f.notes.count s.rules
    counted =
        let c = counted_stated text s.plane s.rules f in
        let n = texts-counted (with None s stated) (complete None) in
        let m : length (slot_texts (with None s stated)) ≡ suc (length (spelled text s.plane f s.rules)) = ap length (with_texts_lem None s stated) ∙ ap (λ (l : List Text). suc (length l)) texts-spelled in
        omega (arith, m) ∙ sym m ∙ n ∙ rw (c.0, c.1, c.2, c.3)

    module _ {bytes d o : List ℕ} {to : Filled} (p : Spelt bytes d o (record { slot = 1; bytes = 0 }) to (spelled text s.plane f s.rules)) where
      behind : to.slot - 1 ≡ length (spelled text s.plane f s.rules)
      behind = omega (arith, p.slots)

      spelt : texts_from bytes o 1 (to.slot - 1) ≡ spelled text s.plane f s.rules
      spelt = rw behind p.texts

      pub stands : (name : Text) → table_in name (Ok (table_as to.slot to.bytes)) bytes o ≡ table_read (sheet_policy name text s)
      stands name =
          let c = counted_stated text s.plane s.rules f in
          rw (shaped name, with_texts_lem name s stated, texts-spelled, spelt, c.0, c.1, c.2, c.3)

      pub table-held : {rows : ℕ} → ShapeFits f rows s.rules → rows ≤ plane_rows → 3 * slot_limit ≤ length d → TableHeld (table_as to.slot to.bytes) bytes o
      table-held {rows} h l m =
          let q : length (packed (texts_from bytes o 1 (to.slot - 1))) ≡ length (packed (spelled text s.plane f s.rules)) = ap (λ (ts : List Text). length (packed ts)) spelt in
          record {
            slots = omega (arith, p.slots) ∙ counted;
            few = omega (arith, p.slots, counted, (room-all {d = d} h l m).few);
            rules = omega (arith, h.height);
            total = omega (arith, p.total, q);
            light = p.light (omega arith);
            inside = p.inside;
          }

-- from the upright sheet to its plane
module _ (text : ℕ → List ℕ) (P : Plane) (name : Text) where
  pub not_stated : (r : Refusal) → Err r ≡ stated_sheet text P → Err r ≡ table_read (stated_policy name text P)
  unfolding stated_policy
  not_stated r e = rw (← e)

  pub stated_sheet_lem : (s : Sheet) → Ok s ≡ stated_sheet text P → table_read (sheet_policy name text s) ≡ table_read (stated_policy name text P)
  unfolding stated_policy
  stated_sheet_lem s e = rw (← e)
