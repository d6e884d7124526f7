-- The values of a part, and the part that is their default.
use Rattle.std.specs.Prelude.{None, Some}
use mathlib.Core.Path.{◌≡◌, sym, ap, ◌∙◌}
use mathlib.Core.List.{List, [], ◌∷◌}
use Prim.Native.Nat.{ℕ, ◌+◌, ◌-◌, ◌≤◌, ◌<◌}
use native.Mathlib.Omega.{arith}
use lib.ListN.{length, take, drop}
use Rattle.lists.proofs.Parts.{part_part}
use Rattle.model.specs.Limits.{text_bytes}
use Rattle.record.specs.Policy.{Text}
use Rattle.values.specs.Values.{Values, values_of, MeasuredOf}
use Rattle.values.specs.declared.Rewritten.{Rewritten}
use Rattle.values.proofs.ValueLaws.{split-length}
use Rattle.cells.proofs.SpanLaws.{part_of_lem}
use Rattle.clauses.specs.Clauses.{present}
use Rattle.clauses.specs.Stated.{allowed_text, default_text}
use Rattle.recognizer.specs.slot_runs.Spelt.{part_of, PartIn}
use Rattle.recognizer.specs.declared.slot_runs.Part.{Part}
use Rattle.recognizer.proofs.slot_runs.SpeltLaws.{part_length, part_none, part_some}

-- the allowed values and the default
abbrev pub value_texts : Text → List Text
value_texts t = allowed_text t ∷ default_text t ∷ []

-- the part of a part from a to b
abbrev pub within : Part → ℕ → ℕ → Part
within p a b = record { offset = p.offset + a; size = b - a }

-- what is measured of a part whose values have a default from a to b
pub record MarkedIn (bytes : List ℕ) (p : Part) (n a b : ℕ) : Type 0 where
  pub size : n ≡ length (values_of (part_of bytes p)).allowed
  pub few : n ≤ text_bytes
  pub ordered : a ≤ b
  pub ends : b ≤ p.size
  pub default : (values_of (part_of bytes p)).default ≡ Some (part_of bytes (within p a b))

module _ (bytes : List ℕ) (p : Part) where
  pub values-none : p.size ≡ 0 → None ∷ None ∷ [] ≡ value_texts (present (part_of bytes p))
  values-none e = ap value_texts (sym (part_none bytes p e))

  abbrev lent : List ℕ
  lent = take (p.offset + p.size - p.offset) (drop p.offset bytes)

  module _ (i : PartIn p bytes) where
    pub marked_in : (v : Rewritten) → MeasuredOf (Some v) lent → MarkedIn bytes p v.bytes v.from v.to
    marked_in v m =
        let n = v.bytes in
        let a = v.from in
        let b = v.to in
        let t = part_of bytes p in
        let e : lent ≡ t = part_of_lem bytes p.offset p.size in
        let l : length t ≡ p.size = part_length bytes p i in
        let s : n ≡ length (values_of t).allowed = rw e at m.0 in
        let h : b ≤ length t = rw e at m.3 in
        let o : a ≤ b = m.2 in
        let z : p.offset + b - (p.offset + a) ≡ b - a = omega arith in
        let q : take (b - a) (drop (p.offset + a) bytes) ≡ take (b - a) (drop a t) =
        ap (λ (k : ℕ). take k (drop (p.offset + a) bytes)) (sym z) ∙ part_part bytes p.offset p.size a b o (omega arith) in
        let f : (values_of t).default ≡ Some (take (b - a) (drop a t)) = rw e at m.1 in
        record {
          size = s;
          few = omega (arith, split-length t, i.inside, i.few);
          ordered = o;
          ends = omega arith;
          default = f ∙ ap (λ (u : List ℕ). Some u) (sym q);
        }

    pub default_in : {n a b : ℕ} → MarkedIn bytes p n a b → PartIn (within p a b) bytes
    default_in m = record { inside = omega (arith, m.ordered, m.ends, i.inside); few = i.few }

    module _ (h : 0 < p.size) where
      pub values-plain : MeasuredOf None lent → Some (part_of bytes p) ∷ None ∷ [] ≡ value_texts (present (part_of bytes p))
      values-plain m =
          let t = part_of bytes p in
          let e : lent ≡ t = part_of_lem bytes p.offset p.size in
          let v : values_of t ≡ record { allowed = t; default = None } = rw e at m in
          sym (ap value_texts (part_some bytes p i h) ∙ ap (λ (x : Values). Some x.allowed ∷ x.default ∷ []) v)

      pub values-marked : {n a b : ℕ} → MarkedIn bytes p n a b
          → Some (values_of (part_of bytes p)).allowed ∷ Some (part_of bytes (within p a b)) ∷ [] ≡ value_texts (present (part_of bytes p))
      values-marked m =
          sym (ap value_texts (part_some bytes p i h) ∙ ap (λ (x : Text). Some (values_of (part_of bytes p)).allowed ∷ x ∷ []) m.default)
