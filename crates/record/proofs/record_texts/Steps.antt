-- The writer's steps for texts: what they leave in the slice.
use Rattle.std.specs.Prelude.{None, Some}
use mathlib.Core.Path.{◌≡◌, refl, sym, ◌∙◌}
use mathlib.Core.List.{List, [], ◌∷◌, ◌++◌}
use Prim.Native.Nat.{ℕ, ◌+◌, ◌*◌, ◌^◌, ◌≤◌, ◌<◌}
use native.Mathlib.Omega.{arith}
use lib.ListN.{length, take, drop}
use Rattle.lists.specs.Put.{put}
use Rattle.lists.proofs.PutLaws.{put_comm}
use Rattle.record.specs.Record.{word, bytes_of, slot_of, slot_offset}
use Rattle.record.specs.Slots.{kind_at, offset_at, length_at}
use Rattle.record.specs.Written.{with_texts}
use Rattle.record.specs.record_texts.PlainSlots.{text_at, Parts, Fits}
use Rattle.record.proofs.record_texts.Writing.{with_absent, with_present, text-fits}
use Rattle.record.proofs.record_texts.PlainSlots.{absent_text, present-text}

-- a present text: its slot, then its bytes; or the bytes first
pub text_written : (d y z : List ℕ) (i o : ℕ) (b : List ℕ) → y ≡ put d (slot_offset + 8 * i) (word o ++ word (length b)) → z ≡ put y o b → z ≡ with_texts d i o (Some b ∷ [])
text_written d y z i o b ey ez = ez ∙ rw ey (sym (with_present d i o b))

pub slot_written : (d y z : List ℕ) (i o : ℕ) (b : List ℕ) → slot_offset + 8 * i + 8 ≤ o → o + length b ≤ length d
    → y ≡ put d o b → z ≡ put y (slot_offset + 8 * i) (word o ++ word (length b)) → z ≡ with_texts d i o (Some b ∷ [])
slot_written d y z i o b h g ey ez =
    text_written d (put d (slot_offset + 8 * i) (word o ++ word (length b))) z i o b refl
    (ez ∙ rw ey (put_comm d (slot_offset + 8 * i) (word o ++ word (length b)) o b (omega arith) (omega arith)))

-- a slot of the work slice that is absent
pub absent_part : (s d x x' : List ℕ) (i o : ℕ) → kind_at d i ≡ 0 → x' ≡ put x (slot_offset + 8 * i) (slot_of 0 None)
    → (o ≡ o + length (bytes_of (text_at s d i))) × (x' ≡ with_texts x i o (text_at s d i ∷ []))
absent_part s d x x' i o k e = rw (absent_text s d i k) (omega arith, e ∙ sym (with_absent x i o))

-- one that is a part of the texts: the n bytes b from index a on
module _ {s d : List ℕ} {c : ℕ} (p : Parts s d c) (i a n : ℕ) (h : i < c) (l : kind_at d i ≤ 1) (k : kind_at d i ≡ 0 → ⊥) (ea : a ≡ offset_at d i) (en : n ≡ length_at d i) where
  pub part_within : a + n ≤ length s
  part_within =
      let q : kind_at d i ≡ 1 = omega arith in
      omega (arith, p.inside i h q)

  module _ (b : List ℕ) (e : b ≡ take n (drop a s)) where
    part_text : text_at s d i ≡ Some b
    part_text = present-text s d i k ∙ rw (e, ea, en)

    pub present-fits : (o m : ℕ) → Fits (text_at s d i ∷ []) c i o m → (slot_offset + 8 * i + 8 ≤ o) × (o + length b ≤ m) × (o + length b < 2 ^ 32)
    present-fits o m f = text-fits b c i o m h (rw part_text at f)

    pub present_part : (x x' : List ℕ) (o r : ℕ) → (r ≡ o + length b) × (x' ≡ with_texts x i o (Some b ∷ []))
        → (r ≡ o + length (bytes_of (text_at s d i))) × (x' ≡ with_texts x i o (text_at s d i ∷ []))
    present_part x x' o r w = rw part_text w
