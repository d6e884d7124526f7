-- Laws of plain slots, which are absent or a part of the texts: their texts.
use Rattle.std.specs.Prelude.{None, Some}
use mathlib.Core.Path.{◌≡◌, refl, ap}
use mathlib.Core.List.{List}
use Prim.Native.Nat.{ℕ, zero, suc}
use Rattle.record.specs.Slots.{kind_at, part_at}
use Rattle.record.specs.record_texts.PlainSlots.{of_kind, text_at}

-- the text of an absent slot, and of a part
module _ (s d : List ℕ) (i : ℕ) where
  pub absent_text : kind_at d i ≡ 0 → text_at s d i ≡ None
  unfolding text_at
  absent_text e = ap (λ (k : ℕ). of_kind k (part_at s d i)) e

  pub present-text : (kind_at d i ≡ 0 → ⊥) → text_at s d i ≡ Some (part_at s d i)
  unfolding text_at
  present-text h = go (kind_at d i) h
    where
      go : (k : ℕ) → (k ≡ 0 → ⊥) → of_kind k (part_at s d i) ≡ Some (part_at s d i)
      go zero f = absurd (f refl)
      go (suc k) f = refl
