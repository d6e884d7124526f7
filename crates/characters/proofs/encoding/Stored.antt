-- One to four bytes, stored one behind the other, are a short list written.
use mathlib.Core.Path.{◌≡◌, refl, ◌∙◌}
use mathlib.Core.List.{List, [], ◌∷◌}
use Prim.Native.Nat.{ℕ, ◌+◌, ◌≤◌}
use native.Mathlib.Omega.{arith}
use lib.ListN.{length, set}
use Rattle.lists.specs.Put.{put}
use Rattle.lists.proofs.PutLaws.{put_one, put_two, put_three, put_four}

module _ (v d : List ℕ) (at : ℕ) (h : at + 4 ≤ length d) {o : List ℕ} {a : ℕ} (p : o ≡ set d at a) where
  pub stored1 : v ≡ a ∷ [] → (at + 1 ≡ at + length v) × (o ≡ put d at v)
  stored1 e = rw e (refl, p ∙ put_one d at a (omega arith))

  module _ {o₂ : List ℕ} {b : ℕ} (p₂ : o₂ ≡ set o (at + 1) b) where
    pub stored2 : v ≡ a ∷ b ∷ [] → (at + 2 ≡ at + length v) × (o₂ ≡ put d at v)
    stored2 e = rw e (refl, p₂ ∙ rw p (put_two d at a b (omega arith)))

    module _ {o₃ : List ℕ} {c : ℕ} (p₃ : o₃ ≡ set o₂ (at + 2) c) where
      pub stored3 : v ≡ a ∷ b ∷ c ∷ [] → (at + 3 ≡ at + length v) × (o₃ ≡ put d at v)
      stored3 e = rw e (refl, p₃ ∙ rw (p₂, p) (put_three d at a b c (omega arith)))

      pub stored4 : {o₄ : List ℕ} {f : ℕ} → o₄ ≡ set o₃ (at + 3) f → v ≡ a ∷ b ∷ c ∷ f ∷ [] → (at + 4 ≡ at + length v) × (o₄ ≡ put d at v)
      stored4 {o₄} {f} p₄ e = rw e (refl, p₄ ∙ rw (p₃, p₂, p) (put_four d at a b c f (omega arith)))
