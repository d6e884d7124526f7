-- A slice that is being filled from the front.
use Rattle.std.specs.Prelude.{List, [], ◌∷◌, ◌++◌, ◌≡◌, ℕ, ◌+◌, ◌<◌, ◌≤◌, length, get_or, drop, set, replicate}
use Rattle.std.proofs.Common.{refl, sym, ap, ◌∙◌, arith, add-one, drop-cons, append_assoc}
use Rattle.std.proofs.Math.Seq.{set-append_seam}
use Rattle.std.proofs.lemmas.List.{length-replicate, replicate_more}
use lib.ListN.{length-set}
use Rattle.lists.specs.Zeros.{zeros}

-- the first i elements of s₀ are x
pub record Filling {A : Type 0} (x : A) (s₀ s : List A) (i : ℕ) : Type 0 where
  pub along : i ≤ length s₀
  pub long : length s ≡ length s₀
  pub done : s ≡ replicate i x ++ drop i s₀

-- element i is x too
filled_more : {A : Type 0} (x : A) (s : List A) (i : ℕ) → i < length s → set (replicate i x ++ drop i s) i x ≡ replicate (i + 1) x ++ drop (i + 1) s
filled_more {A} x s i h =
    let e : drop i s ≡ get_or s i x ∷ drop (i + 1) s = rw (add-one i) (drop-cons s i x h) in
    let r : length (replicate i x) ≡ i = length-replicate i x in
    let p : set (replicate i x ++ get_or s i x ∷ drop (i + 1) s) i x ≡ replicate i x ++ x ∷ drop (i + 1) s =
    ap (λ (k : ℕ). set (replicate i x ++ get_or s i x ∷ drop (i + 1) s) k x) (sym r) ∙ set-append_seam (replicate i x) (get_or s i x) (drop (i + 1) s) x in
    ap (λ (t : List A). set (replicate i x ++ t) i x) e ∙ p
    ∙ sym (append_assoc (replicate i x) (x ∷ []) (drop (i + 1) s))
    ∙ ap (λ (t : List A). t ++ drop (i + 1) s) (replicate_more i x)

module _ {A : Type 0} {x : A} {s₀ s : List A} {i : ℕ} (f : Filling x s₀ s i) where
  pub filling_more : i < length s₀ → Filling x s₀ (set s i x) (i + 1)
  filling_more h =
      record { along = omega arith; long = length-set s i x ∙ f.long; done = ap (λ (t : List A). set t i x) f.done ∙ filled_more x s₀ i h }

-- filled with 0 is cleared
pub filled-zeros : (s : List ℕ) → replicate (length s) 0 ≡ zeros s
unfolding zeros
filled-zeros s = refl
