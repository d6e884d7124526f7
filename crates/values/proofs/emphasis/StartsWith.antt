-- Laws of what a text starts and ends with.
use mathlib.Core.Path.{◌≡◌, refl, sym, ap, ◌∙◌}
use mathlib.Core.Bool.{Bool, true, false, ◌&&◌}
use mathlib.Core.List.{List, [], ◌∷◌}
use Prim.Native.Nat.{ℕ, zero, suc, ◌+◌, ◌-◌, ◌≤◌, ◌<◌}
use native.Mathlib.Omega.{arith}
use Rattle.std.proofs.Math.Bool.{and-false}
use borrow.Author.Tests.{eqb-true, eqb-false, eq-eqb, ne_eqb, le-leb, lt-leb, leb-true, leb-false}
use lib.Dec.{eqb, leb}
use lib.ListN.{length, get_or, take, drop, length-drop}
use lib.Pointwise.{pointwise}
use lib.Seq.{get_or-drop, take_all}
use Rattle.lists.proofs.Tests.{by_flag, both, true_false}
use Rattle.values.specs.emphasis.Emphasis.{starts_with, ends_with}

-- what a text starts with is no longer than the text
pub starts_fits : (p s : List ℕ) → starts_with p s ≡ true → length p ≤ length s
unfolding starts_with
starts_fits [] s e = omega arith
starts_fits (a ∷ p) [] e = true_false e refl
starts_fits (a ∷ p) (b ∷ s) e = let h = starts_fits p s (both (eqb b a) (starts_with p s) e).1 in omega arith

pub starts_inside : (p s : List ℕ) (at : ℕ) → at ≤ length s → starts_with p (drop at s) ≡ true → at + length p ≤ length s
starts_inside p s at l e = omega (arith, starts_fits p (drop at s) e, length-drop at s)

-- byte by byte
starts_bytes : (p s : List ℕ) → starts_with p s ≡ true → (k : ℕ) → k < length p → get_or s k 0 ≡ get_or p k 0
unfolding starts_with
starts_bytes [] s e k h = absurd (omega arith)
starts_bytes (a ∷ p) [] e k h = true_false e refl
starts_bytes (a ∷ p) (b ∷ s) e zero h = eqb-true b a (both (eqb b a) (starts_with p s) e).0
starts_bytes (a ∷ p) (b ∷ s) e (suc k) h = starts_bytes p s (both (eqb b a) (starts_with p s) e).1 k (omega arith)

bytes-start : (p s : List ℕ) → length p ≤ length s → ((k : ℕ) → k < length p → get_or s k 0 ≡ get_or p k 0) → starts_with p s ≡ true
unfolding starts_with
bytes-start [] s l h = refl
bytes-start (a ∷ p) [] l h = absurd (omega arith)
bytes-start (a ∷ p) (b ∷ s) l h =
    rw (eq-eqb b a (h 0 (omega arith)), bytes-start p s (omega arith) (λ k x. h (suc k) (omega arith)))

-- p stands in s from x on
module _ (p s : List ℕ) (x : ℕ) where
  pub place-bytes : starts_with p (drop x s) ≡ true → (k : ℕ) → k < length p → get_or s (x + k) 0 ≡ get_or p k 0
  place-bytes e k h = sym (get_or-drop x s k 0) ∙ starts_bytes p (drop x s) e k h

  pub bytes-place : x + length p ≤ length s → ((k : ℕ) → k < length p → get_or s (x + k) 0 ≡ get_or p k 0) → starts_with p (drop x s) ≡ true
  bytes-place l h = bytes-start p (drop x s) (omega (arith, length-drop x s)) (λ k y. get_or-drop x s k 0 ∙ h k y)

module _ (e s : List ℕ) where
  pub ends-short : length s < length e → false ≡ ends_with e s
  unfolding ends_with
  ends-short h = rw (lt-leb (length e) (length s) h)

  pub ends_test : length e ≤ length s → starts_with e (drop (length s - length e) s) ≡ ends_with e s
  unfolding ends_with
  ends_test h = rw (le-leb (length e) (length s) h)

  pub ends-fits : ends_with e s ≡ true → length e ≤ length s
  unfolding ends_with
  ends-fits t = leb-true (length e) (length s) (both (leb (length e) (length s)) (starts_with e (drop (length s - length e) s)) t).0

-- what the library's `strip_prefix`, `strip_suffix`, `starts_with` and `ends_with` compare
pub by-prefix : (e s : List ℕ) → pointwise eqb (take (length e) s) e ≡ starts_with e s
unfolding starts_with
by-prefix [] s = refl
by-prefix (a ∷ e) [] = refl
by-prefix (a ∷ e) (b ∷ s) = ap (λ (t : Bool). eqb b a && t) (by-prefix e s)

shorter : (x y : List ℕ) → length x < length y → pointwise eqb x y ≡ false
shorter x [] h = absurd (omega arith)
shorter [] (b ∷ y) h = refl
shorter (a ∷ x) (b ∷ y) h = ap (λ (t : Bool). eqb a b && t) (shorter x y (omega arith)) ∙ and-false (eqb a b)

pub by-suffix : (e s : List ℕ) → pointwise eqb (drop (length s - length e) s) e ≡ ends_with e s
by-suffix e s = by_flag (leb (length e) (length s)) long short
  where
    back : List ℕ
    back = drop (length s - length e) s

    long : leb (length e) (length s) ≡ true → pointwise eqb back e ≡ ends_with e s
    long t =
        let h = leb-true (length e) (length s) t in
        let m : length back ≤ length e = omega (arith, length-drop (length s - length e) s) in
        ap (λ (x : List ℕ). pointwise eqb x e) (sym (take_all (length e) back m)) ∙ by-prefix e back ∙ ends_test e s h

    short : leb (length e) (length s) ≡ false → pointwise eqb back e ≡ ends_with e s
    short t =
        let h = leb-false (length e) (length s) t in
        let z : length s - length e ≡ 0 = omega arith in
        let k : length back < length e = omega (arith, length-drop (length s - length e) s) in
        shorter back e k ∙ ends-short e s h

swapped : (a b : ℕ) → eqb a b ≡ eqb b a
swapped a b =
    by_flag (eqb a b) (λ y. y ∙ sym (eq-eqb b a (sym (eqb-true a b y)))) (λ z. z ∙ sym (ne_eqb b a (λ h. eqb-false a b z (sym h))))

turned : (x y : List ℕ) → pointwise eqb x y ≡ pointwise eqb y x
turned [] [] = refl
turned [] (b ∷ y) = refl
turned (a ∷ x) [] = refl
turned (a ∷ x) (b ∷ y) = rw (swapped a b, turned x y)

pub by-start : (e s : List ℕ) → pointwise eqb e (take (length e) s) ≡ starts_with e s
by-start e s = turned e (take (length e) s) ∙ by-prefix e s

pub by-end : (e s : List ℕ) → pointwise eqb e (drop (length s - length e) s) ≡ ends_with e s
by-end e s = turned e (drop (length s - length e) s) ∙ by-suffix e s

-- two tests, the second only where the first holds
pub both_hold : (a b : Bool) {t r : Bool} → t ≡ a → t ≡ true → r ≡ b → r ≡ (a && b)
both_hold a b {t} {r} p q e = e ∙ ap (λ (x : Bool). x && b) (sym q ∙ p)

pub first_fails : (a b : Bool) {t : Bool} → t ≡ a → t ≡ false → t ≡ (a && b)
first_fails a b {t} p q = q ∙ ap (λ (x : Bool). x && b) (sym q ∙ p)
