-- Repetitions of a mark in front of a text and at its end.
use mathlib.Core.Path.{◌≡◌, refl, sym, ap, ◌∙◌}
use mathlib.Core.Bool.{true, false}
use mathlib.Core.List.{List, [], ◌∷◌}
use Prim.Native.Nat.{ℕ, zero, suc, ◌+◌, ◌-◌, ◌≤◌, ◌<◌}
use native.Mathlib.Omega.{arith}
use borrow.Author.Tests.{lt-leb}
use lib.Dec.{eqb}
use lib.ListN.{length, take, drop, length-take}
use lib.Pointwise.{pointwise}
use lib.Seq.{drop-nil, take-take, take-length}
use Rattle.lists.specs.Choose.{choose}
use Rattle.lists.proofs.Tests.{by_flag}
use Rattle.values.specs.emphasis.Emphasis.{starts_with, ends_with, strip_start, strip_end, strip, marked}
use Rattle.values.specs.emphasis.Found.{Bare}
use Rattle.values.proofs.emphasis.StartsWith.{by-prefix, by-suffix}

skip_start : (k : ℕ) (e s : List ℕ) → strip_start k e s ≡ strip_start 0 e (drop k s)
unfolding strip_start
skip_start zero e s = refl
skip_start (suc k) e [] = refl
skip_start (suc k) e (c ∷ s) = skip_start k e s

-- one repetition in front, and none
start-more : (e s : List ℕ) → 0 < length e → starts_with e s ≡ true → strip_start 0 e s ≡ strip_start 0 e (drop (length e) s)
unfolding strip_start
start-more e [] n h = rw (drop-nil (length e))
start-more e (c ∷ s) n h =
    let m : suc (length e - 1) ≡ length e = omega arith in
    rw h (skip_start (length e - 1) e s ∙ ap (λ (k : ℕ). strip_start 0 e (drop k (c ∷ s))) m)

start_stop : (e s : List ℕ) → starts_with e s ≡ false → strip_start 0 e s ≡ s
unfolding strip_start
start_stop e [] h = refl
start_stop e (c ∷ s) h = rw h

end_none : (n : ℕ) (e : List ℕ) → 0 < length e → strip_end n e [] ≡ []
unfolding strip_end ends_with
end_none zero e h = refl
end_none (suc n) e h = rw (lt-leb (length e) 0 h)

-- as many repetitions as a text has bytes are enough
end_enough : (n m : ℕ) (e s : List ℕ) → 0 < length e → length s ≤ n → length s ≤ m → strip_end n e s ≡ strip_end m e s
unfolding strip_end
end_enough zero m e [] h a b = sym (end_none m e h)
end_enough zero m e (c ∷ s) h a b = absurd (omega arith)
end_enough (suc n) zero e [] h a b = end_none (suc n) e h
end_enough (suc n) zero e (c ∷ s) h a b = absurd (omega arith)
end_enough (suc n) (suc m) e s h a b =
    let l = length-take (length s - length e) s in
    ap (λ (x : List ℕ). choose (ends_with e s) x s)
    (end_enough n m e (take (length s - length e) s) h (omega (arith, l)) (omega (arith, l)))

-- one repetition at the end, and none
end-more : (e s : List ℕ) → 0 < length e → ends_with e s ≡ true
    → strip_end (length s) e s ≡ strip_end (length (take (length s - length e) s)) e (take (length s - length e) s)
unfolding strip_end
end-more e s n h =
    let l = length-take (length s - length e) s in
    let w : strip_end (suc (length s)) e s ≡ strip_end (length s) e (take (length s - length e) s) = rw h in
    end_enough (length s) (suc (length s)) e s n (omega arith) (omega arith) ∙ w
    ∙ end_enough (length s) (length (take (length s - length e) s)) e (take (length s - length e) s) n (omega (arith, l)) (omega arith)

end_stop : (n : ℕ) (e s : List ℕ) → ends_with e s ≡ false → strip_end n e s ≡ s
unfolding strip_end
end_stop zero e s h = refl
end_stop (suc n) e s h = rw h

-- what the library's `strip_prefix` and `strip_suffix` leave
module _ (e s : List ℕ) where
  pub prefix_gone : {r : List ℕ} {L : Type 0} → 0 < length e → (pointwise eqb (take (length e) s) e ≡ true) × (r ≡ drop (length e) s) × L
      → strip_start 0 e s ≡ strip_start 0 e r
  prefix_gone n c = start-more e s n (sym (by-prefix e s) ∙ c.0) ∙ ap (strip_start 0 e) (sym c.1)

  pub no-prefix : pointwise eqb (take (length e) s) e ≡ false → strip_start 0 e s ≡ s
  no-prefix c = start_stop e s (sym (by-prefix e s) ∙ c)

  pub suffix_gone : {r : List ℕ} {L : Type 0} → 0 < length e
      → (pointwise eqb (drop (length s - length e) s) e ≡ true) × (r ≡ take (length s - length e) s) × L
      → strip_end (length s) e s ≡ strip_end (length r) e r
  suffix_gone n c = end-more e s n (sym (by-suffix e s) ∙ c.0) ∙ ap (λ (x : List ℕ). strip_end (length x) e x) (sym c.1)

  pub no-suffix : pointwise eqb (drop (length s - length e) s) e ≡ false → strip_end (length s) e s ≡ s
  no-suffix c = end_stop (length s) e s (sym (by-suffix e s) ∙ c)

-- what is left is no longer than the text
start-length : (e s : List ℕ) (k : ℕ) → length (strip_start k e s) ≤ length s
unfolding strip_start
start-length e [] k = omega arith
start-length e (c ∷ s) zero =
    by_flag (starts_with e (c ∷ s)) (λ y. rw y (omega (arith, start-length e s (length e - 1)))) (λ z. rw z (omega arith))
start-length e (c ∷ s) (suc k) = omega (arith, start-length e s k)

end_length : (n : ℕ) (e s : List ℕ) → length (strip_end n e s) ≤ length s
unfolding strip_end
end_length zero e s = omega arith
end_length (suc n) e s =
    by_flag (ends_with e s)
    (λ y. rw y (omega (arith, end_length n e (take (length s - length e) s), length-take (length s - length e) s)))
    (λ z. rw z (omega arith))

pub strip-length : (e s : List ℕ) → length (strip e s) ≤ length s
unfolding strip
strip-length e s = omega (arith, end_length (length (strip_start 0 e s)) e (strip_start 0 e s), start-length e s 0)

-- a part at the end of s is one of c and s
behind : (c : ℕ) (s x : List ℕ) → length x ≤ length s → drop (length s - length x) s ≡ x → drop (suc (length s) - length x) (c ∷ s) ≡ x
behind c s x l h = let m : suc (length s) - length x ≡ suc (length s - length x) = omega arith in rw m h

-- what is left is a part of the text
start_part : (k : ℕ) (e s : List ℕ) → drop (length s - length (strip_start k e s)) s ≡ strip_start k e s
unfolding strip_start
start_part k e [] = refl
start_part (suc k) e (c ∷ s) = behind c s (strip_start k e s) (start-length e s k) (start_part k e s)
start_part zero e (c ∷ s) =
    by_flag (starts_with e (c ∷ s))
    (λ y. rw y (behind c s (strip_start (length e - 1) e s) (start-length e s (length e - 1)) (start_part (length e - 1) e s)))
    (λ z. let w : suc (length s) - suc (length s) ≡ 0 = omega arith in rw (z, w))

end_part : (n : ℕ) (e s : List ℕ) → take (length (strip_end n e s)) s ≡ strip_end n e s
unfolding strip_end
end_part zero e s = take-length s
end_part (suc n) e s = by_flag (ends_with e s) (λ y. rw y (go (end_part n e front))) (λ z. rw z (take-length s))
  where
    front : List ℕ
    front = take (length s - length e) s

    go : take (length (strip_end n e front)) front ≡ strip_end n e front → take (length (strip_end n e front)) s ≡ strip_end n e front
    go h =
        let l : length (strip_end n e front) ≤ length s - length e =
        omega (arith, end_length n e front, length-take (length s - length e) s) in
        sym (take-take (length (strip_end n e front)) (length s - length e) s l) ∙ h

-- the bare text of p is r, where l is left of p without the mark in front
module _ (e p : List ℕ) {l : List ℕ} (a : l ≡ strip_start 0 e p) where
  pub start_less : length l ≤ length p
  start_less = rw a (start-length e p 0)

  module _ {r : List ℕ} (b : r ≡ strip_end (length l) e l) where
    pub bare_mark : Bare p (marked (length p - length (strip_start 0 e p)) p (strip e p))
        (record { from = length p - length l; to = length p - length l + length r })
    unfolding strip
    bare_mark =
        let f : length p - length (strip_start 0 e p) ≡ length p - length l = ap (λ (x : List ℕ). length p - length x) (sym a) in
        let g : drop (length p - length l) p ≡ l = ap (λ (k : ℕ). drop k p) (sym f) ∙ start_part 0 e p ∙ sym a in
        let h : length p - length l + length r - (length p - length l) ≡ length r = omega arith in
        let t : take (length r) l ≡ r = ap (λ (x : List ℕ). take (length x) l) b ∙ end_part (length l) e l ∙ sym b in
        let u : take (length p - length l + length r - (length p - length l)) (drop (length p - length l) p) ≡ r = rw (h, g) t in
        let s : strip_end (length (strip_start 0 e p)) e (strip_start 0 e p) ≡ r = ap (λ (x : List ℕ). strip_end (length x) e x) (sym a) ∙ sym b in
        let m : length r ≤ length l = rw b (end_length (length l) e l) in
        record { choice = cc; ordered = omega arith; inside = omega (arith, start_less, m) }
