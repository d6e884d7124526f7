-- The search for a byte.
use mathlib.Core.Path.{◌≡◌, sym, ap, ◌∙◌}
use mathlib.Core.List.{List, [], ◌∷◌, ◌++◌, append_assoc, append-nil}
use Prim.Native.Nat.{ℕ, ◌+◌, ◌-◌, ◌≤◌, ◌<◌}
use native.Mathlib.Omega.{arith}
use borrow.Author.Tests.{eq-eqb, ne_eqb}
use lib.ListN.{length, get_or, take, drop, drop_of_length-le}
use Rattle.lists.proofs.Parts.{at_cons, part_add}
use Rattle.answers.specs.lines.Texts.{before, FirstAt}

-- no m stands from `at` up to i
pub record Seeking (s : List ℕ) (at m i : ℕ) : Type 0 where
  pub low : at ≤ i
  pub inside : i ≤ length s
  pub same : before m (drop at s) ≡ take (i - at) (drop at s) ++ before m (drop i s)

pub seeking_start : {s : List ℕ} {at m : ℕ} → at ≤ length s → Seeking s at m at
seeking_start {s} {at} {m} h = let z : at - at ≡ 0 = omega arith in record { low = omega arith; inside = h; same = rw z }

module _ {s : List ℕ} {at m i : ℕ} (q : Seeking s at m i) where
  ended : before m (drop i s) ≡ [] → take (i - at) (drop at s) ≡ before m (drop at s)
  ended e = sym (q.same ∙ ap (λ (x : List ℕ). take (i - at) (drop at s) ++ x) e ∙ append-nil (take (i - at) (drop at s)))

  pub seeking_end : length s ≤ i → FirstAt s at m i
  unfolding before
  seeking_end h =
      let e : before m (drop i s) ≡ [] = rw (drop_of_length-le s h) in
      record { low = q.low; high = q.inside; same = ended e; ends = λ l. absurd (omega arith) }

  module _ (l : i < length s) where
    pub seeking_found : get_or s i 0 ≡ m → FirstAt s at m i
    unfolding before
    seeking_found t =
        let e : before m (drop i s) ≡ [] = rw (at_cons s i 0 l, eq-eqb (get_or s i 0) m t) in
        record { low = q.low; high = q.inside; same = ended e; ends = λ _. t }

    pub seeking_more : (get_or s i 0 ≡ m → ⊥) → Seeking s at m (i + 1)
    unfolding before
    seeking_more t =
        let w : take (i + 1 - at) (drop at s) ≡ take (i - at) (drop at s) ++ (get_or s i 0 ∷ []) = part_add s at i 1 q.low ∙ rw (at_cons s i 0 l) in
        let e : before m (drop i s) ≡ get_or s i 0 ∷ before m (drop (i + 1) s) = rw (at_cons s i 0 l, ne_eqb (get_or s i 0) m t) in
        record {
          low = omega (arith, q.low);
          inside = omega arith;
          same =
              q.same ∙ ap (λ (x : List ℕ). take (i - at) (drop at s) ++ x) e
              ∙ sym (append_assoc (take (i - at) (drop at s)) (get_or s i 0 ∷ []) (before m (drop (i + 1) s))) ∙ rw w;
        }
