-- The search for the first place where a text stands in another.
use mathlib.Core.Path.{◌≡◌, sym, ap, ◌∙◌}
use mathlib.Core.Bool.{true, false}
use mathlib.Core.List.{List}
use mathlib.Core.Logic.{∥∥₁_elim}
use Prim.Native.Nat.{ℕ, ◌+◌, ◌-◌, ◌≤◌, ◌<◌}
use native.Mathlib.Omega.{arith}
use borrow.Author.Tests.{ltb-true, ltb-false}
use lib.Dec.{ltb}
use lib.ListN.{length, get_or, drop}
use Rattle.lists.proofs.Tests.{by_flag}
use Rattle.values.specs.emphasis.Emphasis.{starts_with}
use Rattle.values.proofs.emphasis.StartsWith.{starts_inside, place-bytes, bytes-place}
use Rattle.std.proofs.Props.{props}
use Rattle.values.specs.search.Periods.{Knows, Periods, Safe, FirstPlace}
use Rattle.values.specs.declared.search.Stretch.{Stretch}
use Rattle.values.proofs.search.Shifting.{one_more, left, shift_less}

-- p stands nowhere from `from` up to i, and its first j bytes stand at i
pub record Searching (s p : List ℕ) (from i j : ℕ) : Type 0 where
  pub low : from ≤ i
  pub high : i ≤ length s
  pub along : j ≤ length p
  pub matched : (k : ℕ) → k < j → get_or s (i + k) 0 ≡ get_or p k 0
  pub none : (x : ℕ) → from ≤ x → x < i → starts_with p (drop x s) ≡ false

pub searching_start : {s p : List ℕ} {from : ℕ} → from ≤ length s → Searching s p from from 0
searching_start l =
    record { low = omega arith; high = l; along = omega arith; matched = λ k h. absurd (omega arith); none = λ x a b. absurd (omega arith) }

module _ {s p : List ℕ} {from i j : ℕ} (w : Searching s p from i j) where
  -- p stands nowhere up to y either
  none-to : (y : ℕ) → ((x : ℕ) → i ≤ x → x < y → starts_with p (drop x s) ≡ true → ⊥)
      → (x : ℕ) → from ≤ x → x < y → starts_with p (drop x s) ≡ false
  none-to y f x a b =
      by_flag (ltb x i) (λ u. w.none x a (ltb-true x i u))
      (λ v. by_flag (starts_with p (drop x s)) (λ t. absurd (f x (ltb-false x i v) b t)) (λ z. z))

  pub searching_end : length s - i < length p → FirstPlace s from p (length s)
  searching_end l =
      record {
        low = omega (arith, w.low, w.high);
        high = omega arith;
        none = none-to (length s) (λ x a b t. omega (arith, starts_inside p s x (omega arith) t));
        here = λ h. absurd (omega arith);
      }

  module _ (l : length p ≤ length s - i) where
    pub searching_found : j ≡ length p → FirstPlace s from p i
    searching_found e =
        record {
          low = w.low;
          high = w.high;
          none = w.none;
          here = λ _. bytes-place p s i (omega (arith, w.high)) (λ k h. w.matched k (omega arith));
        }

    module _ (n : j ≡ length p → ⊥) where
      pub searching_more : get_or s (i + j) 0 ≡ get_or p j 0 → Searching s p from i (j + 1)
      searching_more e =
          record {
            low = w.low;
            high = w.high;
            along = omega (arith, w.along);
            matched = one_more (λ k. get_or s (i + k) 0 ≡ get_or p k 0) j w.matched e;
            none = w.none;
          }

      module _ {by keep : ℕ} (q : Safe p j by keep) where
        pub searching_fits : i + by ≤ length s
        searching_fits = omega (arith, w.along, w.high, q.small)

        pub searching_less : left s p (i + by) keep < left s p i j
        searching_less = shift_less s i q searching_fits w.along

        -- an occurrence between would be a period of what matched
        between : (x : ℕ) → i < x → x < i + by → starts_with p (drop x s) ≡ true → ⊥
        between x a b t = q.none (x - i) (omega arith) (omega arith) (record { same = same })
          where
            same : (k : ℕ) → x - i + k < j → get_or p (x - i + k) 0 ≡ get_or p k 0
            same k h =
                let m : i + (x - i + k) ≡ x + k = omega arith in
                sym (w.matched (x - i + k) h) ∙ ap (λ (y : ℕ). get_or s y 0) m ∙ place-bytes p s x t k (omega (arith, w.along))

        pub searching_shift : (get_or s (i + j) 0 ≡ get_or p j 0 → ⊥) → Searching s p from (i + by) keep
        searching_shift d =
            record {
              low = omega (arith, w.low);
              high = searching_fits;
              along = omega (arith, w.along, q.within);
              matched = still;
              none = none-to (i + by) (λ x a b t. by_flag (ltb i x) (λ u. between x (ltb-true i x u) b t) (λ v. first x (omega (arith, ltb-false i x v)) t));
            }
          where
            first : (x : ℕ) → x ≡ i → starts_with p (drop x s) ≡ true → ⊥
            first x e t = d (rw e at (place-bytes p s x t j (omega (arith, w.along))))

            still : (k : ℕ) → k < keep → get_or s (i + by + k) 0 ≡ get_or p k 0
            still k h =
                let m : i + by + k ≡ i + (by + k) = omega arith in
                let o = q.within in
                ap (λ (y : ℕ). get_or s y 0) m ∙ w.matched (by + k) (omega arith) ∙ q.kept.same k (omega arith)

pub found_here : {s p : List ℕ} {from r : ℕ} → FirstPlace s from p r → (r ≡ length s → ⊥) → starts_with p (drop r s) ≡ true
found_here f n = f.here (omega (arith, f.high))

-- a shift by the periods of p is safe
pub safe_shift : {p : List ℕ} {t : List Stretch} {j by keep : ℕ} → ∥ Periods p t (length t) ∥₁ → j ≤ length p
    → ((x : List ℕ) → Knows x t (length t) j → Safe x j by keep) → Safe p j by keep
safe_shift {p} {t} {j} h l f = ∥∥₁_elim h (Prim.hlevel props) (λ w. f p (w.knows j l))
