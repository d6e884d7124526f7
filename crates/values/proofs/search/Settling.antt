-- What a table of periods tells of a text's fronts, where the periods up to one are settled.
use mathlib.Core.Path.{◌≡◌, sym, ap, ◌∙◌}
use mathlib.Core.List.{List}
use Prim.Native.Nat.{ℕ, ◌+◌, ◌-◌, ◌*◌, ◌≤◌, ◌<◌}
use native.Mathlib.Omega.{arith}
use borrow.Author.Tests.{ltb-true, ltb-false}
use lib.Dec.{ltb}
use lib.ListN.{length, get_or}
use Rattle.lists.proofs.Tests.{by_flag}
use Rattle.values.specs.declared.search.Stretch.{Stretch}
use Rattle.values.specs.search.Periods.{Period, Entry, period_at, reach_at, Covered, Knows, Safe}
use Rattle.values.proofs.search.Entries.{covered_more}

-- n entries tell of each front each period below e
abbrev pub ToldBelow : List ℕ → List Stretch → ℕ → ℕ → Type 0
ToldBelow p t n e = (f : ℕ) → 0 < f → f < e → (l : ℕ) → l ≤ length p → 4 * f ≤ l → Period p l f → Covered t n f l

-- they also tell of e, which reaches no further than `reach`
pub record Settled (p : List ℕ) (t : List Stretch) (n e reach : ℕ) : Type 0 where
  pub sound : (i : ℕ) → i < n → Entry p (period_at t i) (reach_at t i)
  pub below : ToldBelow p t n e
  pub inside : reach ≤ length p
  pub period : Period p reach e
  pub end : (l : ℕ) → l ≤ length p → Period p l e → l ≤ reach
  pub here : 4 * e ≤ reach → Covered t n e reach

module _ {p : List ℕ} {t : List Stretch} {n e reach : ℕ} (s : Settled p t n e reach) where
  -- of a front up to there they tell each larger period
  shorter : (f l : ℕ) → e ≤ f → l ≤ reach → 4 * f ≤ l → Covered t n f l
  shorter f l b c d = covered_more b c (s.here (omega arith))

  up_to : (f : ℕ) → 0 < f → f ≤ e → (l : ℕ) → l ≤ length p → 4 * f ≤ l → Period p l f → Covered t n f l
  up_to f a b l c d q =
      by_flag (ltb f e) (λ y. s.below f a (ltb-true f e y) l c d q)
      (λ z. let m : f ≡ e = omega (arith, ltb-false f e z) in shorter f l (omega arith) (s.end l c (rw m at q)) d)

  pub settled_knows : (j : ℕ) → j ≤ reach → Knows p t n j
  settled_knows j h =
      record {
        sound = s.sound;
        all = λ f a d q.
            by_flag (ltb e f) (λ y. shorter f j (omega (arith, ltb-true e f y)) h d)
            (λ z. up_to f a (ltb-false e f z) j (omega (arith, s.inside)) d q);
      }

  module _ {by keep : ℕ} (q : Safe p (reach - e) by keep) where
    -- a period between would be one of what matched
    between : (f : ℕ) → e < f → f < e + by → (l : ℕ) → Period p l f → l < reach
    between f a b l d =
        by_flag (ltb l reach) (λ y. ltb-true l reach y)
        (λ z. absurd (q.none (f - e) (omega arith) (omega arith) (record { same = same (ltb-false l reach z) })))
      where
        same : reach ≤ l → (k : ℕ) → f - e + k < reach - e → get_or p (f - e + k) 0 ≡ get_or p k 0
        same g k h =
            let m : e + (f - e + k) ≡ f + k = omega arith in
            sym (s.period.same (f - e + k) (omega arith)) ∙ ap (λ (y : ℕ). get_or p y 0) m ∙ d.same k (omega arith)

    pub shift_below : ToldBelow p t n (e + by)
    shift_below f a b l c d w =
        by_flag (ltb e f) (λ y. let g = ltb-true e f y in shorter f l (omega arith) (omega (arith, between f g b l w)) d)
        (λ z. up_to f a (ltb-false e f z) l c d w)

    pub shift_period : Period p (e + by + keep) (e + by)
    shift_period =
        record {
          same = λ k h.
              let m : e + by + k ≡ e + (by + k) = omega arith in
              let o = q.within in
              ap (λ (y : ℕ). get_or p y 0) m ∙ s.period.same (by + k) (omega arith) ∙ q.kept.same k (omega arith);
        }
