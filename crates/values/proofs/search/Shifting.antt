-- The shift of a text after a mismatch, by a table of its periods.
use mathlib.Core.Path.{◌≡◌, sym, ◌∙◌}
use mathlib.Core.Bool.{Bool, true, false, ◌&&◌}
use mathlib.Core.List.{List}
use Prim.Native.Nat.{ℕ, ◌+◌, ◌-◌, ◌*◌, ◌/◌, ◌≤◌, ◌<◌}
use native.Mathlib.Omega.{arith}
use borrow.Author.Tests.{ltb-true, ltb-false, leb-true, le-leb}
use lib.Dec.{leb, ltb}
use lib.ListN.{length}
use Rattle.lists.proofs.Tests.{by_flag, both, true_false}
use Rattle.values.specs.declared.search.Stretch.{Stretch}
use Rattle.values.specs.search.Periods.{Period, period_at, reach_at, Covered, Knows, Safe}

-- what holds below n and at n holds below n + 1
pub one_more : (A : ℕ → Type 0) (n : ℕ) → ((i : ℕ) → i < n → A i) → A n → (i : ℕ) → i < n + 1 → A i
one_more A n f a i h = by_flag (ltb i n) (λ y. f i (ltb-true i n y)) (λ z. let m : i ≡ n = omega (arith, ltb-false i n z) in rw m a)

-- a shorter front has the period too
period_front : {p : List ℕ} {l m e : ℕ} → m ≤ l → Period p l e → Period p m e
period_front h d = record { same = λ k x. d.same k (omega arith) }

-- entry k tells of the first j bytes
abbrev covering : List Stretch → ℕ → ℕ → Bool
covering t j k = leb (4 * period_at t k) j && leb j (reach_at t k)

-- no entry before i does
pub record Shifting (t : List Stretch) (n j i : ℕ) : Type 0 where
  pub inside : i ≤ n
  pub none : (k : ℕ) → k < i → covering t j k ≡ false

pub shifting_start : {t : List Stretch} {n j : ℕ} → Shifting t n j 0
shifting_start = record { inside = omega arith; none = λ k h. absurd (omega arith) }

module _ {t : List Stretch} {n j i : ℕ} (s : Shifting t n j i) where
  pub shifting_end : n ≤ i → (p : List ℕ) → Knows p t n j → Safe p j (j / 4 + 1) 0
  shifting_end l p w =
      record {
        some = omega arith;
        small = omega arith;
        within = omega arith;
        gain = omega arith;
        none = λ e x y d. missed (w.all e x (omega arith) d) (omega arith);
        kept = record { same = λ k h. absurd (omega arith) };
      }
    where
      missed : {e : ℕ} → Covered t n e j → 4 * e ≤ j → ⊥
      missed c h =
          let a = le-leb (4 * period_at t c.place) j (omega (arith, c.low)) in
          let b = le-leb j (reach_at t c.place) c.high in
          true_false (rw (a, b)) (s.none c.place (omega (arith, c.inside)))

  module _ (l : i < n) {r : Bool} (v : r ≡ covering t j i) where
    pub shifting_more : r ≡ false → Shifting t n j (i + 1)
    shifting_more f = record { inside = omega arith; none = one_more (λ k. covering t j k ≡ false) i s.none (sym v ∙ f) }

    module _ (h : r ≡ true) where
      low : 4 * period_at t i ≤ j
      low = leb-true (4 * period_at t i) j (both (leb (4 * period_at t i) j) (leb j (reach_at t i)) (sym v ∙ h)).0

      high : j ≤ reach_at t i
      high = leb-true j (reach_at t i) (both (leb (4 * period_at t i) j) (leb j (reach_at t i)) (sym v ∙ h)).1

      pub shifting_fits : period_at t i ≤ j
      shifting_fits = omega (arith, low)

      pub shifting_found : (p : List ℕ) → Knows p t n j → Safe p j (period_at t i) (j - period_at t i)
      shifting_found p w =
          let e = w.sound i l in
          let a = low in
          let b = high in
          let o = e.some in
          record {
            some = o;
            small = omega arith;
            within = omega arith;
            gain = omega arith;
            none = λ f x y d. e.least f x y (period_front a d);
            kept = period_front (omega arith) e.period;
          }

-- what is left to do where j bytes of p match at i: four for each byte of s from i on, one for each byte that does not match yet
abbrev pub left : List ℕ → List ℕ → ℕ → ℕ → ℕ
left s p i j = 4 * (length s - i) + (length p - j)

pub shift_less : (s : List ℕ) (i : ℕ) {p : List ℕ} {j by keep : ℕ} → Safe p j by keep → i + by ≤ length s → j ≤ length p → left s p (i + by) keep < left s p i j
shift_less s i q h l = omega (arith, q.within, q.gain)
