-- The table of the periods of a text, while it is built.
use mathlib.Core.Path.{◌≡◌, refl, sym, ap, ◌∙◌}
use mathlib.Core.Bool.{Bool, true, false, ◌&&◌}
use mathlib.Core.List.{List, [], ◌∷◌, ◌++◌}
use Prim.Native.Nat.{ℕ, ◌+◌, ◌-◌, ◌*◌, ◌^◌, ◌≤◌, ◌<◌}
use native.Mathlib.Nat.{le_refl, add-lt-add_of_lt_of_le, add-lt-add_of_le_of_lt, pow-suc, pow-le-pow_right}
use native.Mathlib.Numerals.{add-one}
use native.Mathlib.Omega.{arith}
use borrow.Author.Tests.{ltb-true, ltb-false, leb-true, le-leb}
use lib.Dec.{leb, ltb}
use lib.ListN.{length, get_or}
use Rattle.lists.proofs.Tests.{by_flag, both, true_false}
use Rattle.values.specs.declared.search.Stretch.{Stretch}
use Rattle.values.specs.search.Periods.{Period, Entry, period_at, reach_at, Covered, Knows, Periods, Safe}
use Rattle.values.proofs.search.Entries.{Added, entries-length, entries-sound, entries_order, covered_more, covered_old, covered_new}
use Rattle.values.proofs.search.Shifting.{left, shift_less}
use Rattle.values.proofs.search.Settling.{ToldBelow, Settled, settled_knows, shift_below, shift_period}

-- n entries, the last of which is `last` and reaches `top`; all are 0 where there is none
pub record Table (p : List ℕ) (t : List Stretch) (n last top : ℕ) : Type 0 where
  pub room : length t ≡ n
  pub sound : (i : ℕ) → i < n → Entry p (period_at t i) (reach_at t i)
  pub order : (i : ℕ) → i < n → reach_at t i ≤ top
  pub newest : 0 < last → Covered t n last top
  pub none : last ≡ 0 → top ≡ 0
  pub span : 4 * last ≤ top
  pub inside : top ≤ length p
  pub period : Period p top last
  pub torn : 0 < last → get_or p top 0 ≡ get_or p (top - last) 0 → ⊥
  pub grown : 3 ^ n ≤ 3 * last + 1

-- p stands in itself at e as far as `reach`
pub record Building (p : List ℕ) (t : List Stretch) (e reach n top : ℕ) : Type 0 where
  pub last : ℕ
  pub table : Table p t n last top
  pub some : 0 < e
  pub low : last ≤ e
  pub apart : e ≤ reach
  pub inside : reach ≤ length p
  pub period : Period p reach e
  pub below : ToldBelow p t n e

pub building_start : {p : List ℕ} → 0 < length p → {t : List Stretch} → t ≡ [] → Building p t 1 1 0 0
building_start {p} h {t} q =
    record {
      last = 0;
      table = record {
        room = ap length q;
        sound = λ i x. absurd (omega arith);
        order = λ i x. absurd (omega arith);
        newest = λ x. absurd (omega arith);
        none = λ _. refl;
        span = omega arith;
        inside = omega arith;
        period = record { same = λ k x. absurd (omega arith) };
        torn = λ x _. absurd (omega arith);
        grown = omega arith;
      };
      some = omega arith;
      low = omega arith;
      apart = omega arith;
      inside = h;
      period = record { same = λ k x. absurd (omega arith) };
      below = λ f a b l c d q. absurd (omega arith);
    }

-- periods grow threefold, so that there are at most 40
few : (n e m : ℕ) → 3 ^ n ≤ 3 * e + 1 → 4 * e ≤ m → m < 2 ^ 64 → n ≤ 40
few n e m g h l =
    by_flag (ltb 40 n)
    (λ y. let k : 3 ^ 41 ≤ 3 ^ n = pow-le-pow_right {n = 3} (omega arith) {i = 41} {j = n} (omega (arith, ltb-true 40 n y)) in absurd (omega arith))
    (λ z. ltb-false 40 n z)

module _ {p : List ℕ} {t : List Stretch} {e reach n top : ℕ} (b : Building p t e reach n top) where
  pub building_more : reach < length p → get_or p reach 0 ≡ get_or p (reach - e) 0 → Building p t e (reach + 1) n top
  building_more l h =
      record {
        last = b.last;
        table = b.table;
        some = b.some;
        low = b.low;
        apart = omega (arith, b.apart);
        inside = omega arith;
        period = record { same = λ k x. by_flag (ltb (e + k) reach) (λ y. b.period.same k (ltb-true (e + k) reach y)) (λ z. next k (omega (arith, ltb-false (e + k) reach z))) };
        below = b.below;
      }
    where
      next : (k : ℕ) → e + k ≡ reach → get_or p (e + k) 0 ≡ get_or p k 0
      next k m =
          let d : reach - e ≡ k = omega arith in
          ap (λ (y : ℕ). get_or p y 0) m ∙ h ∙ ap (λ (y : ℕ). get_or p y 0) d

  -- e reaches no further than its mismatch
  ends : (get_or p reach 0 ≡ get_or p (reach - e) 0 → ⊥) → (l : ℕ) → l ≤ length p → Period p l e → l ≤ reach
  ends d l h q =
      by_flag (ltb reach l)
      (λ y. let m : e + (reach - e) ≡ reach = omega (arith, b.apart) in absurd (d (rw m at (q.same (reach - e) (omega (arith, ltb-true reach l y))))))
      (λ z. ltb-false reach l z)

  -- no entry yet
  first : b.last ≡ 0 → top < e + b.last
  first z = omega (arith, b.table.none z, b.some)

  module _ {r : Bool} (v : r ≡ (leb (4 * e) reach && ltb top reach)) where
    module _ (f : r ≡ false) where
      covered : 4 * e ≤ reach → Covered t n e reach
      covered h = by_flag (ltb top reach) (λ y. refuted y) (λ z. reached (ltb-false top reach z))
        where
          refuted : ltb top reach ≡ true → Covered t n e reach
          refuted y = let w : (leb (4 * e) reach && ltb top reach) ≡ true = rw (le-leb (4 * e) reach h, y) in true_false w (sym v ∙ f)

          reached : reach ≤ top → Covered t n e reach
          reached g =
              by_flag (ltb 0 b.last) (λ y. covered_more b.low g (b.table.newest (ltb-true 0 b.last y)))
              (λ z. absurd (omega (arith, first (omega (arith, ltb-false 0 b.last z)), b.apart, ltb-false 0 b.last z)))

      settled : ((l : ℕ) → l ≤ length p → Period p l e → l ≤ reach) → Settled p t n e reach
      settled end =
          record { sound = b.table.sound; below = b.below; inside = b.inside; period = b.period; end = end; here = covered }

      pub building_end : length p ≤ reach → length p < 2 ^ 64 → Periods p t n
      building_end l k = record { room = omega (arith, b.table.room); knows = λ j h. settled_knows (settled (λ m x q. omega arith)) j (omega arith) }

      module _ (d : get_or p reach 0 ≡ get_or p (reach - e) 0 → ⊥) {by keep : ℕ} where
        pub building_safe : ((o : List ℕ) → Knows o t n (reach - e) → Safe o (reach - e) by keep) → Safe p (reach - e) by keep
        building_safe g = g p (settled_knows (settled (ends d)) (reach - e) (omega arith))

        module _ (l : reach < length p) (q : Safe p (reach - e) by keep) where
          pub building_fits : e + by + keep ≤ length p
          building_fits = omega (arith, b.apart, q.small, q.within)

          pub building_shift : Building p t (e + by) (e + by + keep) n top
          building_shift =
              record {
                last = b.last;
                table = b.table;
                some = omega (arith, b.some);
                low = omega (arith, b.low);
                apart = omega arith;
                inside = building_fits;
                period = shift_period (settled (ends d)) q;
                below = shift_below (settled (ends d)) q;
              }

          pub building_less : left p p (e + by) (e + by + keep - (e + by)) + (length p - top) < left p p e (reach - e) + (length p - top)
          building_less =
              let m : e + by + keep - (e + by) ≡ keep = omega arith in
              rw m (add-lt-add_of_lt_of_le (shift_less p e q (omega (arith, building_fits)) (omega (arith, b.inside))) (le_refl (length p - top)))

    module _ (h : r ≡ true) where
      tests : (leb (4 * e) reach ≡ true) × (ltb top reach ≡ true)
      tests = both (leb (4 * e) reach) (ltb top reach) (sym v ∙ h)

      long : 4 * e ≤ reach
      long = leb-true (4 * e) reach tests.0

      beyond : top < reach
      beyond = ltb-true top reach tests.1

      -- with both periods the bytes at the mismatch behind `top` would be equal
      torn : 0 < b.last → e + b.last ≤ top → ⊥
      torn s g =
          let o = b.some in
          let y = beyond in
          let i : e + (top - e) ≡ top = omega arith in
          let j : b.last + (top - e - b.last) ≡ top - e = omega arith in
          let k : e + (top - e - b.last) ≡ top - b.last = omega arith in
          b.table.torn s
          (ap (λ (x : ℕ). get_or p x 0) (sym i) ∙ b.period.same (top - e) (omega arith)
          ∙ ap (λ (x : ℕ). get_or p x 0) (sym j) ∙ b.table.period.same (top - e - b.last) (omega arith)
          ∙ sym (b.period.same (top - e - b.last) (omega arith)) ∙ ap (λ (x : ℕ). get_or p x 0) k)

      -- so e is more than `top` without the last period, and more than three times that
      apart : top < e + b.last
      apart =
          by_flag (ltb 0 b.last)
          (λ y. by_flag (ltb top (e + b.last)) (λ u. ltb-true top (e + b.last) u) (λ z. absurd (torn (ltb-true 0 b.last y) (ltb-false top (e + b.last) z))))
          (λ z. first (omega (arith, ltb-false 0 b.last z)))

      grown : 3 ^ (n + 1) ≤ 3 * e + 1
      grown = rw (add-one n, pow-suc 3 n) (omega (arith, apart, b.table.span, b.table.grown))

      pub building_place : length p < 2 ^ 64 → length t < 40
      building_place l =
          let k = few (n + 1) e (length p) grown (omega (arith, long, b.inside)) l in
          omega (arith, b.table.room)

      entry : Entry p e reach
      entry =
          record {
            some = b.some;
            inside = b.inside;
            period = b.period;
            least = λ f x y d. smaller f (b.below f x y (4 * e) (omega (arith, long, b.inside)) (omega arith) d);
          }
        where
          smaller : (f : ℕ) → Covered t n f (4 * e) → ⊥
          smaller f c = omega (arith, c.high, b.table.order c.place c.inside, apart, b.table.span)

      pub building_rises : left p p e (reach - e) + (length p - reach) < left p p e (reach - e) + (length p - top)
      building_rises = add-lt-add_of_le_of_lt (le_refl (left p p e (reach - e))) (omega (arith, beyond, b.inside))

      -- the table u with the new entry
      module _ {u : List Stretch} (w : u ≡ t ++ (record { period = e; reach = reach } ∷ [])) where
        added : Added t u n e reach
        added = record { fits = b.table.room; same = w }

        sound : (i : ℕ) → i < n + 1 → Entry p (period_at u i) (reach_at u i)
        sound = entries-sound added b.table.sound entry

        below : ToldBelow p u (n + 1) e
        below f x y m c d q = covered_old added (b.below f x y m c d q)

        pub building_last : length p ≤ reach → Periods p u (n + 1)
        building_last k =
            let s : Settled p u (n + 1) e reach =
            record { sound = sound; below = below; inside = b.inside; period = b.period; end = λ m x q. omega arith; here = λ _. covered_new added } in
            record { room = omega (arith, entries-length added); knows = λ j g. settled_knows s j (omega arith) }

        pub building_add : (get_or p reach 0 ≡ get_or p (reach - e) 0 → ⊥) → Building p u e reach (n + 1) reach
        building_add d =
            record {
              last = e;
              table = record {
                room = entries-length added;
                sound = sound;
                order = entries_order added (λ i g. omega (arith, b.table.order i g, beyond)) (omega arith);
                newest = λ _. covered_new added;
                none = λ z. absurd (omega (arith, b.some));
                span = long;
                inside = b.inside;
                period = b.period;
                torn = λ _. d;
                grown = grown;
              };
              some = b.some;
              low = omega arith;
              apart = b.apart;
              inside = b.inside;
              period = b.period;
              below = below;
            }
