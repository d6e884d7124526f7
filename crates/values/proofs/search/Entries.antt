-- A table of periods with one entry more.
use mathlib.Core.Path.{◌≡◌, ap, ◌∙◌}
use mathlib.Core.List.{List, [], ◌∷◌, ◌++◌}
use Prim.Native.Nat.{ℕ, ◌+◌, ◌≤◌, ◌<◌}
use native.Mathlib.Omega.{arith}
use lib.ListN.{length, get_or, get_or-append, length-append}
use lib.Seq.{get_or_at}
use Rattle.values.specs.declared.search.Stretch.{Stretch}
use Rattle.values.specs.search.Periods.{Entry, no_stretch, period_at, reach_at, Covered}
use Rattle.values.proofs.search.Shifting.{one_more}

-- a larger period and a shorter front
pub covered_more : {t : List Stretch} {n e f l m : ℕ} → e ≤ f → m ≤ l → Covered t n e l → Covered t n f m
covered_more h k c = record { place = c.place; inside = c.inside; low = omega (arith, c.low); high = omega (arith, c.high) }

entry_by : {p : List ℕ} {e d r q : ℕ} → d ≡ e → q ≡ r → Entry p e r → Entry p d q
entry_by x y h = rw (x, y) h

-- u is t with e and its reach as entry n
pub record Added (t u : List Stretch) (n e reach : ℕ) : Type 0 where
  pub fits : length t ≡ n
  pub same : u ≡ t ++ (record { period = e; reach = reach } ∷ [])

module _ {t u : List Stretch} {n e reach : ℕ} (a : Added t u n e reach) where
  pub entries-length : length u ≡ n + 1
  entries-length = ap length a.same ∙ length-append t (record { period = e; reach = reach } ∷ []) ∙ omega (arith, a.fits)

  old : (i : ℕ) → i < n → get_or u i no_stretch ≡ get_or t i no_stretch
  old i h =
      ap (λ (l : List Stretch). get_or l i no_stretch) a.same
      ∙ get_or-append t (record { period = e; reach = reach } ∷ []) no_stretch i (omega (arith, a.fits))

  old_period : (i : ℕ) → i < n → period_at u i ≡ period_at t i
  old_period i h = ap (λ (x : Stretch). x.period) (old i h)

  old_reach : (i : ℕ) → i < n → reach_at u i ≡ reach_at t i
  old_reach i h = ap (λ (x : Stretch). x.reach) (old i h)

  new : get_or u n no_stretch ≡ record { period = e; reach = reach }
  new =
      ap (λ (l : List Stretch). get_or l n no_stretch) a.same
      ∙ get_or_at t (record { period = e; reach = reach }) [] no_stretch n a.fits

  new_period : period_at u n ≡ e
  new_period = ap (λ (x : Stretch). x.period) new

  new_reach : reach_at u n ≡ reach
  new_reach = ap (λ (x : Stretch). x.reach) new

  pub entries-sound : {p : List ℕ} → ((i : ℕ) → i < n → Entry p (period_at t i) (reach_at t i)) → Entry p e reach
      → (i : ℕ) → i < n + 1 → Entry p (period_at u i) (reach_at u i)
  entries-sound {p} f d =
      one_more (λ i. Entry p (period_at u i) (reach_at u i)) n (λ i h. entry_by (old_period i h) (old_reach i h) (f i h))
      (entry_by new_period new_reach d)

  pub entries_order : {m : ℕ} → ((i : ℕ) → i < n → reach_at t i ≤ m) → reach ≤ m → (i : ℕ) → i < n + 1 → reach_at u i ≤ m
  entries_order {m} f d = one_more (λ i. reach_at u i ≤ m) n (λ i h. omega (arith, old_reach i h, f i h)) (omega (arith, new_reach))

  pub covered_old : {f l : ℕ} → Covered t n f l → Covered u (n + 1) f l
  covered_old c =
      record {
        place = c.place;
        inside = omega (arith, c.inside);
        low = omega (arith, c.low, old_period c.place c.inside);
        high = omega (arith, c.high, old_reach c.place c.inside);
      }

  pub covered_new : Covered u (n + 1) e reach
  covered_new = record { place = n; inside = omega arith; low = omega (arith, new_period); high = omega (arith, new_reach) }
