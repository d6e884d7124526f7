-- The search for a text by the periods of its fronts, after Galil and Seiferas 1983: no caller of the value split needs these.
use Rattle.std.specs.Prelude.{true, false, List, ◌≡◌, ℕ, ◌+◌, ◌-◌, ◌*◌, ◌≤◌, ◌<◌, length, get_or, drop}
use Rattle.values.specs.declared.search.Stretch.{Stretch}
use Rattle.values.specs.emphasis.Emphasis.{starts_with}

-- the first l bytes of p have the period e
pub record Period (p : List ℕ) (l e : ℕ) : Type 0 where
  pub same : (k : ℕ) → e + k < l → get_or p (e + k) 0 ≡ get_or p k 0

-- e is a period of the first `reach` bytes of p, and the least one of its first 4 e bytes
pub record Entry (p : List ℕ) (e reach : ℕ) : Type 0 where
  pub some : 0 < e
  pub inside : reach ≤ length p
  pub period : Period p reach e
  pub least : (f : ℕ) → 0 < f → f < e → Period p (4 * e) f → ⊥

-- what stands past the end of a table
abbrev pub no_stretch : Stretch
no_stretch = record { period = 0; reach = 0 }

-- entry i of a table of periods, and how far the period reaches
abbrev pub period_at : List Stretch → ℕ → ℕ
period_at t i = (get_or t i no_stretch).period

abbrev pub reach_at : List Stretch → ℕ → ℕ
reach_at t i = (get_or t i no_stretch).reach

-- one of n entries has a period of at most e that reaches l
pub record Covered (t : List Stretch) (n e l : ℕ) : Type 0 where
  pub place : ℕ
  pub inside : place < n
  pub low : period_at t place ≤ e
  pub high : l ≤ reach_at t place

-- n entries of t tell of the first j bytes of p each period up to a fourth of them, or a smaller one
pub record Knows (p : List ℕ) (t : List Stretch) (n j : ℕ) : Type 0 where
  pub sound : (i : ℕ) → i < n → Entry p (period_at t i) (reach_at t i)
  pub all : (e : ℕ) → 0 < e → 4 * e ≤ j → Period p j e → Covered t n e j

-- n entries tell so of every front of p
pub record Periods (p : List ℕ) (t : List Stretch) (n : ℕ) : Type 0 where
  pub room : n ≤ length t
  pub knows : (j : ℕ) → j ≤ length p → Knows p t n j

-- where j bytes of p matched, p cannot stand before `by` bytes on, and there `keep` bytes match.
-- A step costs no more than it gains, at 4 for each byte of the shift
pub record Safe (p : List ℕ) (j by keep : ℕ) : Type 0 where
  pub some : 0 < by
  pub small : by ≤ j + 1
  pub within : keep ≤ j - by
  pub gain : j < 4 * by + keep
  pub none : (e : ℕ) → 0 < e → e < by → Period p j e → ⊥
  pub kept : Period p (by + keep) by

-- r is the first place from `from` on where p stands in s; the end of s where there is none
pub record FirstPlace (s : List ℕ) (from : ℕ) (p : List ℕ) (r : ℕ) : Type 0 where
  pub low : from ≤ r
  pub high : r ≤ length s
  pub none : (x : ℕ) → from ≤ x → x < r → starts_with p (drop x s) ≡ false
  pub here : r < length s → starts_with p (drop r s) ≡ true
