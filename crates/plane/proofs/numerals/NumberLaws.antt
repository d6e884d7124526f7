-- The steps of reading a rule number.
use Rattle.std.specs.Prelude.{None, Some}
use mathlib.Core.Path.{◌≡◌, refl, sym, ap, ◌∙◌}
use mathlib.Core.Bool.{Bool, true, false, and-false}
use mathlib.Core.List.{List, [], ◌∷◌}
use Prim.Native.Nat.{ℕ, ◌+◌, ◌-◌, ◌*◌, ◌^◌, ◌<◌, ◌≤◌}
use native.Mathlib.Omega.{arith}
use lib.Dec.{leb}
use lib.ListN.{length, get_or, take, drop, drop_of_length-le}
use borrow.Author.Tests.{le-leb, lt-leb, lt-ltb, le-ltb, eq-eqb, ne_eqb}
use Rattle.lists.specs.Choose.{choose}
use Rattle.lists.proofs.Parts.{at_cons, part_end}
use Rattle.plane.specs.numerals.RuleNumbers.{is_digit, digits, fits64, unsigned, number_of}

-- the byte at i is a digit, or is none
module _ (s : List ℕ) (a i : ℕ) (h : i < length s) where
  digit_step : 0x30 ≤ get_or s i 0 → get_or s i 0 ≤ 0x39 → digits a (drop i s) ≡ digits (a * 10 + (get_or s i 0 - 0x30)) (drop (i + 1) s)
  unfolding digits
  digit_step l u = rw (at_cons s i 0 h, le-leb 0x30 (get_or s i 0) l, le-leb (get_or s i 0) 0x39 u)

  digit_low : get_or s i 0 < 0x30 → digits a (drop i s) ≡ None
  unfolding digits
  digit_low l = rw (at_cons s i 0 h, lt-leb 0x30 (get_or s i 0) l)

  digit_high : 0x39 < get_or s i 0 → digits a (drop i s) ≡ None
  unfolding digits
  digit_high u = rw (at_cons s i 0 h, lt-leb (get_or s i 0) 0x39 u, and-false (leb 0x30 (get_or s i 0)))

-- a value past 64 bits stays there
digits_big : (a : ℕ) (s : List ℕ) → 2 ^ 64 ≤ a → fits64 (digits a s) ≡ None
unfolding digits
digits_big a [] h = rw (le-ltb a (2 ^ 64) h)
digits_big a (c ∷ s) h = go (is_digit c) (digits_big (a * 10 + (c - 0x30)) s (omega arith))
  where
    go : (t : Bool) → fits64 (digits (a * 10 + (c - 0x30)) s) ≡ None → fits64 (choose t (digits (a * 10 + (c - 0x30)) s) None) ≡ None
    go true e = e
    go false e = refl

digits_end : (s : List ℕ) (a i : ℕ) → length s ≤ i → a < 2 ^ 64 → fits64 (digits a (drop i s)) ≡ Some a
unfolding digits
digits_end s a i h k = rw (drop_of_length-le s h, lt-ltb a (2 ^ 64) k)

-- the digits up to i are read, and their value is a
pub record Digits (s : List ℕ) (i a : ℕ) : Type 0 where
  pub within : i ≤ length s
  pub small : a < 2 ^ 64
  pub rest : unsigned s ≡ fits64 (digits a (drop i s))

module _ {s : List ℕ} {i a : ℕ} (r : Digits s i a) where
  module _ (h : i < length s) where
    pub digits_low : get_or s i 0 < 0x30 → None ≡ unsigned s
    digits_low l = sym (r.rest ∙ ap fits64 (digit_low s a i h l))

    pub digits-high : 0x39 < get_or s i 0 → None ≡ unsigned s
    digits-high u = sym (r.rest ∙ ap fits64 (digit_high s a i h u))

    module _ (l : 0x30 ≤ get_or s i 0) (u : get_or s i 0 ≤ 0x39) where
      pub digits_over : 2 ^ 64 ≤ a * 10 + (get_or s i 0 - 0x30) → None ≡ unsigned s
      digits_over b = sym (r.rest ∙ ap fits64 (digit_step s a i h l u) ∙ digits_big (a * 10 + (get_or s i 0 - 0x30)) (drop (i + 1) s) b)

      pub digits_more : (x : ℕ) → x ≡ get_or s i 0 → a * 10 + (x - 0x30) < 2 ^ 64 → Digits s (i + 1) (a * 10 + (x - 0x30))
      digits_more x e b =
          record { within = omega arith; small = b; rest = r.rest ∙ ap fits64 (digit_step s a i h l u) ∙ rw e }

  pub digits_done : length s ≤ i → Some a ≡ unsigned s
  digits_done h = sym (r.rest ∙ digits_end s a i h r.small)

-- the sign
pub no_text : (s : List ℕ) → length s ≡ 0 → None ≡ number_of s
unfolding number_of
no_text [] e = refl
no_text (c ∷ s) e = absurd (omega arith)

pub with_plus : (s : List ℕ) → (length s ≡ 0 → ⊥) → get_or s 0 0 ≡ 0x2B → unsigned (take (length s - 1) (drop 1 s)) ≡ number_of s
unfolding number_of
with_plus [] n h = absurd (n refl)
with_plus (c ∷ s) n h = ap unsigned (part_end (c ∷ s) 1) ∙ rw (eq-eqb c 0x2B h)

pub without_plus : (s : List ℕ) → (length s ≡ 0 → ⊥) → (get_or s 0 0 ≡ 0x2B → ⊥) → unsigned s ≡ number_of s
unfolding number_of
without_plus [] n h = absurd (n refl)
without_plus (c ∷ s) n h = rw (ne_eqb c 0x2B h)
