-- Parts that are written one behind the other.
use mathlib.Core.Path.{◌≡◌, sym, ap, ◌∙◌}
use mathlib.Core.List.{List, [], ◌∷◌, ◌++◌, append_assoc, append-nil}
use Prim.Native.Nat.{ℕ, ◌+◌, ◌*◌, ◌^◌, ◌≤◌, ◌<◌}
use native.Mathlib.Numerals.{add-one}
use native.Mathlib.Omega.{arith}
use lib.ListN.{length, get_or, take, length-append}
use lib.Seq.{take-suc, take_all}
use Rattle.io.specs.Digits.{last_digits, IsDigitCount}
use Rattle.print.specs.Decimal.{width, decimal, spaced, listed, Written}
use Rattle.print.proofs.DecimalLaws.{length-decimal, decimal-width, width_most, width_byte, spaced_snoc}

-- nothing
pub written_nil : (d : List ℕ) → Written d d [] 0
written_nil d = record { same = sym (append-nil d); short = omega arith }

-- a byte
pub written_one : {d o : List ℕ} {b : ℕ} → o ≡ d ++ (b ∷ []) → Written d o (b ∷ []) 1
written_one e = record { same = e; short = omega arith }

-- a part, and a second one behind it
pub written_then : {d o e x y : List ℕ} {a b : ℕ} → Written d o x a → Written o e y b → Written d e (x ++ y) (a + b)
written_then {d} {o} {e} {x} {y} {a} {b} u v =
    let l = length-append x y in
    record {
      same = v.same ∙ ap (λ (z : List ℕ). z ++ y) u.same ∙ append_assoc d x y;
      short = omega (arith, l, u.short, v.short);
    }

pub written_within : {d o x : List ℕ} {a b : ℕ} → Written d o x a → a ≤ b → Written d o x b
written_within w h = record { same = w.same; short = omega (arith, w.short) }

-- the same part, by another name
pub written_as : {d o x y : List ℕ} {a : ℕ} → Written d o x a → x ≡ y → Written d o y a
written_as {d} {o} {x} {y} {a} w e = record { same = w.same ∙ ap (λ (z : List ℕ). d ++ z) e; short = rw (← e) w.short }

-- how long the whole becomes
pub written_long : {d o x : List ℕ} {a : ℕ} → Written d o x a → length o ≤ length d + a
written_long {d} {o} {x} {a} w = omega (arith, ap length w.same ∙ length-append d x, w.short)

-- the digits d of a number n, the first k of them
pub written_number : {out o : List ℕ} (d : List ℕ) (n k : ℕ) {m : ℕ} → n < 2 ^ 64 → IsDigitCount 10 1 n k → take k d ≡ last_digits 10 k n → Written out o (take k d) m
    → Written out o (decimal n) 20
written_number {out} d n k h f g w =
    let e : k ≡ width n = decimal-width n k h f in
    let l : length (decimal n) ≡ width n = length-decimal n in
    let m = width_most n in
    record {
      same = w.same ∙ ap (λ (z : List ℕ). out ++ z) (g ∙ ap (λ (j : ℕ). last_digits 10 j n) e);
      short = omega (arith, l, m);
    }

-- a blank and a byte
pub written_byte : {d o : List ℕ} {b m : ℕ} → b < 256 → Written d o (0x20 ∷ decimal b) m → Written d o (0x20 ∷ decimal b) 4
written_byte {d} {o} {b} h w = record { same = w.same; short = omega (arith, length-decimal b, width_byte b h) }

-- the first i bytes of a text are written behind o₀
pub record Listing (o₀ text o : List ℕ) (i : ℕ) : Type 0 where
  pub along : i ≤ length text
  pub written : Written o₀ o (spaced (take i text)) (4 * i)

pub listing_start : (o text : List ℕ) → Listing o text o 0
unfolding spaced
listing_start o text = record { along = omega arith; written = written_nil o }

module _ {o₀ text o : List ℕ} {i : ℕ} (l : Listing o₀ text o i) where
  pub listing_more : {e : List ℕ} → i < length text → Written o e (0x20 ∷ decimal (get_or text i 0)) 4 → Listing o₀ text e (i + 1)
  listing_more {e} h w =
      let s : spaced (take (i + 1) text) ≡ spaced (take i text) ++ (0x20 ∷ decimal (get_or text i 0)) =
      ap spaced (rw (add-one i) (take-suc text i 0 h)) ∙ spaced_snoc (take i text) (get_or text i 0) in
      record { along = omega arith; written = written_within (written_as (written_then l.written w) (sym s)) (omega arith) }

  pub listing_end : {d : List ℕ} → length text ≤ i → Written d o₀ (decimal (length text)) 20 → Written d o (listed text) (20 + 4 * length text)
  unfolding listed
  listing_end {d} h w =
      let a = l.along in
      let e : take i text ≡ text = take_all i text h in
      written_within (written_as (written_then w l.written) (ap (λ (z : List ℕ). decimal (length text) ++ spaced z) e)) (omega arith)
