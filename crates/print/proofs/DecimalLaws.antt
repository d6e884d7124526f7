-- Numbers in decimal: the fewest digits that hold a number are `width`.
use mathlib.Core.Path.{◌≡◌, refl, sym, ap, ◌∙◌}
use mathlib.Core.List.{List, [], ◌∷◌, ◌++◌, append_assoc, append-nil}
use Prim.Native.Nat.{ℕ, zero, suc, ◌-◌, ◌/◌, ◌%◌, ◌^◌, ◌≤◌, ◌<◌}
use native.Mathlib.Nat.{pow-suc, pow-le-pow_right}
use native.Mathlib.Omega.{arith}
use borrow.Author.Tests.{lt-ltb, le-ltb}
use lib.Dec.{ltb}
use lib.ListN.{length, length-append}
use Rattle.io.specs.Digits.{hex_digit_ascii, last_digits, IsDigitCount}
use Rattle.lists.proofs.Tests.{by_flag}
use Rattle.print.specs.Decimal.{width_by, width, decimal, spaced}

length_digits : (k n : ℕ) → length (last_digits 10 k n) ≡ k
length_digits zero n = refl
length_digits (suc k) n =
    let h = length_digits k (n / 10) in
    length-append (last_digits 10 k (n / 10)) (hex_digit_ascii (n % 10) ∷ []) ∙ omega arith

pub length-decimal : (n : ℕ) → length (decimal n) ≡ width n
length-decimal n = length_digits (width n) n

-- a number with m + 2 digits
low : (n m : ℕ) → IsDigitCount 10 1 n (suc (suc m)) → 10 ^ suc m ≤ n
low n m f = let e : suc (suc m) - 1 ≡ suc m = omega arith in rw e at (f.2 (omega arith))

ten : (m : ℕ) → 10 ≤ 10 ^ suc m
ten m = pow-le-pow_right {n = 10} (omega arith) {i = 1} {j = suc m} (omega arith)

one : (n r : ℕ) → n < 10 → IsDigitCount 10 1 n r → r ≡ 1
one n zero h f = absurd (omega (arith, f.0))
one n (suc zero) h f = refl
one n (suc (suc m)) h f = absurd (omega (arith, low n m f, ten m))

-- without the last digit
less : (n m : ℕ) → IsDigitCount 10 1 n (suc (suc m)) → IsDigitCount 10 1 (n / 10) (suc m)
less n m f =
    let e = pow-suc 10 (suc m) in
    let g = pow-suc 10 m in
    let z : m ≡ suc m - 1 = omega arith in
    let q : n / 10 < 10 ^ suc m = omega (arith, f.1) in
    let r : 10 ^ m ≤ n / 10 = omega (arith, low n m f) in
    (omega arith, q, λ _. rw z at r)

fewest : (f n r : ℕ) → n < 10 ^ suc f → IsDigitCount 10 1 n r → r ≡ width_by f n
unfolding width_by
fewest zero n r h w = one n r (omega (arith, h)) w
fewest (suc f) n zero h w = absurd (omega (arith, w.0))
fewest (suc f) n (suc zero) h w = rw (lt-ltb n 10 (omega (arith, w.1)))
fewest (suc f) n (suc (suc m)) h w =
    let e = pow-suc 10 (suc f) in
    let l : n / 10 < 10 ^ suc f = omega (arith, h) in
    let t : 10 ≤ n = omega (arith, low n m w, ten m) in
    rw (le-ltb n 10 t) (ap suc (fewest f (n / 10) (suc m) l (less n m w)))

-- the fewest digits that hold a number of 64 bits
pub decimal-width : (n r : ℕ) → n < 2 ^ 64 → IsDigitCount 10 1 n r → r ≡ width n
decimal-width n r h w = fewest 19 n r (omega (arith, h)) w

-- a number with at most k + 1 digits
narrow : (k n : ℕ) → width_by k n ≤ suc k
unfolding width_by
narrow zero n = omega arith
narrow (suc k) n =
    by_flag (ltb n 10)
    (λ t. rw t (omega arith))
    (λ t. rw t (omega (arith, narrow k (n / 10))))

pub width_most : (n : ℕ) → width n ≤ 20
width_most n = narrow 19 n

-- a byte has at most three digits
pub width_byte : (n : ℕ) → n < 256 → width n ≤ 3
unfolding width_by
width_byte n h =
    let c : n / 10 / 10 < 10 = omega arith in
    by_flag (ltb n 10)
    (λ t. rw t (omega arith))
    (λ t. rw t (by_flag (ltb (n / 10) 10) (λ u. rw u (omega arith)) (λ u. rw (u, lt-ltb (n / 10 / 10) 10 c) (omega arith))))

-- one byte more
pub spaced_snoc : (x : List ℕ) (c : ℕ) → spaced (x ++ (c ∷ [])) ≡ spaced x ++ (0x20 ∷ decimal c)
unfolding spaced
spaced_snoc [] c = ap (λ (l : List ℕ). 0x20 ∷ l) (append-nil (decimal c))
spaced_snoc (a ∷ x) c =
    ap (λ (l : List ℕ). 0x20 ∷ l) (ap (λ (l : List ℕ). decimal a ++ l) (spaced_snoc x c) ∙ sym (append_assoc (decimal a) (spaced x) (0x20 ∷ decimal c)))
