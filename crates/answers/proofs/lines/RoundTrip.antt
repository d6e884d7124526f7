-- A text that is written as its count of bytes and the bytes is read back: the two definitions undo one another.
use Rattle.std.specs.Prelude.{None, Some}
use mathlib.Core.Bool.{true}
use mathlib.Core.List.{List, [], ◌∷◌, ◌++◌}
use mathlib.Core.Path.{◌≡◌, refl, ap, ◌∙◌}
use Prim.Native.Nat.{ℕ, zero, suc, ◌+◌, ◌-◌, ◌*◌, ◌/◌, ◌%◌, ◌^◌, ◌≤◌, ◌<◌}
use native.Mathlib.Nat.{pow-suc}
use native.Mathlib.Omega.{arith}
use borrow.Author.Tests.{lt-ltb, le-leb, ne_eqb, leb-true}
use lib.Dec.{leb, ltb}
use lib.ListN.{length}
use lib.Seq.{drop-append_seam}
use Rattle.io.specs.Digits.{hex_digit_ascii, last_digits}
use Rattle.lists.proofs.Tests.{by_flag, both}
use Rattle.plane.specs.numerals.RuleNumbers.{is_digit, number_of}
use Rattle.plane.specs.numerals.RuleNumbers.{digits as value_of}
use Rattle.print.specs.Decimal.{width_by, width, decimal, spaced, listed}
use Rattle.print.specs.Lines.{blank}
use Rattle.answers.specs.lines.Texts.{before, bytes_in, text_of}
use Rattle.print.proofs.DecimalLaws.{length-decimal}

-- what has a value begins with a digit
first : (a n c : ℕ) (s : List ℕ) → value_of a (c ∷ s) ≡ Some n → is_digit c ≡ true
unfolding value_of
first a n c s e = by_flag (is_digit c) (λ t. t) (λ t. let q : None ≡ Some n = rw t at e in let z : ◌≡◌ {A = ℕ} 0 1 = cc in absurd (omega arith))

behind : (a n c : ℕ) (s : List ℕ) → value_of a (c ∷ s) ≡ Some n → value_of (a * 10 + (c - 0x30)) s ≡ Some n
unfolding value_of
behind a n c s e = let t = first a n c s e in rw t at e

-- digits one behind the other
onward : (a b : ℕ) (x y : List ℕ) → value_of a x ≡ Some b → value_of a (x ++ y) ≡ value_of b y
unfolding value_of
onward a b [] y e = let q : a ≡ b = cc in ap (λ (n : ℕ). value_of n y) q
onward a b (c ∷ x) y e = let t = first a b c x e in rw t (onward (a * 10 + (c - 0x30)) b x y (behind a b c x e))

last : (a d : ℕ) → d < 10 → value_of a (hex_digit_ascii d ∷ []) ≡ Some (a * 10 + d)
unfolding value_of
last a d h =
    let m : 48 + d - 0x30 ≡ d = omega arith in
    rw (lt-ltb d 10 h) (rw (le-leb 0x30 (48 + d) (omega arith), le-leb (48 + d) 0x39 (omega arith)) (ap (λ (x : ℕ). Some (a * 10 + x)) m))

-- the value of a number's digits
value : (k n : ℕ) → n < 10 ^ k → value_of 0 (last_digits 10 k n) ≡ Some n
unfolding value_of
value zero n h = let z : 0 ≡ n = omega (arith, h) in ap Some z
value (suc k) n h =
    let e = pow-suc 10 k in
    let l : n / 10 < 10 ^ k = omega (arith, h) in
    let m : n / 10 * 10 + n % 10 ≡ n = omega arith in
    onward 0 (n / 10) (last_digits 10 k (n / 10)) (hex_digit_ascii (n % 10) ∷ []) (value k (n / 10) l) ∙ last (n / 10) (n % 10) (omega arith) ∙ ap Some m

holds : (f n : ℕ) → n < 10 ^ suc f → n < 10 ^ width_by f n
unfolding width_by
holds zero n h = h
holds (suc f) n h =
    let e = pow-suc 10 (suc f) in
    by_flag (ltb n 10)
    (λ t. rw t (omega (arith, borrow.Author.Tests.ltb-true n 10 t)))
    (λ t. rw t (let g = pow-suc 10 (width_by f (n / 10)) in omega (arith, holds f (n / 10) (omega (arith, h)))))

decimal_value : (n : ℕ) → n < 2 ^ 64 → value_of 0 (decimal n) ≡ Some n
decimal_value n h = value (width n) n (holds 19 n (omega (arith, h)))

-- digits are a number
number : (x : List ℕ) (n : ℕ) → 0 < length x → value_of 0 x ≡ Some n → n < 2 ^ 64 → number_of x ≡ Some n
unfolding number_of
number [] n l e h = absurd (omega (arith, l))
number (c ∷ s) n l e h =
    let t = both (leb 0x30 c) (leb c 0x39) (first 0 n c s e) in
    let d : c ≡ 0x2B → ⊥ = λ q. omega (arith, leb-true 0x30 c t.0) in
    rw (ne_eqb c 0x2B d, e, lt-ltb n (2 ^ 64) h)

positive : (f n : ℕ) → 0 < width_by f n
unfolding width_by
positive zero n = omega arith
positive (suc f) n = by_flag (ltb n 10) (λ t. rw t (omega arith)) (λ t. rw t (omega arith))

number_back : (n : ℕ) → n < 2 ^ 64 → number_of (decimal n) ≡ Some n
number_back n h = number (decimal n) n (omega (arith, length-decimal n, positive 19 n)) (decimal_value n h) h

-- digits up to a blank
word : (a n : ℕ) (x r : List ℕ) → value_of a x ≡ Some n → before blank r ≡ [] → before blank (x ++ r) ≡ x
unfolding before
word a n [] r e b = b
word a n (c ∷ x) r e b =
    let t = both (leb 0x30 c) (leb c 0x39) (first a n c x e) in
    let d : c ≡ blank → ⊥ = λ q. omega (arith, leb-true 0x30 c t.0) in
    rw (ne_eqb c blank d) (ap (λ (l : List ℕ). c ∷ l) (word (a * 10 + (c - 0x30)) n x r (behind a n c x e) b))

blank-first : (s : List ℕ) → before blank (spaced s) ≡ []
unfolding before spaced
blank-first [] = refl
blank-first (c ∷ s) = refl

-- a number in front of bytes
module _ (n : ℕ) (s : List ℕ) (h : n < 2 ^ 64) where
  front : before blank (decimal n ++ spaced s) ≡ decimal n
  front = word 0 n (decimal n) (spaced s) (decimal_value n h) (blank-first s)

-- all are bytes
pub data Bytes : List ℕ → Type 0 where
  end : Bytes []
  byte : {c : ℕ} {s : List ℕ} → c ≤ 255 → Bytes s → Bytes (c ∷ s)

bytes_back : {s : List ℕ} → Bytes s → bytes_in (length s) (spaced s) ≡ Some s
unfolding bytes_in spaced
bytes_back end = refl
bytes_back (byte {c} {s} h b) =
    let l : c < 2 ^ 64 = omega arith in
    rw (front c s l, number_back c l, le-leb c 255 h, drop-append_seam (decimal c) (spaced s), bytes_back b)

-- a text as the judge prints it is read as that text
pub read_back : (most : ℕ) {s : List ℕ} → Bytes s → length s ≤ most → length s < 2 ^ 64 → text_of most (listed s) ≡ Some s
unfolding text_of listed
read_back most {s} b h l = rw (front (length s) s l, number_back (length s) l, le-leb (length s) most h, drop-append_seam (decimal (length s)) (spaced s), bytes_back b)
