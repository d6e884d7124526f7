-- Reading and writing UTF-8 undo one another.
use Rattle.std.specs.Prelude.{Ok, Err}
use mathlib.Core.Path.{◌≡◌, refl, sym, ap, ◌∙◌}
use mathlib.Core.Logic.{◌⊎◌, inl, inr}
use mathlib.Core.Bool.{Bool, true, false}
use mathlib.Core.List.{List, [], ◌∷◌, ◌++◌, append_assoc}
use Prim.Native.Nat.{ℕ, zero, suc, ◌+◌, ◌-◌, ◌*◌, ◌/◌, ◌%◌, ◌≤◌, ◌<◌}
use native.Mathlib.Nat.{div-div-eq-div-mul}
use native.Mathlib.Numerals.{sub-one}
use native.Mathlib.Omega.{arith}
use lib.ListN.{length, take, drop, take-append-drop}
use lib.Seq.{take-append_seam, drop-append_seam}
use lib.Dec.{leb}
use borrow.Author.Tests.{leb-true, leb-false}
use Rattle.lists.specs.Choose.{choose}
use Rattle.lists.proofs.Tests.{by_flag}
use Rattle.characters.specs.declared.utf8.Decoded.{Decoded}
use Rattle.characters.specs.declared.utf8.Decoded.TheVariants.{Char, IllFormed, End}
use Rattle.characters.specs.utf8.Utf8.{Range, ◌–◌, in_range, tail, more, Row, table, by, decode, onward, check, checked, read, codes, encode, encodes}
use Rattle.characters.proofs.utf8.RowLaws.{Within, inside, by_row, by_ascii}
use Rattle.characters.proofs.utf8.Utf8Laws.{in_range_of, decode-fits, check_char, codes_char, encode1, encode2, encode3, encode4}

-- a Unicode scalar value (the standard's definition D76): a code point that is no surrogate
abbrev pub Scalar : ℕ → Type 0
Scalar c = (c < 0xD800) ⊎ ((0xE000 ≤ c) × (c < 0x110000))

-- a list of scalar values
abbrev pub AllScalar : List ℕ → Type 0
AllScalar [] = Unit {0}
AllScalar (c ∷ s) = Scalar c × AllScalar s

-- a number is at most another, or greater
pub split : {P : Type 0} (a b : ℕ) → (a ≤ b → P) → (b < a → P) → P
split a b f g = by_flag (leb a b) (λ e. f (leb-true a b e)) (λ e. g (leb-false a b e))

-- digits of six bits
module _ (c : ℕ) where
  pub two_digits : c / 4096 ≡ c / 64 / 64
  two_digits = sym (div-div-eq-div-mul c 64 64)

  pub three_digits : c / 262144 ≡ c / 64 / 64 / 64
  three_digits = sym (div-div-eq-div-mul c 4096 64) ∙ ap (λ (x : ℕ). x / 64) two_digits

-- one digit more, of a byte that follows
abbrev next : ℕ → ℕ → ℕ
next x b = x * 64 + (b - 0x80)

module _ (x b : ℕ) (w : Within tail b) where
  high : next x b / 64 ≡ x
  high = omega arith

  low : 0x80 + next x b % 64 ≡ b
  low = omega arith

-- Decoding what was encoded.

-- a byte with the last digit of c, in its range, behind bytes with the others
digit : (lo hi : ℕ) (rs : List Range) (code n c : ℕ) (s : List ℕ) → code ≡ c / 64 → Within (lo – hi) (0x80 + c % 64)
    → more ((lo – hi) ∷ rs) code n ((0x80 + c % 64) ∷ s) ≡ more rs c (n + 1) s
unfolding more
digit lo hi rs code n c s e w =
    let f : next code (0x80 + c % 64) ≡ c = omega arith in
    rw (inside (lo – hi) (0x80 + c % 64) w, f)

tail_digit : (rs : List Range) (code n c : ℕ) (s : List ℕ) → code ≡ c / 64 → more (tail ∷ rs) code n ((0x80 + c % 64) ∷ s) ≡ more rs c (n + 1) s
tail_digit rs code n c s e = digit 0x80 0xBF rs code n c s e (omega arith)

-- the row at place k of the table has the first bytes f to l, that mark and those ranges
abbrev RowAt : ℕ → ℕ → ℕ → ℕ → List Range → List Row → Type 0
RowAt k f l mark rest rs = drop k table ≡ record { first = f – l; mark = mark; rest = rest } ∷ rs

module _ (c : ℕ) (s : List ℕ) where
  abbrev Back : Type 0
  Back = decode (encode c ++ s) ≡ Char c (length (encode c))

  back1 : c ≤ 0x7F → Back
  unfolding decode
  back1 h = rw (encode1 c h) (by_ascii c s h)

  back2 : 0x7F < c → c ≤ 0x7FF → Back
  unfolding decode more
  back2 h k =
      rw (encode2 c h k)
      (by_row 1 refl (0xC0 + c / 64) ((0x80 + c % 64) ∷ s) (omega arith) ∙ tail_digit [] (0xC0 + c / 64 - 0xC0) 1 c s (omega arith))

  -- a row of three bytes
  back3 : {f l lo hi : ℕ} {rs : List Row} (k : ℕ) → RowAt k f l 0xE0 ((lo – hi) ∷ tail ∷ []) rs → 0x7FF < c → c ≤ 0xFFFF
      → Within (f – l) (0xE0 + c / 4096) → Within (lo – hi) (0x80 + c / 64 % 64) → Back
  unfolding decode more
  back3 {lo = lo} {hi = hi} k row h j p w =
      let d = two_digits c in
      let a = 0xE0 + c / 4096 in
      let t = (0x80 + c % 64) ∷ s in
      rw (encode3 c h j)
      (by_row k row a ((0x80 + c / 64 % 64) ∷ t) p
      ∙ digit lo hi (tail ∷ []) (a - 0xE0) 1 (c / 64) t (omega arith) w
      ∙ tail_digit [] (c / 64) 2 c s refl)

  -- a row of four bytes
  back4 : {f l lo hi : ℕ} {rs : List Row} (k : ℕ) → RowAt k f l 0xF0 ((lo – hi) ∷ tail ∷ tail ∷ []) rs → 0xFFFF < c → c < 0x110000
      → Within (f – l) (0xF0 + c / 262144 % 8) → Within (lo – hi) (0x80 + c / 4096 % 64) → Back
  unfolding decode more
  back4 {lo = lo} {hi = hi} k row h j p w =
      let a = 0xF0 + c / 262144 % 8 in
      let t = (0x80 + c % 64) ∷ s in
      let u = (0x80 + c / 64 % 64) ∷ t in
      let d : a - 0xF0 ≡ c / 4096 / 64 = omega (arith, div-div-eq-div-mul c 4096 64) in
      rw (encode4 c h)
      (by_row k row a ((0x80 + c / 4096 % 64) ∷ u) p
      ∙ digit lo hi (tail ∷ tail ∷ []) (a - 0xF0) 1 (c / 4096) u d w
      ∙ tail_digit (tail ∷ []) (c / 4096) 2 (c / 64) t (two_digits c)
      ∙ tail_digit [] (c / 64) 3 c s refl)

  back_low : 0x7FF < c → c < 0xD800 → Back
  back_low h k =
      split c 0xFFF
      (λ p. back3 2 refl h (omega arith) (omega arith) (omega arith))
      (λ p. split c 0xCFFF
      (λ q. back3 3 refl h (omega arith) (omega arith) (omega arith))
      (λ q. back3 4 refl h (omega arith) (omega arith) (omega arith)))

  back_high : 0xE000 ≤ c → c < 0x110000 → Back
  back_high h k =
      split c 0xFFFF
      (λ p. back3 5 refl (omega arith) p (omega arith) (omega arith))
      (λ p. split c 0x3FFFF
      (λ q. back4 6 refl p k (omega arith) (omega arith))
      (λ q. split c 0xFFFFF
      (λ r. back4 7 refl p k (omega arith) (omega arith))
      (λ r. back4 8 refl p k (omega arith) (omega arith))))

-- decoding what encode wrote, with any bytes behind it, gives the code point
pub decode-encode : (c : ℕ) (s : List ℕ) → Scalar c → decode (encode c ++ s) ≡ Char c (length (encode c))
decode-encode c s (inl h) = split c 0x7F (back1 c s) (λ p. split c 0x7FF (back2 c s p) (λ q. back_low c s q h))
decode-encode c s (inr h) = back_high c s h.0 h.1

-- Encoding what was decoded.

-- the first n bytes of s are those of the scalar value c
record Reads (s : List ℕ) (c n : ℕ) : Type 0 where
  bytes : take n s ≡ encode c
  size : n ≡ length (encode c)
  scalar : Scalar c

reads : (w t : List ℕ) (c : ℕ) → encode c ≡ w → Scalar c → Reads (w ++ t) c (length w)
reads w t c e h = record { bytes = take-append_seam w t ∙ sym e; size = ap length (sym e); scalar = h }

reads_same : (s : List ℕ) (x k c n : ℕ) → Char x k ≡ Char c n → Reads s x k → Reads s c n
reads_same s x k c n e r =
    let p : x ≡ c = cc in
    let q : k ≡ n = cc in
    rw (← p, ← q) r

no_char : {P : Type 0} (c n : ℕ) → IllFormed ≡ Char c n → P
no_char c n e = let z : ◌≡◌ {A = ℕ} 0 1 = cc in absurd (omega arith)

within : (r : Range) (b : ℕ) → in_range r b ≡ true → Within r b
within (lo – hi) b e = in_range_of lo hi b e

-- a byte that follows is there, in its range
more_cons : (P : List ℕ → Type 0) (r : Range) (rs : List Range) (code n : ℕ) (s : List ℕ) (c m : ℕ)
    → ((b : ℕ) (t : List ℕ) → Within r b → more rs (next code b) (n + 1) t ≡ Char c m → P (b ∷ t))
    → more (r ∷ rs) code n s ≡ Char c m → P s
unfolding more
more_cons P r rs code n [] c m f e = no_char c m e
more_cons P r rs code n (b ∷ s) c m f e = go (in_range r b) refl e
  where
    go : (t : Bool) → in_range r b ≡ t → choose t (more rs (next code b) (n + 1) s) IllFormed ≡ Char c m → P (b ∷ s)
    go true h e = f b s (within r b h) e
    go false h e = no_char c m e

-- the bytes of a code point by its digits, the first of them x
module _ (x b : ℕ) (w : Within tail b) where
  bytes2 : 2 ≤ x → x < 0x20 → encode (next x b) ≡ (0xC0 + x) ∷ b ∷ []
  bytes2 h k = encode2 (next x b) (omega arith) (omega arith) ∙ rw (high x b w, low x b w)

  module _ (d : ℕ) (v : Within tail d) where
    bytes3 : 0x20 ≤ next x b → x < 0x10 → encode (next (next x b) d) ≡ (0xE0 + x) ∷ b ∷ d ∷ []
    bytes3 h k =
        encode3 (next (next x b) d) (omega arith) (omega arith) ∙ rw (two_digits, high (next x b) d v, low (next x b) d v, high x b w, low x b w)

    bytes4 : (g : ℕ) → Within tail g → 0x10 ≤ next x b → x < 8 → encode (next (next (next x b) d) g) ≡ (0xF0 + x) ∷ b ∷ d ∷ g ∷ []
    bytes4 g u h k =
        let m : x % 8 ≡ x = omega arith in
        let z = next (next x b) d in
        encode4 (next z g) (omega arith)
        ∙ rw (three_digits, two_digits, high z g u, low z g u, high (next x b) d v, low (next x b) d v, high x b w, low x b w, m)

-- what a row of the table reads are the bytes of a scalar value
abbrev Sound : Row → Type 0
Sound r = (a : ℕ) (s : List ℕ) (c n : ℕ) → Within r.first a → more r.rest (a - r.mark) 1 s ≡ Char c n → Reads (a ∷ s) c n

sound1 : Sound (record { first = 0x00 – 0x7F; mark = 0x00; rest = [] })
unfolding more
sound1 a s c n h e =
    let m : a - 0 ≡ a = omega arith in
    reads_same (a ∷ s) (a - 0) 1 c n e (rw m (reads (a ∷ []) s a (encode1 a h.1) (inl (omega arith))))

sound2 : Sound (record { first = 0xC2 – 0xDF; mark = 0xC0; rest = tail ∷ [] })
unfolding more
sound2 a s c n h =
    let x = a - 0xC0 in
    let m : 0xC0 + x ≡ a = omega arith in
    more_cons (λ s. Reads (a ∷ s) c n) tail [] x 1 s c n λ b t w e.
    reads_same (a ∷ b ∷ t) (next x b) 2 c n e
    (reads (a ∷ b ∷ []) t (next x b) (bytes2 x b w (omega arith) (omega arith) ∙ rw m) (inl (omega arith)))

-- two digits, each in a range
next-between : (f x l lo b hi : ℕ) → f ≤ x → x ≤ l → Within (lo – hi) b → (next f lo ≤ next x b) × (next x b ≤ next l hi)
next-between f x l lo b hi h k w = (omega arith, omega arith)

no_surrogate : (y x z d : ℕ) → y ≤ x → x ≤ z → z < 0x400 → Within tail d → (z < 0x360) ⊎ (0x380 ≤ y) → Scalar (next x d)
no_surrogate y x z d h k q w (inl p) = inl (omega arith)
no_surrogate y x z d h k q w (inr p) = inr (omega arith)

above_16_bits : (x d g : ℕ) → 0x10 ≤ x → x < 0x110 → Within tail d → Within tail g → Scalar (next (next x d) g)
above_16_bits x d g h k w v = inr (omega arith)

-- the rows of three bytes: by the numbers of its ranges a row gives no less than 0x800, and no surrogate
sound3 : {f l lo hi : ℕ} → (0xE0 ≤ f) × (l ≤ 0xEF) × (0x80 ≤ lo) × (hi ≤ 0xBF) × (0x20 ≤ next (f - 0xE0) lo)
    → (next (l - 0xE0) hi < 0x360) ⊎ (0x380 ≤ next (f - 0xE0) lo)
    → Sound (record { first = f – l; mark = 0xE0; rest = (lo – hi) ∷ tail ∷ [] })
unfolding more
sound3 {f} {l} {lo} {hi} k o a s c n h =
    let x = a - 0xE0 in
    let m : 0xE0 + x ≡ a = omega arith in
    more_cons (λ s. Reads (a ∷ s) c n) (lo – hi) (tail ∷ []) x 1 s c n λ b t w.
    let j = next-between (f - 0xE0) x (l - 0xE0) lo b hi (omega arith) (omega arith) w in
    more_cons (λ t. Reads (a ∷ b ∷ t) c n) tail [] (next x b) 2 t c n λ d u v e.
    reads_same (a ∷ b ∷ d ∷ u) (next (next x b) d) 3 c n e
    (reads (a ∷ b ∷ d ∷ []) u (next (next x b) d) (bytes3 x b (omega arith) d v (omega arith) (omega arith) ∙ rw m)
    (no_surrogate (next (f - 0xE0) lo) (next x b) (next (l - 0xE0) hi) d j.0 j.1 (omega arith) v o))

-- the rows of four bytes: a row gives no less than 0x10000, and less than 0x110000
sound4 : {f l lo hi : ℕ} → (0xF0 ≤ f) × (l ≤ 0xF4) × (0x80 ≤ lo) × (hi ≤ 0xBF) × (0x10 ≤ next (f - 0xF0) lo) × (next (l - 0xF0) hi < 0x110)
    → Sound (record { first = f – l; mark = 0xF0; rest = (lo – hi) ∷ tail ∷ tail ∷ [] })
unfolding more
sound4 {f} {l} {lo} {hi} k a s c n h =
    let x = a - 0xF0 in
    let m : 0xF0 + x ≡ a = omega arith in
    more_cons (λ s. Reads (a ∷ s) c n) (lo – hi) (tail ∷ tail ∷ []) x 1 s c n λ b t w.
    let j = next-between (f - 0xF0) x (l - 0xF0) lo b hi (omega arith) (omega arith) w in
    more_cons (λ t. Reads (a ∷ b ∷ t) c n) tail (tail ∷ []) (next x b) 2 t c n λ d u v.
    more_cons (λ u. Reads (a ∷ b ∷ d ∷ u) c n) tail [] (next (next x b) d) 3 u c n λ g r w' e.
    reads_same (a ∷ b ∷ d ∷ g ∷ r) (next (next (next x b) d) g) 4 c n e
    (reads (a ∷ b ∷ d ∷ g ∷ []) r (next (next (next x b) d) g) (bytes4 x b (omega arith) d v g w' (omega arith) (omega arith) ∙ rw m)
    (above_16_bits (next x b) d g (omega arith) (omega arith) v w'))

-- every row of a table does
infixr 5 ◌also◌
data AllSound : List Row → Type 0 where
  none : AllSound []
  ◌also◌ : {r : Row} {rs : List Row} → Sound r → AllSound rs → AllSound (r ∷ rs)

all_sound : AllSound table
all_sound =
    sound1
    also sound2
    also sound3 (omega arith) (inl (omega arith))
    also sound3 (omega arith) (inl (omega arith))
    also sound3 (omega arith) (inl (omega arith))
    also sound3 (omega arith) (inr (omega arith))
    also sound4 (omega arith)
    also sound4 (omega arith)
    also sound4 (omega arith)
    also none

by_reads : (rs : List Row) → AllSound rs → (a : ℕ) (s : List ℕ) (c n : ℕ) → by rs a s ≡ Char c n → Reads (a ∷ s) c n
unfolding by
by_reads [] none a s c n e = no_char c n e
by_reads (r ∷ rs) (h also hs) a s c n e = go (in_range r.first a) refl e (by_reads rs hs a s c n)
  where
    go : (t : Bool) → in_range r.first a ≡ t → choose t (more r.rest (a - r.mark) 1 s) (by rs a s) ≡ Char c n
        → (by rs a s ≡ Char c n → Reads (a ∷ s) c n) → Reads (a ∷ s) c n
    go true w e f = h a s c n (within r.first a w) e
    go false w e f = f e

decode_reads : (s : List ℕ) (c n : ℕ) → decode s ≡ Char c n → Reads s c n
unfolding decode
decode_reads [] c n e = let z : ◌≡◌ {A = ℕ} 0 1 = cc in absurd (omega arith)
decode_reads (a ∷ s) c n e = by_reads table all_sound a s c n e

-- encoding what decode read gives the bytes that it read
pub encode-decode : (s : List ℕ) (c n : ℕ) → decode s ≡ Char c n → take n s ≡ encode c
encode-decode s c n e = (decode_reads s c n e).bytes

-- it reads as many bytes as encode writes
pub decode-size : (s : List ℕ) (c n : ℕ) → decode s ≡ Char c n → n ≡ length (encode c)
decode-size s c n e = (decode_reads s c n e).size

-- decode reads scalar values only
pub decode_scalar : (s : List ℕ) (c n : ℕ) → decode s ≡ Char c n → Scalar c
decode_scalar s c n e = (decode_reads s c n e).scalar

-- Whole texts.

-- the bytes of two texts, one behind the other
pub encodes-append : (a b : List ℕ) → encodes (a ++ b) ≡ encodes a ++ encodes b
unfolding encodes
encodes-append [] b = refl
encodes-append (c ∷ a) b = rw (encodes-append a b) (sym (append_assoc (encode c) (encodes a) (encodes b)))

-- the code points of the bytes of scalar values are those values
pub codes-encodes : (cs : List ℕ) → AllScalar cs → codes (encodes cs) ≡ cs
unfolding encodes read
codes-encodes [] h = refl
codes-encodes (c ∷ cs) h =
    codes_char (encode c ++ encodes cs) c (length (encode c)) (decode-encode c (encodes cs) h.0)
    ∙ rw (drop-append_seam (encode c) (encodes cs), codes-encodes cs h.1)

check-encodes : (i : ℕ) (cs : List ℕ) → AllScalar cs → check 0 i (encodes cs) ≡ (Ok tt)
unfolding encodes check
check-encodes i [] h = refl
check-encodes i (c ∷ cs) h =
    check_char i (encode c ++ encodes cs) c (length (encode c)) (decode-encode c (encodes cs) h.0)
    ∙ rw (drop-append_seam (encode c) (encodes cs)) (check-encodes (i + length (encode c)) cs h.1)

-- those bytes are well-formed
pub checked-encodes : (cs : List ℕ) → AllScalar cs → checked (encodes cs) ≡ (Ok tt)
checked-encodes cs h = check-encodes 0 cs h

read_scalar : (k : ℕ) (s : List ℕ) → AllScalar (read k s)
unfolding read
read_scalar k [] = tt
read_scalar (suc k) (b ∷ s) = read_scalar k s
read_scalar zero (b ∷ s) = go (decode (b ∷ s)) refl (λ k. read_scalar k s)
  where
    go : (d : Decoded) → decode (b ∷ s) ≡ d → ((k : ℕ) → AllScalar (read k s)) → AllScalar (onward d [] (λ c skip. c ∷ read skip s))
    go (Char c n) e h = (decode_scalar (b ∷ s) c n e, h (n - 1))
    go IllFormed e h = tt
    go End e h = tt

-- the code points of any bytes are scalar values
pub codes_scalar : (s : List ℕ) → AllScalar (codes s)
codes_scalar s = read_scalar 0 s

encodes-read : (k i : ℕ) (s : List ℕ) → check k i s ≡ (Ok tt) → encodes (read k s) ≡ drop k s
unfolding read check encodes
encodes-read zero i [] e = refl
encodes-read (suc k) i [] e = refl
encodes-read (suc k) i (b ∷ s) e = encodes-read k (i + 1) s e
encodes-read zero i (b ∷ s) e = go (decode (b ∷ s)) refl e (λ k. encodes-read k (i + 1) s)
  where
    go : (d : Decoded) → decode (b ∷ s) ≡ d → onward d (Err i) (λ c skip. check skip (i + 1) s) ≡ (Ok tt)
        → ((k : ℕ) → check k (i + 1) s ≡ (Ok tt) → encodes (read k s) ≡ drop k s) → encodes (onward d [] (λ c skip. c ∷ read skip s)) ≡ b ∷ s
    go (Char c zero) p e h = let f = decode-fits (b ∷ s) c zero p in absurd (omega arith)
    go (Char c (suc n)) p e h = rw (h (suc n - 1) e, ← encode-decode (b ∷ s) c (suc n) p, sub-one (suc n)) (take-append-drop (suc n) (b ∷ s))
    go IllFormed p e h = let z : ◌≡◌ {A = ℕ} 0 1 = cc in absurd (omega arith)
    go End p e h = let z : ◌≡◌ {A = ℕ} 0 1 = cc in absurd (omega arith)

-- the bytes of a well-formed text's code points are the text
pub encodes-codes : (s : List ℕ) → checked s ≡ (Ok tt) → encodes (codes s) ≡ s
encodes-codes s e = encodes-read 0 0 s e
