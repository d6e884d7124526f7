-- Laws of UTF-8: reading at a place of the bytes, and the bytes of a code point by its size.
use Rattle.std.specs.Prelude.{Ok, Err}
use mathlib.Core.Path.{◌≡◌, refl, ap, ◌∙◌}
use mathlib.Core.Bool.{Bool, true, false}
use mathlib.Core.List.{List, [], ◌∷◌}
use Prim.Native.Nat.{ℕ, zero, suc, ◌+◌, ◌-◌, ◌*◌, ◌/◌, ◌%◌, ◌≤◌, ◌<◌}
use native.Mathlib.Numerals.{sub-one}
use native.Mathlib.Nat.{add-zero}
use native.Mathlib.Omega.{arith}
use lib.ListN.{length, get_or, drop, drop_of_length-le, length-drop}
use lib.Seq.{drop-drop}
use lib.Dec.{leb}
use borrow.Author.Tests.{le-leb, lt-leb, leb-true}
use Rattle.characters.specs.declared.utf8.Decoded.{Decoded}
use Rattle.characters.specs.declared.utf8.Decoded.TheVariants.{Char, IllFormed, End}
use Rattle.lists.specs.Choose.{choose}
use Rattle.lists.proofs.Parts.{at_cons}
use Rattle.lists.proofs.Tests.{both}
use Rattle.characters.proofs.utf8.RowLaws.{highest, Within, inside, below, above, Ascending, by_row, by_gap, by_ascii}
use Rattle.characters.specs.utf8.Utf8.{Range, ◌–◌, in_range, more, by, table, decode, Row, check, read, codes, onward, encode}

pub in_range_lem : (lo hi b : ℕ) → lo ≤ b → b ≤ hi → in_range (lo – hi) b ≡ true
in_range_lem lo hi b p q = inside (lo – hi) b (p, q)

module _ (lo hi : ℕ) (rs : List Range) (code n : ℕ) (s : List ℕ) (at : ℕ) where
  pub more_end : length s ≤ at → more ((lo – hi) ∷ rs) code n (drop at s) ≡ IllFormed
  unfolding more
  more_end h = rw (drop_of_length-le s h)

  pub more_below : at < length s → get_or s at 0 < lo → more ((lo – hi) ∷ rs) code n (drop at s) ≡ IllFormed
  unfolding more
  more_below h b = rw (at_cons s at 0 h, below (lo – hi) (get_or s at 0) b)

  pub more_above : at < length s → hi < get_or s at 0 → more ((lo – hi) ∷ rs) code n (drop at s) ≡ IllFormed
  unfolding more
  more_above h b = rw (at_cons s at 0 h, above (lo – hi) (get_or s at 0) b)

  pub more_in : at < length s → lo ≤ get_or s at 0 → get_or s at 0 ≤ hi
      → more ((lo – hi) ∷ rs) code n (drop at s) ≡ more rs (code * 64 + (get_or s at 0 - 128)) (n + 1) (drop (at + 1) s)
  unfolding more
  more_in h p q = rw (at_cons s at 0 h, in_range_lem lo hi (get_or s at 0) p q)

pub decode_end : (s : List ℕ) (at : ℕ) → length s ≤ at → decode (drop at s) ≡ End
unfolding decode
decode_end s at h = rw (drop_of_length-le s h)

pub decode-at : (s : List ℕ) (at : ℕ) → at < length s → decode (drop at s) ≡ by table (get_or s at 0) (drop (at + 1) s)
unfolding decode
decode-at s at h = rw (at_cons s at 0 h)

-- by the row at place k of the table
module _ (s : List ℕ) (at : ℕ) (h : at < length s) where
  module _ (k : ℕ) {r : Row} {rs : List Row} (e : drop k table ≡ r ∷ rs) where
    pub decode_row : Within r.first (get_or s at 0) → decode (drop at s) ≡ more r.rest (get_or s at 0 - r.mark) 1 (drop (at + 1) s)
    decode_row w = decode-at s at h ∙ by_row k e (get_or s at 0) (drop (at + 1) s) w

    -- above that row, below those behind it
    pub decode_gap : highest r.first < get_or s at 0 → Ascending (get_or s at 0 + 1) rs → decode (drop at s) ≡ IllFormed
    decode_gap p w = decode-at s at h ∙ by_gap k e (get_or s at 0) (drop (at + 1) s) p w

  pub decode_ascii : get_or s at 0 ≤ 0x7F → decode (drop at s) ≡ Char (get_or s at 0) 1
  decode_ascii p = decode-at s at h ∙ by_ascii (get_or s at 0) (drop (at + 1) s) p

pub choose_cases : {P : Type 0} (t : Bool) (x y z : Decoded) → (x ≡ z → P) → (y ≡ z → P) → choose t x y ≡ z → P
choose_cases true x y z f g e = f e
choose_cases false x y z f g e = g e

-- a code point has at least one byte, and no more than there are
more-fits : (rs : List Range) (code n : ℕ) (s : List ℕ) (c m : ℕ) → more rs code n s ≡ Char c m → (n ≤ m) × (m ≤ n + length s)
unfolding more
more-fits [] code n s c m e = let q : n ≡ m = cc in (omega arith, omega arith)
more-fits (r ∷ rs) code n [] c m e = let z : ◌≡◌ {A = ℕ} 0 1 = cc in absurd (omega arith)
more-fits (r ∷ rs) code n (b ∷ s) c m e =
    choose_cases (in_range r b) _ _ _
    (λ p. let h = more-fits rs (code * 64 + (b - 0x80)) (n + 1) s c m p in (omega arith, omega arith))
    (λ p. let z : ◌≡◌ {A = ℕ} 0 1 = cc in absurd (omega arith))
    e

by_fits : (rows : List Row) (a : ℕ) (s : List ℕ) (c m : ℕ) → by rows a s ≡ Char c m → (1 ≤ m) × (m ≤ 1 + length s)
unfolding by
by_fits [] a s c m e = let z : ◌≡◌ {A = ℕ} 0 1 = cc in absurd (omega arith)
by_fits (r ∷ rs) a s c m e =
    choose_cases (in_range r.first a) _ _ _ (more-fits r.rest (a - r.mark) 1 s c m) (by_fits rs a s c m) e

pub decode-fits : (s : List ℕ) (c m : ℕ) → decode s ≡ Char c m → (1 ≤ m) × (m ≤ length s)
unfolding decode
decode-fits [] c m e = let z : ◌≡◌ {A = ℕ} 0 1 = cc in absurd (omega arith)
decode-fits (a ∷ s) c m e = let h = by_fits table a s c m e in (omega arith, omega arith)

-- passing over bytes
check_skip : (k at : ℕ) (s : List ℕ) → check k at s ≡ check 0 (at + k) (drop k s)
unfolding check
check_skip zero at s = rw add-zero
check_skip (suc k) at [] = refl
check_skip (suc k) at (b ∷ s) = check_skip k (at + 1) s ∙ ap (λ (i : ℕ). check 0 i (drop k s)) (omega arith)

-- after a code point, the check goes on behind it
pub check_char : (i : ℕ) (s : List ℕ) (c n : ℕ) → decode s ≡ Char c n → check 0 i s ≡ check 0 (i + n) (drop n s)
unfolding check
check_char i [] c n e = let h = decode-fits [] c n e in absurd (omega arith)
check_char i (b ∷ s) c zero e = let h = decode-fits (b ∷ s) c zero e in absurd (omega arith)
check_char i (b ∷ s) c (suc k) e =
    rw (e, sub-one (suc k)) (check_skip k (i + 1) s ∙ ap (λ (j : ℕ). check 0 j (drop k s)) (omega arith))

read_skip : (k : ℕ) (s : List ℕ) → read k s ≡ codes (drop k s)
unfolding read
read_skip zero s = refl
read_skip (suc k) [] = refl
read_skip (suc k) (b ∷ s) = read_skip k s

pub codes_char : (s : List ℕ) (c n : ℕ) → decode s ≡ Char c n → codes s ≡ c ∷ codes (drop n s)
unfolding read
codes_char [] c n e = let h = decode-fits [] c n e in absurd (omega arith)
codes_char (b ∷ s) c zero e = let h = decode-fits (b ∷ s) c zero e in absurd (omega arith)
codes_char (b ∷ s) c (suc k) e = rw (e, sub-one (suc k), read_skip k s)

-- the same at a position
module _ (s : List ℕ) (at c n : ℕ) (e : decode (drop at s) ≡ Char c n) (h : at ≤ length s) where
  pub char_fits : (1 ≤ n) × (at + n ≤ length s)
  char_fits = let f = decode-fits (drop at s) c n e in let l = length-drop at s in (omega arith, omega arith)

  pub check-at : check 0 at (drop at s) ≡ check 0 (at + n) (drop (at + n) s)
  check-at = check_char at (drop at s) c n e ∙ rw (drop-drop n at s)

  pub codes_at_lem : codes (drop at s) ≡ c ∷ codes (drop (at + n) s)
  codes_at_lem = codes_char (drop at s) c n e ∙ rw (drop-drop n at s)

pub check_bad : (i : ℕ) (s : List ℕ) → decode s ≡ IllFormed → check 0 i s ≡ Err i
unfolding check decode
check_bad i [] e = let z : ◌≡◌ {A = ℕ} 0 1 = cc in absurd (omega arith)
check_bad i (b ∷ s) e = rw e

pub check_end : (s : List ℕ) (at : ℕ) → length s ≤ at → check 0 at (drop at s) ≡ (Ok tt)
unfolding check
check_end s at h = rw (drop_of_length-le s h)

-- a byte is no end
more_char : (rs : List Range) (code n : ℕ) (s : List ℕ) → more rs code n s ≡ End → ⊥
unfolding more
more_char [] code n s e = let z : ◌≡◌ {A = ℕ} 0 1 = cc in omega arith
more_char (r ∷ rs) code n [] e = let z : ◌≡◌ {A = ℕ} 0 1 = cc in omega arith
more_char (r ∷ rs) code n (b ∷ s) e =
    choose_cases (in_range r b) _ _ _ (more_char rs (code * 64 + (b - 0x80)) (n + 1) s) (λ p. let z : ◌≡◌ {A = ℕ} 0 1 = cc in omega arith) e

by_char : (rows : List Row) (a : ℕ) (s : List ℕ) → by rows a s ≡ End → ⊥
unfolding by
by_char [] a s e = let z : ◌≡◌ {A = ℕ} 0 1 = cc in omega arith
by_char (r ∷ rs) a s e = choose_cases (in_range r.first a) _ _ _ (more_char r.rest (a - r.mark) 1 s) (by_char rs a s) e

pub decode-none : (s : List ℕ) → decode s ≡ End → s ≡ []
unfolding decode
decode-none [] e = refl
decode-none (a ∷ s) e = absurd (by_char table a s e)

pub check-none : (i : ℕ) (s : List ℕ) → decode s ≡ End → check 0 i s ≡ (Ok tt)
unfolding check
check-none i s e = rw (decode-none s e)

-- nothing is left at the end, and from an ill-formed sequence on
pub codes_bad : (s : List ℕ) → decode s ≡ IllFormed → codes s ≡ []
unfolding read decode
codes_bad [] e = refl
codes_bad (b ∷ s) e = rw e

pub codes_end : (s : List ℕ) (at : ℕ) → length s ≤ at → codes (drop at s) ≡ []
unfolding read
codes_end s at h = rw (drop_of_length-le s h)

pub codes-none : (s : List ℕ) → decode s ≡ End → codes s ≡ []
unfolding read
codes-none s e = rw (decode-none s e)

-- there are no more code points than bytes
read_length : (k : ℕ) (s : List ℕ) → length (read k s) ≤ length s
unfolding read
read_length k [] = omega arith
read_length (suc k) (b ∷ s) = let h = read_length k s in omega arith
read_length zero (b ∷ s) = go (decode (b ∷ s)) (λ k. read_length k s)
  where
    go : (d : Decoded) → ((k : ℕ) → length (read k s) ≤ length s) → length (onward d [] (λ c skip. c ∷ read skip s)) ≤ length (b ∷ s)
    go (Char c n) h = let q = h (n - 1) in omega arith
    go IllFormed h = omega arith
    go End h = omega arith

pub codes-length : (s : List ℕ) → length (codes s) ≤ length s
codes-length s = read_length 0 s

-- a code point's bytes, by its size
module _ (c : ℕ) where
  pub encode1 : c ≤ 0x7F → encode c ≡ c ∷ []
  unfolding encode
  encode1 h = rw (le-leb c 0x7F h)

  pub encode2 : 0x7F < c → c ≤ 0x7FF → encode c ≡ (0xC0 + c / 64) ∷ (0x80 + c % 64) ∷ []
  unfolding encode
  encode2 a h = rw (lt-leb c 0x7F a, le-leb c 0x7FF h)

  pub encode3 : 0x7FF < c → c ≤ 0xFFFF → encode c ≡ (0xE0 + c / 4096) ∷ (0x80 + c / 64 % 64) ∷ (0x80 + c % 64) ∷ []
  unfolding encode
  encode3 a h = rw (lt-leb c 0x7F (omega arith), lt-leb c 0x7FF a, le-leb c 0xFFFF h)

  pub encode4 : 0xFFFF < c → encode c ≡ (0xF0 + c / 262144 % 8) ∷ (0x80 + c / 4096 % 64) ∷ (0x80 + c / 64 % 64) ∷ (0x80 + c % 64) ∷ []
  unfolding encode
  encode4 a = rw (lt-leb c 0x7F (omega arith), lt-leb c 0x7FF (omega arith), lt-leb c 0xFFFF a)

pub in_range_of : (lo hi c : ℕ) → in_range (lo – hi) c ≡ true → (lo ≤ c) × (c ≤ hi)
in_range_of lo hi c e = let h = both (leb lo c) (leb c hi) e in (leb-true lo c h.0, leb-true c hi h.1)
