-- Laws of a code point that is known to stand at a place: what its bytes are, by the first of them.
use mathlib.Core.Path.{◌≡◌, sym, ap, ◌∙◌}
use mathlib.Core.Logic.{inl, inr}
use mathlib.Core.List.{List}
use Prim.Native.Nat.{ℕ, ◌+◌, ◌-◌, ◌*◌, ◌/◌, ◌%◌, ◌≤◌, ◌<◌}
use native.Mathlib.Nat.{add-zero}
use native.Mathlib.Omega.{arith}
use lib.ListN.{length, get_or, drop, length-drop}
use lib.Seq.{get_or-take, get_or-drop}
use Rattle.characters.specs.declared.utf8.Decoded.TheVariants.{Char}
use Rattle.characters.specs.utf8.Utf8.{decode, StandsAt, encode}
use Rattle.characters.proofs.utf8.Utf8Laws.{decode-fits, encode1, encode2, encode3, encode4}
use Rattle.characters.proofs.utf8.Inverse.{Scalar, split, two_digits, three_digits, encode-decode, decode-size, decode_scalar}

-- the code point c of n bytes has the bytes a, b, d and e, or the first of these
data Spelt (a b d e c n : ℕ) : Type 0 where
  one : n ≡ 1 → a ≡ c → c ≤ 0x7F → Spelt a b d e c n
  two : n ≡ 2 → a ≡ 0xC0 + c / 64 → b ≡ 0x80 + c % 64 → 0x7F < c → c ≤ 0x7FF → Spelt a b d e c n
  three : n ≡ 3 → a ≡ 0xE0 + c / 64 / 64 → b ≡ 0x80 + c / 64 % 64 → d ≡ 0x80 + c % 64 → 0x7FF < c → c ≤ 0xFFFF → Spelt a b d e c n
  four : n ≡ 4 → a ≡ 0xF0 + c / 64 / 64 / 64 → b ≡ 0x80 + c / 64 / 64 % 64 → d ≡ 0x80 + c / 64 % 64 → e ≡ 0x80 + c % 64 → 0xFFFF < c → c < 0x110000 → Spelt a b d e c n

-- a byte that follows
abbrev Tail : ℕ → Type 0
Tail b = (0x80 ≤ b) × (b ≤ 0xBF)

-- a byte that is there: the first, and those behind it
module _ (s : List ℕ) (at : ℕ) where
  abbrev pub First : Type 0
  First = (at < length s) × (get_or s at 0 ≤ 0xF4)

  abbrev pub Second : Type 0
  Second = (at + 1 < length s) × (0xC2 ≤ get_or s at 0) × Tail (get_or s (at + 1) 0)

  abbrev pub Third : Type 0
  Third = (at + 2 < length s) × Tail (get_or s (at + 2) 0)

  abbrev pub Fourth : Type 0
  Fourth = (at + 3 < length s) × Tail (get_or s (at + 3) 0)

-- what the first byte tells
module _ {a b d e c n : ℕ} where
  size1 : Spelt a b d e c n → (1 ≤ n) × (a ≤ 0xF4)
  size1 (one l p h) = omega arith
  size1 (two l p q h k) = omega arith
  size1 (three l p q r h k) = omega arith
  size1 (four l p q r t h k) = omega arith

  code1 : Spelt a b d e c n → a ≤ 0x7F → (c ≡ a) × (n ≡ 1)
  code1 (one l p h) f = omega arith
  code1 (two l p q h k) f = absurd (omega arith)
  code1 (three l p q r h k) f = absurd (omega arith)
  code1 (four l p q r t h k) f = absurd (omega arith)

  size2 : Spelt a b d e c n → 0x7F < a → (2 ≤ n) × (0xC2 ≤ a) × Tail b
  size2 (one l p h) f = absurd (omega arith)
  size2 (two l p q h k) f = omega arith
  size2 (three l p q r h k) f = omega arith
  size2 (four l p q r t h k) f = omega arith

  code2 : Spelt a b d e c n → 0x7F < a → a ≤ 0xDF → (c ≡ a * 64 + b - 0x3080) × (n ≡ 2)
  code2 (one l p h) f g = absurd (omega arith)
  code2 (two l p q h k) f g = omega arith
  code2 (three l p q r h k) f g = absurd (omega arith)
  code2 (four l p q r t h k) f g = absurd (omega arith)

  size3 : Spelt a b d e c n → 0xDF < a → (3 ≤ n) × Tail d
  size3 (one l p h) f = absurd (omega arith)
  size3 (two l p q h k) f = absurd (omega arith)
  size3 (three l p q r h k) f = omega arith
  size3 (four l p q r t h k) f = omega arith

  code3 : Spelt a b d e c n → 0xDF < a → a ≤ 0xEF → (c ≡ a * 4096 + b * 64 + d - 0xE2080) × (n ≡ 3)
  code3 (one l p h) f g = absurd (omega arith)
  code3 (two l p q h k) f g = absurd (omega arith)
  code3 (three l p q r h k) f g = omega arith
  code3 (four l p q r t h k) f g = absurd (omega arith)

  size4 : Spelt a b d e c n → 0xEF < a → (4 ≤ n) × Tail e
  size4 (one l p h) f = absurd (omega arith)
  size4 (two l p q h k) f = absurd (omega arith)
  size4 (three l p q r h k) f = absurd (omega arith)
  size4 (four l p q r t h k) f = omega arith

  code4 : Spelt a b d e c n → 0xEF < a → (c ≡ a * 262144 + b * 4096 + d * 64 + e - 0x3C82080) × (n ≡ 4)
  code4 (one l p h) f = absurd (omega arith)
  code4 (two l p q h k) f = absurd (omega arith)
  code4 (three l p q r h k) f = absurd (omega arith)
  code4 (four l p q r t h k) f = omega arith

below_11 : (c : ℕ) → Scalar c → c < 0x110000
below_11 c (inl h) = omega arith
below_11 c (inr h) = h.1

module _ (s : List ℕ) (at : ℕ) (k : StandsAt s at) where
  abbrev c : ℕ
  c = k.code

  abbrev n : ℕ
  n = k.bytes

  -- its bytes, where they are written out
  module _ (w : List ℕ) (e : encode c ≡ w) where
    sized : n ≡ length w
    sized = decode-size (drop at s) c n k.decoded ∙ ap length e

    nth : (i : ℕ) → i < length w → get_or s (at + i) 0 ≡ get_or w i 0
    nth i h =
        let l = sized in
        sym (get_or-drop at s i 0)
        ∙ sym (get_or-take n (drop at s) i 0 (omega arith))
        ∙ ap (λ (x : List ℕ). get_or x i 0) (encode-decode (drop at s) c n k.decoded ∙ e)

    first : 0 < length w → get_or s at 0 ≡ get_or w 0 0
    first h = ap (λ (i : ℕ). get_or s i 0) (sym (add-zero at)) ∙ nth 0 h

  spelt : Spelt (get_or s at 0) (get_or s (at + 1) 0) (get_or s (at + 2) 0) (get_or s (at + 3) 0) c n
  spelt =
      split c 0x7F
      (λ h. let e = encode1 c h in one (sized _ e) (first _ e (omega arith)) h)
      (λ h. split c 0x7FF
      (λ p. let e = encode2 c h p in two (sized _ e) (first _ e (omega arith)) (nth _ e 1 (omega arith)) h p)
      (λ p. split c 0xFFFF
      (λ q. let e = encode3 c p q in three (sized _ e) (first _ e (omega arith) ∙ rw (two_digits c)) (nth _ e 1 (omega arith)) (nth _ e 2 (omega arith)) p q)
      (λ q.
      let e = encode4 c q in
      let g = below_11 c (decode_scalar (drop at s) c n k.decoded) in
      let m : c / 262144 % 8 ≡ c / 64 / 64 / 64 = omega (arith, three_digits c) in
      four (sized _ e) (first _ e (omega arith) ∙ rw m) (nth _ e 1 (omega arith) ∙ rw (two_digits c)) (nth _ e 2 (omega arith)) (nth _ e 3 (omega arith)) q g)))

  fits : at + n ≤ length s
  fits = let f = decode-fits (drop at s) c n k.decoded in let l = length-drop at s in omega arith

  told : (x m : ℕ) → (c ≡ x) × (n ≡ m) → decode (drop at s) ≡ Char x m
  told x m e = k.decoded ∙ rw (e.0, e.1)

  pub known-first : First s at
  known-first = let f = fits in let z = size1 spelt in omega arith

  pub known1 : get_or s at 0 ≤ 0x7F → decode (drop at s) ≡ Char (get_or s at 0) 1
  known1 h = told _ 1 (code1 spelt h)

  pub known_second : 0x7F < get_or s at 0 → Second s at
  known_second h = let f = fits in let z = size2 spelt h in omega arith

  pub known2 : 0x7F < get_or s at 0 → get_or s at 0 ≤ 0xDF → decode (drop at s) ≡ Char (get_or s at 0 * 64 + get_or s (at + 1) 0 - 0x3080) 2
  known2 h l = told _ 2 (code2 spelt h l)

  pub known_third : 0xDF < get_or s at 0 → Third s at
  known_third h = let f = fits in let z = size3 spelt h in omega arith

  pub known3 : 0xDF < get_or s at 0 → get_or s at 0 ≤ 0xEF → decode (drop at s) ≡ Char (get_or s at 0 * 4096 + get_or s (at + 1) 0 * 64 + get_or s (at + 2) 0 - 0xE2080) 3
  known3 h l = told _ 3 (code3 spelt h l)

  pub known_fourth : 0xEF < get_or s at 0 → Fourth s at
  known_fourth h = let f = fits in let z = size4 spelt h in omega arith

  pub known4 : 0xEF < get_or s at 0 → decode (drop at s) ≡ Char (get_or s at 0 * 262144 + get_or s (at + 1) 0 * 4096 + get_or s (at + 2) 0 * 64 + get_or s (at + 3) 0 - 0x3C82080) 4
  known4 h = told _ 4 (code4 spelt h)
