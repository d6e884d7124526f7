-- Laws of what a line takes a sequence for, and of what its text begins with.
use mathlib.Core.Path.{◌≡◌, refl, sym, ap, subst, ◌∙◌}
use mathlib.Core.Logic.{◌⊎◌, inl, inr}
use mathlib.Core.Bool.{Bool, true, false}
use mathlib.Core.List.{List, [], ◌∷◌}
use Prim.Native.Nat.{ℕ, ◌+◌, ◌-◌, ◌*◌, ◌/◌, ◌%◌, ◌≤◌, ◌<◌}
use native.Mathlib.Omega.{arith}
use lib.Bits.{bit_and, and_shr, and_mod, and_mask}
use lib.Dec.{eqb}
use lib.ListN.{length, get_or, drop}
use borrow.Author.Tests.{eqb-true, eqb-false}
use Rattle.lists.specs.Choose.{choose}
use Rattle.characters.specs.utf8.Utf8.{more, tail, decode, codes}
use Rattle.characters.specs.utf8.Passed.{code_of, bytes_of}
use Rattle.characters.specs.declared.utf8.Decoded.{Decoded}
use Rattle.characters.specs.declared.utf8.Decoded.TheVariants.{Char, IllFormed, End}
use Rattle.characters.proofs.utf8.Utf8Laws.{decode_row, decode_ascii, more_in, codes_char, codes_bad, codes-none, encode1}
use Rattle.characters.proofs.utf8.Inverse.{decode-size}
use Rattle.characters.specs.white_space.White.{among, white}
use Rattle.characters.specs.white_space.Lines.{first_of, line}
use Rattle.scan.specs.text_lines.LineScan.{seen_of, WordAt, head_of}
use Rattle.scan.specs.declared.text_lines.Seen.{Seen}
use Rattle.scan.specs.declared.text_lines.Seen.TheVariants.{Text, White, LineFeed, Nothing}
use Rattle.characters.proofs.white_space.WhiteLaws.{dark}

-- a code point by what it is
pub of_text : (c n : ℕ) → white c ≡ false → seen_of (Char c n) ≡ Text n
of_text c n w = rw w

pub of_white : (c n : ℕ) → white c ≡ true → eqb c 0x0A ≡ false → seen_of (Char c n) ≡ White n
of_white c n w f = rw (w, f)

pub of_feed : (c n : ℕ) → white c ≡ true → eqb c 0x0A ≡ true → seen_of (Char c n) ≡ LineFeed
of_feed c n w f = rw (w, f)

-- what the mask keeps of four bytes
module _ (w : ℕ) (e : bit_and w 0xC0FEFF ≡ 0x8094E2) where
  first : w % 256 ≡ 0xE2
  first = let z : bit_and w 0xC0FEFF % 256 ≡ w % 256 % 256 = and_mod w 0xC0FEFF 8 ∙ and_mask (w % 256) 8 in omega (arith, z)

  second : w / 512 % 128 ≡ 0x4A
  second =
      let z : bit_and w 0xC0FEFF / 512 % 128 ≡ w / 512 % 128 % 128 = ap (λ (n : ℕ). n % 128) (and_shr w 0xC0FEFF 9) ∙ and_mod (w / 512) 0x607F 7 ∙ and_mask (w / 512 % 128) 7 in
      omega (arith, z)

  third : w / 4194304 % 4 ≡ 2
  third = let z : bit_and w 0xC0FEFF / 4194304 ≡ w / 4194304 % 4 = and_shr w 0xC0FEFF 22 ∙ and_mask (w / 4194304) 2 in omega (arith, z)

-- a box character
module _ (s : List ℕ) (at : ℕ) (h : at + 3 ≤ length s) where
  char : get_or s at 0 ≡ 0xE2 → 0x94 ≤ get_or s (at + 1) 0 → get_or s (at + 1) 0 ≤ 0x95 → 0x80 ≤ get_or s (at + 2) 0 → get_or s (at + 2) 0 ≤ 0xBF
      → decode (drop at s) ≡ Char ((2 * 64 + (get_or s (at + 1) 0 - 128)) * 64 + (get_or s (at + 2) 0 - 128)) 3
  unfolding more
  char a b b' c c' =
      let two : at + 1 + 1 ≡ at + 2 = omega arith in
      decode_row s at (omega arith) 3 refl (omega (arith, a))
      ∙ ap (λ (n : ℕ). more (tail ∷ tail ∷ []) (n - 0xE0) 1 (drop (at + 1) s)) a
      ∙ more_in 0x80 0xBF (tail ∷ []) 2 1 s (at + 1) (omega arith) (omega arith) (omega arith)
      ∙ ap (λ (n : ℕ). more (tail ∷ []) (2 * 64 + (get_or s (at + 1) 0 - 128)) 2 (drop n s)) two
      ∙ more_in 0x80 0xBF [] (2 * 64 + (get_or s (at + 1) 0 - 128)) 2 s (at + 2) (omega arith) c c'

  pub box : (w : ℕ) → WordAt s at w → bit_and w 0xC0FEFF ≡ 0x8094E2 → seen_of (decode (drop at s)) ≡ Text 3
  box w g e =
      let a : get_or s at 0 ≡ 0xE2 = omega (arith, g, first w e) in
      let b : get_or s (at + 1) 0 / 2 ≡ 0x4A = omega (arith, g, second w e) in
      let c : get_or s (at + 2) 0 / 64 ≡ 2 = omega (arith, g, third w e) in
      let code = (2 * 64 + (get_or s (at + 1) 0 - 128)) * 64 + (get_or s (at + 2) 0 - 128) in
      ap seen_of (char a (omega (arith, b)) (omega (arith, b)) (omega (arith, c)) (omega (arith, c)))
      ∙ of_text code 3 (dark 0x2500 0x257F code refl (omega (arith, b, c)) (omega (arith, b, c)))

-- ASCII
module _ (s : List ℕ) (at : ℕ) (h : at < length s) (l : get_or s at 0 ≤ 0x7F) where
  pub ascii : seen_of (decode (drop at s)) ≡ seen_of (Char (get_or s at 0) 1)
  ascii = ap seen_of (decode_ascii s at h l)

  pub graphic : 0x20 < get_or s at 0 → seen_of (decode (drop at s)) ≡ Text 1
  graphic p = ascii ∙ of_text (get_or s at 0) 1 (dark 0x21 0x7F (get_or s at 0) refl (omega arith) l)

  pub blank : get_or s at 0 ≡ 0x20 → seen_of (decode (drop at s)) ≡ White 1
  unfolding among
  blank e = ascii ∙ ap (λ (k : ℕ). seen_of (Char k 1)) e

-- what stands there, from what it was taken for
abbrev pub Told : Decoded → Seen → Type 0
Told d (Text n) = (d ≡ Char (code_of d) n) × (white (code_of d) ≡ false)
Told d (White n) = (d ≡ Char (code_of d) n) × ((code_of d ≡ 0x0A → ⊥) × (white (code_of d) ≡ true))
Told d LineFeed = d ≡ Char 0x0A (bytes_of d)
Told d Nothing = (d ≡ IllFormed) ⊎ (d ≡ End)

told_of : (d : Decoded) → Told d (seen_of d)
told_of (Char c n) = go (white c) (eqb c 0x0A) refl refl
  where
    go : (w f : Bool) → white c ≡ w → eqb c 0x0A ≡ f → Told (Char c n) (choose w (choose f LineFeed (White n)) (Text n))
    go true true p q = ap (λ (k : ℕ). Char k n) (eqb-true c 0x0A q)
    go true false p q = (refl, (eqb-false c 0x0A q, p))
    go false f p q = (refl, p)
told_of IllFormed = inl refl
told_of End = inr refl

pub told : (d : Decoded) (x : Seen) → x ≡ seen_of d → Told d x
told d x e = subst (Told d) (sym e) (told_of d)

-- a line feed has one byte, and behind nothing there are no code points
pub feed_byte : (s : List ℕ) → Told (decode s) LineFeed → decode s ≡ Char 0x0A 1
feed_byte s e = e ∙ ap (Char 0x0A) (decode-size s 0x0A (bytes_of (decode s)) e ∙ ap length (encode1 0x0A (omega arith)))

pub none_left : (s : List ℕ) → Told (decode s) Nothing → codes s ≡ []
none_left s (inl e) = codes_bad s e
none_left s (inr e) = codes-none s e

-- what a line's text begins with
pub head_first : (s : List ℕ) → head_of (decode s) ≡ first_of (line (codes s))
unfolding line
head_first s = go (decode s) refl
  where
    pick : (t : Bool) (c : ℕ) (l : List ℕ) → choose t 0 c ≡ first_of (choose t [] (c ∷ l))
    pick true c l = refl
    pick false c l = refl

    go : (d : Decoded) → decode s ≡ d → head_of d ≡ first_of (line (codes s))
    go (Char c n) e = pick (eqb c 0x0A) c (line (codes (drop n s))) ∙ sym (ap (λ (r : List ℕ). first_of (line r)) (codes_char s c n e))
    go IllFormed e = sym (ap (λ (r : List ℕ). first_of (line r)) (codes_bad s e))
    go End e = sym (ap (λ (r : List ℕ). first_of (line r)) (codes-none s e))
