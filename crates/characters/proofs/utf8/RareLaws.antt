-- Laws of what stands at a place, told by its code point or by its number of bytes alone.
use Rattle.std.specs.Prelude.{Some, None}
use mathlib.Core.Path.{◌≡◌, refl, sym, ap, ◌∙◌}
use mathlib.Core.Bool.{Bool, true, false}
use mathlib.Core.List.{List, [], ◌∷◌}
use Prim.Native.Nat.{ℕ, ◌<◌}
use native.Mathlib.Omega.{arith}
use lib.ListN.{length, get_or, take, drop, length-drop}
use lib.Dec.{leb}
use borrow.Author.Tests.{leb-true, leb-false}
use Rattle.lists.proofs.Parts.{at_cons}
use Rattle.characters.specs.declared.utf8.Decoded.{Decoded}
use Rattle.characters.specs.declared.utf8.Decoded.TheVariants.{Char, IllFormed, End}
use Rattle.characters.specs.utf8.Utf8.{decode, encode}
use Rattle.characters.specs.utf8.Passed.{code_in, bytes_in, code_of}
use Rattle.characters.proofs.utf8.Utf8Laws.{decode-none, encode1}
use Rattle.characters.proofs.utf8.Inverse.{encode-decode, decode-size}

module _ (s : List ℕ) (at : ℕ) (h : at < length s) where
  some : decode (drop at s) ≡ End → ⊥
  some e = let z = ap length (decode-none (drop at s) e) in let l = length-drop at s in omega arith

  -- behind a first byte above 0x7F stands no ASCII
  high : 0x7F < get_or s at 0 → (c n : ℕ) → decode (drop at s) ≡ Char c n → 0x7F < c
  high p c n e = go (leb c 0x7F) refl
    where
      go : (t : Bool) → leb c 0x7F ≡ t → 0x7F < c
      go true q =
          let l = leb-true c 0x7F q in
          let z : n ≡ 1 = decode-size (drop at s) c n e ∙ ap length (encode1 c l) in
          let v : take 1 (drop at s) ≡ c ∷ [] = ap (λ (k : ℕ). take k (drop at s)) (sym z) ∙ encode-decode (drop at s) c n e ∙ encode1 c l in
          let u : get_or s at 0 ∷ [] ≡ c ∷ [] = sym (ap (λ (r : List ℕ). take 1 r) (at_cons s at 0 h)) ∙ v in
          let y : get_or s at 0 ≡ c = cc in
          absurd (omega arith)
      go false q = leb-false c 0x7F q

  -- so is a code point that stands there
  pub high_code : 0x7F < get_or s at 0 → (c : ℕ) → Some c ≡ code_in (decode (drop at s)) → 0x7F < c
  high_code p c q = go (decode (drop at s)) refl q
    where
      go : (d : Decoded) → decode (drop at s) ≡ d → Some c ≡ code_in d → 0x7F < c
      go (Char x n) e w = let k : c ≡ x = cc in rw k (high p x n e)
      go IllFormed e w = absurd cc
      go End e w = absurd cc

  pub bad_code : None ≡ code_in (decode (drop at s)) → decode (drop at s) ≡ IllFormed
  bad_code q = go (decode (drop at s)) refl q
    where
      go : (d : Decoded) → decode (drop at s) ≡ d → None ≡ code_in d → decode (drop at s) ≡ IllFormed
      go (Char x n) e w = absurd cc
      go IllFormed e w = e
      go End e w = absurd (some e)

  pub bad_bytes : None ≡ bytes_in (decode (drop at s)) → decode (drop at s) ≡ IllFormed
  bad_bytes q = go (decode (drop at s)) refl q
    where
      go : (d : Decoded) → decode (drop at s) ≡ d → None ≡ bytes_in d → decode (drop at s) ≡ IllFormed
      go (Char x n) e w = absurd cc
      go IllFormed e w = e
      go End e w = absurd (some e)

pub told_code : (s : List ℕ) (c n : ℕ) → Some c ≡ code_in (decode s) → length (encode c) ≡ n → decode s ≡ Char c n
told_code s c n q z = go (decode s) refl q
  where
    go : (d : Decoded) → decode s ≡ d → Some c ≡ code_in d → decode s ≡ Char c n
    go (Char x m) e w =
        let v : c ≡ x = cc in
        let k : m ≡ n = decode-size s x m e ∙ sym (ap (λ (y : ℕ). length (encode y)) v) ∙ z in
        e ∙ rw (k, v)
    go IllFormed e w = absurd cc
    go End e w = absurd cc

pub told_bytes : (s : List ℕ) (n : ℕ) → Some n ≡ bytes_in (decode s) → decode s ≡ Char (code_of (decode s)) n
told_bytes s n q = go (decode s) refl q
  where
    go : (d : Decoded) → decode s ≡ d → Some n ≡ bytes_in d → d ≡ Char (code_of d) n
    go (Char x m) e w = let v : n ≡ m = cc in rw v
    go IllFormed e w = absurd cc
    go End e w = absurd cc
