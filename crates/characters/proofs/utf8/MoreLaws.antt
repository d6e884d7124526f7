-- Laws of bytes that follow, so many more behind one.
use mathlib.Core.Path.{◌≡◌, refl, sym, ap, ◌∙◌}
use mathlib.Core.List.{List, [], ◌∷◌}
use Prim.Native.Nat.{ℕ, zero, suc, ◌+◌, ◌-◌, ◌*◌, ◌≤◌, ◌<◌}
use native.Mathlib.Omega.{arith}
use lib.ListN.{length, get_or, drop, replicate}
use Rattle.characters.specs.declared.utf8.Decoded.TheVariants.{Char, IllFormed}
use Rattle.characters.specs.utf8.Utf8.{Range, ◌–◌, tail, more}
use Rattle.characters.specs.utf8.Passed.{CodeFits}
use Rattle.characters.proofs.utf8.Utf8Laws.{more_end, more_below, more_above, more_in}

pub code_more : (code b left : ℕ) → CodeFits code left → left ≤ 2 → (left ≡ 0 → ⊥) → b < 64 → CodeFits (code * 64 + b) (left - 1)
code_more code b zero f l z h = absurd (z refl)
code_more code b (suc zero) f l z h = omega arith
code_more code b (suc (suc zero)) f l z h = omega arith
code_more code b (suc (suc (suc k))) f l z h = absurd (omega arith)

pub one_more : (r : Range) (left : ℕ) → (left ≡ 0 → ⊥) → replicate left r ≡ r ∷ replicate (left - 1) r
one_more r zero z = absurd (z refl)
one_more r (suc k) z = ap (λ (n : ℕ). r ∷ replicate n r) (sym (omega arith))

-- a code point so far leaves room for `left` bytes more
abbrev Room : ℕ → ℕ → Type 0
Room read zero = Unit {0}
Room read (suc left) = CodeFits read left

room_more : (code b left : ℕ) → CodeFits code left → left ≤ 2 → b < 64 → Room (code * 64 + b) left
room_more code b zero f l h = tt
room_more code b (suc left) f l h =
    let e : suc left - 1 ≡ left = omega arith in
    rw e at (code_more code b (suc left) f l (λ z. omega (arith, z)) h)

few : (code left : ℕ) → CodeFits code left → code < 32768
few code zero f = f
few code (suc zero) f = omega (arith, f)
few code (suc (suc left)) f = omega (arith, f)

-- the first byte, in lo to hi, and k of those behind it are read
pub record Following (s : List ℕ) (at lo hi code n left k read : ℕ) : Type 0 where
  pub along : k ≤ left
  pub most : left ≤ 2
  pub same : more ((lo – hi) ∷ replicate left tail) code n (drop at s) ≡ more (replicate (left - k) tail) read (n + 1 + k) (drop (at + 1 + k) s)
  pub room : Room read (left - k)

pub following_start : (s : List ℕ) (at lo hi code n left : ℕ) → at < length s → lo ≤ get_or s at 0 → get_or s at 0 ≤ hi → 128 ≤ lo → hi ≤ 191 → CodeFits code left → left ≤ 2
    → Following s at lo hi code n left 0 (code * 64 + (get_or s at 0 - 128))
following_start s at lo hi code n left h p q lo-least hi-most f l =
    let a : left - 0 ≡ left = omega arith in
    let b : n + 1 + 0 ≡ n + 1 = omega arith in
    let d : at + 1 + 0 ≡ at + 1 = omega arith in
    record {
      along = omega arith;
      most = l;
      same = rw (a, b, d) (more_in lo hi (replicate left tail) code n s at h p q);
      room = rw a (room_more code (get_or s at 0 - 128) left f l (omega arith));
    }

module _ {s : List ℕ} {at lo hi code n left k read : ℕ} (q : Following s at lo hi code n left k read) where
  module _ (h : k < left) where
    behind : more ((lo – hi) ∷ replicate left tail) code n (drop at s) ≡ more ((0x80 – 0xBF) ∷ replicate (left - k - 1) tail) read (n + 1 + k) (drop (at + 1 + k) s)
    behind = q.same ∙ ap (λ (r : List Range). more r read (n + 1 + k) (drop (at + 1 + k) s)) (one_more tail (left - k) (λ z. omega (arith, z, h)))

    fits : CodeFits read (left - (k + 1))
    fits = let e : left - k ≡ suc (left - (k + 1)) = omega (arith, h) in rw e at q.room

    pub following_few : read < 32768
    following_few = few read (left - (k + 1)) fits

    pub following_end : length s ≤ at + 1 + k → IllFormed ≡ more ((lo – hi) ∷ replicate left tail) code n (drop at s)
    following_end l = sym (behind ∙ more_end _ _ _ _ _ s (at + 1 + k) l)

    module _ (l : at + 1 + k < length s) where
      pub following_below : get_or s (at + 1 + k) 0 < 0x80 → IllFormed ≡ more ((lo – hi) ∷ replicate left tail) code n (drop at s)
      following_below b = sym (behind ∙ more_below _ _ _ _ _ s (at + 1 + k) l b)

      pub following_above : 0xBF < get_or s (at + 1 + k) 0 → IllFormed ≡ more ((lo – hi) ∷ replicate left tail) code n (drop at s)
      following_above b = sym (behind ∙ more_above _ _ _ _ _ s (at + 1 + k) l b)

      pub following_more : 0x80 ≤ get_or s (at + 1 + k) 0 → get_or s (at + 1 + k) 0 ≤ 0xBF → Following s at lo hi code n left (k + 1) (read * 64 + (get_or s (at + 1 + k) 0 - 128))
      following_more a b =
          let x : left - k - 1 ≡ left - (k + 1) = omega arith in
          let y : n + 1 + k + 1 ≡ n + 1 + (k + 1) = omega arith in
          let z : at + 1 + k + 1 ≡ at + 1 + (k + 1) = omega arith in
          record {
            along = omega (arith, h);
            most = q.most;
            same = rw (x, y, z) at (behind ∙ more_in 0x80 0xBF (replicate (left - k - 1) tail) read (n + 1 + k) s (at + 1 + k) l a b);
            room = room_more read (get_or s (at + 1 + k) 0 - 128) (left - (k + 1)) fits (omega (arith, q.most)) (omega (arith, a, b));
          }

  pub followed : left ≤ k → Char read (n + 1 + left) ≡ more ((lo – hi) ∷ replicate left tail) code n (drop at s)
  unfolding more
  followed h =
      let e : k ≡ left = omega (arith, q.along, h) in
      let z : left - k ≡ 0 = omega (arith, h) in
      sym (q.same ∙ rw (z, e) refl)
