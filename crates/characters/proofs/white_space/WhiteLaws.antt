-- Laws of White_Space: a code point is white exactly if it is in one of the ranges.
use mathlib.Core.Path.{◌≡◌, refl, sym, ◌∙◌}
use mathlib.Core.Logic.{◌⊎◌, inl, inr}
use mathlib.Core.Bool.{Bool, true, false, ◌||◌, ◌&&◌}
use mathlib.Core.List.{List, [], ◌∷◌}
use Prim.Native.Nat.{ℕ, ◌≤◌, ◌<◌}
use native.Mathlib.Omega.{arith}
use lib.Dec.{eqb, leb, ltb}
use borrow.Author.Tests.{ltb-true, ltb-false, leb-true, leb-false, eqb-true, eqb-false}
use Rattle.lists.proofs.Tests.{by_flag, both, true_false}
use Rattle.characters.specs.utf8.Utf8.{Range, ◌–◌, in_range}
use Rattle.characters.specs.white_space.White.{spaces, among, white}
use Rattle.characters.proofs.utf8.Utf8Laws.{in_range_of, in_range_lem}

-- c is in one of the ranges
abbrev pub In : List Range → ℕ → Type 0
In [] c = ⊥
In ((lo – hi) ∷ rs) c = ((lo ≤ c) × (c ≤ hi)) ⊎ In rs c

-- the test is false where c is in none
pub out-among : (rs : List Range) (c : ℕ) → (In rs c → ⊥) → among rs c ≡ false
unfolding among
out-among [] c f = refl
out-among ((lo – hi) ∷ rs) c f = go (in_range (lo – hi) c) refl (out-among rs c (λ w. f (inr w)))
  where
    go : (t : Bool) → in_range (lo – hi) c ≡ t → among rs c ≡ false → t || among rs c ≡ false
    go true e p = absurd (f (inl (in_range_of lo hi c e)))
    go false e p = p

pub in_among : (rs : List Range) (c : ℕ) → In rs c → among rs c ≡ true
unfolding among
in_among [] c x' = elim x' [ ]
in_among ((lo – hi) ∷ rs) c (inl w) = rw (in_range_lem lo hi c w.0 w.1)
in_among ((lo – hi) ∷ rs) c (inr w) = go (in_range (lo – hi) c) (in_among rs c w)
  where
    go : (t : Bool) → among rs c ≡ true → t || among rs c ≡ true
    go true p = refl
    go false p = p

-- no range has a code point from a to b
abbrev clear : List Range → ℕ → ℕ → Bool
clear [] a b = true
clear ((lo – hi) ∷ rs) a b = (ltb hi a || ltb b lo) && clear rs a b

apart : (lo hi a b c : ℕ) → (ltb hi a || ltb b lo) ≡ true → a ≤ c → c ≤ b → lo ≤ c → c ≤ hi → ⊥
apart lo hi a b c e h k p q = by_flag (ltb hi a) (λ y. omega (arith, ltb-true hi a y)) (λ z. let w = rw z at e in omega (arith, ltb-true b lo w))

in_none : (rs : List Range) (a b c : ℕ) → clear rs a b ≡ true → a ≤ c → c ≤ b → In rs c → ⊥
in_none [] a b c e h k x4 = elim x4 [ ]
in_none ((lo – hi) ∷ rs) a b c e h k (inl w) = apart lo hi a b c (both (ltb hi a || ltb b lo) (clear rs a b) e).0 h k w.0 w.1
in_none ((lo – hi) ∷ rs) a b c e h k (inr w) = in_none rs a b c (both (ltb hi a || ltb b lo) (clear rs a b) e).1 h k w

-- no code point from a to b is white
pub dark : (a b c : ℕ) → clear spaces a b ≡ true → a ≤ c → c ≤ b → white c ≡ false
dark a b c e h k = out-among spaces c (in_none spaces a b c e h k)

pub dark_ascii : (c : ℕ) → 0x20 < c → c < 0x85 → false ≡ white c
dark_ascii c h k = sym (dark 0x21 0x84 c refl (omega arith) (omega arith))

pub dark_low : (c : ℕ) → c < 0x09 → false ≡ white c
dark_low c h = sym (dark 0 8 c refl (omega arith) (omega arith))

pub white-blank : (c : ℕ) → c ≡ 0x20 → true ≡ white c
white-blank c e = sym (in_among spaces c (inr (inl (omega arith, omega arith))))

-- above 0x205F
pub white-high : (c : ℕ) → 0x205F < c → eqb c 0x3000 ≡ white c
white-high c h =
    by_flag (eqb c 0x3000)
    (λ y. let e = eqb-true c 0x3000 y in y ∙ sym (in_among spaces c (inr (inr (inr (inr (inr (inr (inr (inr (inr (inl (omega arith, omega arith)))))))))))))
    (λ z.
    let n = eqb-false c 0x3000 z in
    z ∙ sym (by_flag (ltb c 0x3000)
    (λ y. dark 0x2060 0x2FFF c refl (omega arith) (omega (arith, ltb-true c 0x3000 y)))
    (λ w. dark 0x3001 c c refl (omega (arith, ltb-false c 0x3000 w)) (omega arith))))

-- from 0x09 up to 0x20, without that
pub white_low : (c : ℕ) → 0x09 ≤ c → c < 0x20 → leb c 0x0D ≡ white c
white_low c h k =
    by_flag (leb c 0x0D)
    (λ y. let e = leb-true c 0x0D y in y ∙ sym (in_among spaces c (inl (omega arith, omega arith))))
    (λ z. let e = leb-false c 0x0D z in z ∙ sym (dark 0x0E 0x1F c refl (omega arith) (omega arith)))

-- what is not white is no line feed
pub dark_no_feed : {c : ℕ} → white c ≡ false → c ≡ 0x0A → ⊥
unfolding among
dark_no_feed w e = true_false refl (rw e at w)
