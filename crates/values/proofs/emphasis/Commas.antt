-- The comma at which a part of a text ends.
use mathlib.Core.Path.{◌≡◌, refl, sym, ap, ◌∙◌}
use mathlib.Core.Bool.{cond}
use mathlib.Core.List.{List, [], ◌∷◌}
use Prim.Native.Nat.{ℕ, suc, ◌+◌, ◌-◌, ◌≤◌, ◌<◌}
use native.Mathlib.Omega.{arith}
use borrow.Author.Tests.{lt-ltb, le-ltb, ltb-true, ltb-false}
use lib.Dec.{eqb, ltb}
use lib.ListN.{length, take, drop, length-drop}
use lib.Seq.{drop-drop}
use Rattle.std.specs.Prelude.{Option, None, Some}
use Rattle.std.specs.List.{position_or_len}
use Rattle.std.specs.Option.{unwrap_or}
use Rattle.lists.proofs.Tests.{by_flag}
use Rattle.characters.specs.white_space.Lines.{join}
use Rattle.values.specs.emphasis.Commas.{comma, parts}
use Rattle.values.specs.emphasis.Found.{PartEnd, parts_behind}

-- the bytes before the first comma
abbrev pub before_comma : List ℕ → ℕ
before_comma s = position_or_len (λ c. eqb c comma) s

same_test : {a b c d : ℕ} → (a < b → c < d) → (b ≤ a → d ≤ c) → ltb a b ≡ ltb c d
same_test {a} {b} {c} {d} f g =
    by_flag (ltb a b) (λ y. y ∙ sym (lt-ltb c d (f (ltb-true a b y)))) (λ z. z ∙ sym (le-ltb c d (g (ltb-false a b z))))

first-part : (s : List ℕ) → parts s ≡ take (before_comma s) s ∷ parts_behind s (before_comma s)
unfolding parts
first-part [] = refl
first-part (c ∷ s) = by_flag (eqb c comma) (λ y. rw (y, lt-ltb 0 (suc (length s)) (omega arith)) refl) (λ z. rw z (further (before_comma s) (first-part s)))
  where
    further : (n : ℕ) → parts s ≡ take n s ∷ parts_behind s n → join c (parts s) ≡ take (1 + n) (c ∷ s) ∷ parts_behind (c ∷ s) (1 + n)
    further n h =
        let a : 1 + n ≡ suc n = omega arith in
        let b : suc n + 1 ≡ suc (n + 1) = omega arith in
        let w : ltb (suc n) (suc (length s)) ≡ ltb n (length s) = same_test (λ y. omega (arith, y)) (λ y. omega (arith, y)) in
        rw (a, b, w) (ap (join c) h)

most : (s : List ℕ) → before_comma s ≤ length s
most [] = omega arith
most (c ∷ s) = by_flag (eqb c comma) (λ y. rw y (omega arith)) (λ z. rw z (omega (arith, most s)))

-- what the library's `position` finds, or the length
pub before-found : (s : List ℕ) {r : Option ℕ} → r ≡ cond (ltb (before_comma s) (length s)) (Some (before_comma s)) None
    → unwrap_or r (length s) ≡ before_comma s
before-found s e = ap (λ (r : Option ℕ). unwrap_or r (length s)) e ∙ by_flag (ltb (before_comma s) (length s)) (λ y. rw y refl) (λ z. rw z (omega (arith, most s, ltb-false (before_comma s) (length s) z)))

-- the first part from `at` on is the first part of what stands there
pub part_ends : (s : List ℕ) (at n : ℕ) → at ≤ length s → n ≡ before_comma (drop at s) → PartEnd s at (at + n)
part_ends s at n h e = go (drop at s) refl (length-drop at s)
  where
    go : (d : List ℕ) → d ≡ drop at s → length d ≡ length s - at → PartEnd s at (at + n)
    go d o l =
        let p : n ≡ before_comma d = rw o e in
        let m : n ≤ length d = rw p (most d) in
        let k : at + n - at ≡ n = omega arith in
        let q : at + (n + 1) ≡ at + n + 1 = omega arith in
        let w : ltb n (length d) ≡ ltb (at + n) (length s) =
        same_test (λ y. omega (arith, l, y)) (λ z. omega (arith, l, z)) in
        let v : drop (n + 1) d ≡ drop (at + n + 1) s =
        ap (drop (n + 1)) o ∙ drop-drop (n + 1) at s ∙ ap (λ (j : ℕ). drop j s) q in
        let f : parts d ≡ take n d ∷ parts_behind d n = rw p (first-part d) in
        let b : parts_behind d n ≡ parts_behind s (at + n) = rw (w, v) refl in
        let t : take n d ≡ take (at + n - at) (drop at s) = rw (k, o) refl in
        record { low = omega arith; high = omega (arith, m, l, h); same = ap parts (sym o) ∙ f ∙ rw (b, t) refl }
