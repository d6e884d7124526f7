-- Laws of bytes that are ASCII from 0x20 on: a line and a check go on behind them.
use mathlib.Core.Path.{◌≡◌, sym, ap, ◌∙◌}
use mathlib.Core.Bool.{Bool, true, ◌&&◌}
use mathlib.Core.List.{List, [], ◌∷◌}
use Prim.Native.Nat.{ℕ, zero, suc, ◌+◌, ◌-◌, ◌≤◌, ◌<◌}
use native.Mathlib.Omega.{arith}
use lib.Dec.{ltb}
use lib.ListN.{length, get_or, take, drop}
use borrow.Author.Tests.{ltb-true, ltb-false}
use Rattle.lists.proofs.Parts.{at_cons}
use Rattle.lists.proofs.Tests.{by_flag, both}
use Rattle.characters.specs.utf8.Utf8.{decode, codes, check, encode}
use Rattle.characters.specs.declared.utf8.Decoded.TheVariants.{Char}
use Rattle.characters.proofs.utf8.Utf8Laws.{decode_ascii, check-at, codes_at_lem, encode1}
use Rattle.characters.proofs.utf8.Inverse.{decode-size, encode-decode}
use Rattle.characters.specs.white_space.Lines.{after}
use Rattle.scan.specs.line_checks.LineEnds.{Plain}
use Rattle.scan.proofs.line_checks.LinePassing.{Passing, after_more}

pub plain-none : (s : List ℕ) (at : ℕ) → Plain s at at
plain-none s at = record { bytes = λ p a b. absurd (omega arith) }

pub plain_one : (s : List ℕ) (at : ℕ) → (0x20 ≤ get_or s at 0) × (get_or s at 0 ≤ 0x7F) → Plain s at (at + 1)
plain_one s at h = record { bytes = λ p a b. let e : at ≡ p = omega arith in rw e at h }

-- one part behind another, or over its end
pub plain-join : {s : List ℕ} {a b b' c d : ℕ} → Plain s a b → Plain s b' d → b' ≤ b → c ≤ d → Plain s a c
plain-join {s} {a} {b} {b'} {c} {d} h k l m =
    record { bytes = λ p x y. by_flag (ltb p b) (λ t. h.bytes p x (ltb-true p b t)) (λ f. k.bytes p (omega (arith, ltb-false p b f)) (omega arith)) }

pub all_four : (a b c d : Bool) → (((a && b) && c) && d) ≡ true → (a ≡ true) × (b ≡ true) × (c ≡ true) × (d ≡ true)
all_four a b c d e =
    let x = both ((a && b) && c) d e in
    let y = both (a && b) c x.0 in
    let z = both a b y.0 in
    (z.0, z.1, y.1, x.1)

-- what stays at each of n steps stays over all
keeps : {A : Type 0} (F : ℕ → A) (n at : ℕ) → ((p : ℕ) → at ≤ p → p < at + n → F p ≡ F (p + 1)) → F at ≡ F (at + n)
keeps F zero at h = let e : at ≡ at + 0 = omega arith in ap F e
keeps F (suc n) at h =
    let e : at + 1 + n ≡ at + suc n = omega arith in
    h at (omega arith) (omega arith) ∙ keeps F n (at + 1) (λ p a b. h p (omega arith) (omega arith)) ∙ ap F e

module _ {s : List ℕ} {at to : ℕ} (l : at ≤ to) (m : to ≤ length s) (h : Plain s at to) where
  char : (p : ℕ) → at ≤ p → p < to → decode (drop p s) ≡ Char (get_or s p 0) 1
  char p a b = decode_ascii s p (omega arith) (h.bytes p a b).1

  over : {A : Type 0} (F : ℕ → A) → ((p : ℕ) → at ≤ p → p < to → F p ≡ F (p + 1)) → F at ≡ F to
  over F k =
      let e : at + (to - at) ≡ to = omega arith in
      keeps F (to - at) at (λ p a b. k p a (omega arith)) ∙ ap F e

  plain-after : after (codes (drop at s)) ≡ after (codes (drop to s))
  plain-after = over (λ (p : ℕ). after (codes (drop p s))) (λ p a b. after_more _ _ _ (codes_at_lem s p (get_or s p 0) 1 (char p a b) (omega arith)) (λ e. omega (arith, e, (h.bytes p a b).0)))

  plain-check : check 0 at (drop at s) ≡ check 0 to (drop to s)
  plain-check = over (λ (p : ℕ). check 0 p (drop p s)) (λ p a b. check-at s p (get_or s p 0) 1 (char p a b) (omega arith))

  pub pass-plain : {from : ℕ} → Passing s from at → Passing s from to
  pass-plain i = record { along = omega (arith, i.along); inside = m; onward = i.onward ∙ plain-after; checks = i.checks ∙ plain-check }

-- a line feed is told by its byte
module _ (s : List ℕ) (p : ℕ) (h : p < length s) where
  pub feed_here : get_or s p 0 ≡ 0x0A → decode (drop p s) ≡ Char 0x0A 1
  feed_here e = decode_ascii s p h (omega arith) ∙ rw e

  pub no_feed_here : (get_or s p 0 ≡ 0x0A → ⊥) → {c n : ℕ} → decode (drop p s) ≡ Char c n → c ≡ 0x0A → ⊥
  no_feed_here f {c} {n} e q =
      let w : encode c ≡ 0x0A ∷ [] = ap encode q ∙ encode1 0x0A (omega arith) in
      let z : n ≡ 1 = decode-size (drop p s) c n e ∙ ap length w in
      let v : take 1 (drop p s) ≡ 0x0A ∷ [] = ap (λ (k : ℕ). take k (drop p s)) (sym z) ∙ encode-decode (drop p s) c n e ∙ w in
      let u : get_or s p 0 ∷ [] ≡ 0x0A ∷ [] = sym (ap (take 1) (at_cons s p 0 h)) ∙ v in
      let y : get_or s p 0 ≡ 0x0A = cc in
      f y
