-- One computed test says that a walk is given what it needs for two lists: `sought`.
use mathlib.Core.Path.{◌≡◌, refl, sym, ap, ◌∙◌}
use mathlib.Core.Bool.{Bool, true, false, not, ◌&&◌, beq}
use mathlib.Core.List.{List, [], ◌∷◌}
use Prim.Native.Nat.{ℕ, ◌+◌, ◌-◌, ◌/◌, ◌%◌, ◌^◌, ◌≤◌, ◌<◌}
use lib.Dec.{eqb, leb, ltb}
use lib.ListN.{get_or}
use native.Mathlib.Omega.{arith}
use borrow.Author.Tests.{not-true, ne_eqb, eqb-true, leb-true, leb-false, ltb-true, ltb-false, lt-ltb, le-ltb, le-leb, lt-leb}
use Rattle.lists.specs.OneOf.{one_of}
use Rattle.lists.proofs.OneOfLaws.{all_keys}
use Rattle.lists.proofs.Tests.{by_flag, true_false, both}
use Rattle.walks.specs.Sets.{among, has_bit, holds, SetOf, Passes, Sought}
use Rattle.walks.specs.Sides.{all_from}
use Rattle.walks.specs.declared.Characters.{Characters}
use Rattle.walks.specs.declared.Set.{Set}
use Rattle.walks.proofs.SidesLaws.{all_true}

-- which characters a number has not, and what it says of the others
pub bit_below : (bits first c : ℕ) → c < first → has_bit bits first c ≡ false
unfolding has_bit
bit_below bits first c h = rw (lt-leb first c h)

pub bit_above : (bits first c : ℕ) → first ≤ c → first + 64 ≤ c → has_bit bits first c ≡ false
unfolding has_bit
bit_above bits first c l h = rw (le-leb first c l, le-ltb c (first + 64) h)

pub bit_in : (bits first c : ℕ) → first ≤ c → c < first + 64 → has_bit bits first c ≡ eqb (bits / 2 ^ (c - first) % 2) 1
unfolding has_bit
bit_in bits first c l h = rw (le-leb first c l, lt-ltb c (first + 64) h)

-- the number that has a character of a set
pub held-light : (set : Set) (c : ℕ) → c < 0x2540 → holds set c ≡ has_bit set.light 0x2500 c
unfolding holds
held-light set c h = rw (lt-ltb c 0x2540 h)

pub held_double : (set : Set) (c : ℕ) → 0x2540 ≤ c → holds set c ≡ has_bit set.double 0x2540 c
unfolding holds
held_double set c h = rw (le-ltb c 0x2540 h)

-- the characters that a set can have
abbrev boxed : ℕ → Bool
boxed c = among 0x2500 128 c

-- a test that a set is that of a list: at each of the 128 characters, and the list has no other
abbrev pub setb : Set → List ℕ → Bool
setb set codes = all_from (λ c. beq (holds set c) (one_of c codes)) 0x2500 128 && all_keys boxed codes

beq_true : (a b : Bool) → beq a b ≡ true → a ≡ b
beq_true true true e = refl
beq_true false false e = refl
beq_true true false e = sym e
beq_true false true e = e

-- no other character is held, or listed
held_out : (set : Set) (c : ℕ) → boxed c ≡ false → holds set c ≡ false
held_out set c e =
    by_flag (leb 0x2500 c)
    (λ l.
    by_flag (ltb c 0x2580) (λ h. absurd (true_false (rw (l, h)) e))
    (λ h.
    let above : 0x2580 ≤ c = ltb-false c 0x2580 h in
    held_double set c (omega (arith, above)) ∙ bit_above set.double 0x2540 c (omega (arith, above)) above))
    (λ l.
    let below : c < 0x2500 = leb-false 0x2500 c l in
    held-light set c (omega (arith, below)) ∙ bit_below set.light 0x2500 c below)

listed-out : (codes : List ℕ) (c : ℕ) → all_keys boxed codes ≡ true → boxed c ≡ false → one_of c codes ≡ false
unfolding one_of
listed-out [] c e o = refl
listed-out (k ∷ ks) c e o =
    let b = both (boxed k) (all_keys boxed ks) e in
    rw (ne_eqb c k (λ q. true_false b.0 (ap boxed (sym q) ∙ o))) (listed-out ks c b.1 o)

pub set_of : (set : Set) (codes : List ℕ) → setb set codes ≡ true → SetOf set codes
set_of set codes e c =
    let b = both (all_from (λ c. beq (holds set c) (one_of c codes)) 0x2500 128) (all_keys boxed codes) e in
    by_flag (boxed c)
    (λ i.
    let r = both (leb 0x2500 c) (ltb c 0x2580) i in
    let low : 0x2500 ≤ c = leb-true 0x2500 c r.0 in
    let high : c < 0x2580 = ltb-true c 0x2580 r.1 in
    beq_true (holds set c) (one_of c codes) (all_true (λ c. beq (holds set c) (one_of c codes)) 0x2500 128 b.0 c low high))
    (λ o. held_out set c o ∙ sym (listed-out codes c b.1 o))

-- a test that a character is passed
abbrev passesb : List ℕ → List ℕ → ℕ → Bool
passesb s a c = not (one_of c s) && one_of c a

passed : (s a : List ℕ) (c : ℕ) → passesb s a c ≡ true → Passes s a c
passed s a c e =
    let b = both (not (one_of c s)) (one_of c a) e in
    (not-true (one_of c s) b.0, b.1)

abbrev pub soughtb : Characters → List ℕ → List ℕ → Bool
soughtb c s a = (setb c.searched s && setb c.allowed a) && (eqb c.wanted (get_or s 0 0) && passesb s a c.line)

pub sought : (c : Characters) (s a : List ℕ) → soughtb c s a ≡ true → Sought c s a
sought c s a e =
    let b = both (setb c.searched s && setb c.allowed a) (eqb c.wanted (get_or s 0 0) && passesb s a c.line) e in
    let t = both (setb c.searched s) (setb c.allowed a) b.0 in
    let o = both (eqb c.wanted (get_or s 0 0)) (passesb s a c.line) b.1 in
    record {
      ends = set_of c.searched s t.0;
      first = eqb-true c.wanted (get_or s 0 0) o.0;
      passes = set_of c.allowed a t.1;
      line = passed s a c.line o.1;
    }
