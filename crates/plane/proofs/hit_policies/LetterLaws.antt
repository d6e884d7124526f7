-- Laws of the letters of hit policies: reading a policy's letters gives it, and which texts are no policy.
use Rattle.std.specs.Prelude.{None, Some}
use mathlib.Core.Path.{◌≡◌, refl}
use mathlib.Core.Bool.{and-false}
use mathlib.Core.List.{List, [], ◌∷◌}
use Prim.Native.Nat.{ℕ}
use native.Mathlib.Omega.{arith}
use lib.ListN.{length, get_or}
use borrow.Author.Tests.{ne_eqb}
use Rattle.model.specs.declared.BuiltinAggregator.TheVariants as aggregator
use Rattle.model.specs.declared.HitPolicy.{HitPolicy}
use Rattle.model.specs.declared.HitPolicy.TheVariants.{Unique, Any, Priority, First, Collect, OutputOrder, RuleOrder}
use Rattle.plane.specs.hit_policies.Letters.{letters, same_text, by_letters, policy_of}

pub letters-read : (h : HitPolicy) → policy_of (letters h) ≡ Some h
unfolding by_letters same_text
letters-read Unique = refl
letters-read Any = refl
letters-read Priority = refl
letters-read First = refl
letters-read RuleOrder = refl
letters-read OutputOrder = refl
letters-read (Collect aggregator.List) = refl
letters-read (Collect aggregator.Sum) = refl
letters-read (Collect aggregator.Count) = refl
letters-read (Collect aggregator.Min) = refl
letters-read (Collect aggregator.Max) = refl

-- a letter that is no policy
pub no_letter : (c : ℕ) → (c ≡ 0x55 → ⊥) → (c ≡ 0x41 → ⊥) → (c ≡ 0x50 → ⊥) → (c ≡ 0x46 → ⊥) → (c ≡ 0x52 → ⊥) → (c ≡ 0x4F → ⊥) → (c ≡ 0x43 → ⊥) → None ≡ policy_of (c ∷ [])
unfolding by_letters same_text
no_letter c u a p f r o k =
    simp (ne_eqb c 0x55 u, ne_eqb c 0x41 a, ne_eqb c 0x50 p, ne_eqb c 0x46 f, ne_eqb c 0x52 r, ne_eqb c 0x4F o, ne_eqb c 0x43 k)

-- a sign that is no aggregator
pub no_sign : (c : ℕ) → (c ≡ 0x2B → ⊥) → (c ≡ 0x23 → ⊥) → (c ≡ 0x3C → ⊥) → (c ≡ 0x3E → ⊥) → None ≡ policy_of (0x43 ∷ c ∷ [])
unfolding by_letters same_text
no_sign c a b d e = simp (ne_eqb c 0x2B a, ne_eqb c 0x23 b, ne_eqb c 0x3C d, ne_eqb c 0x3E e)

-- a text of neither one nor two bytes
pub no_length : (s : List ℕ) → (length s ≡ 1 → ⊥) → (length s ≡ 2 → ⊥) → None ≡ policy_of s
unfolding by_letters same_text
no_length [] f g = refl
no_length (a ∷ []) f g = absurd (f refl)
no_length (a ∷ b ∷ []) f g = absurd (g refl)
no_length (a ∷ b ∷ c ∷ s) f g = simp and-false

-- two bytes, the first of which is no C
pub no_collect : (s : List ℕ) → length s ≡ 2 → (get_or s 0 0 ≡ 0x43 → ⊥) → None ≡ policy_of s
unfolding by_letters same_text
no_collect [] e f = absurd (omega arith)
no_collect (a ∷ []) e f = absurd (omega arith)
no_collect (a ∷ b ∷ []) e f = simp (and-false, ne_eqb a 0x43 f)
no_collect (a ∷ b ∷ c ∷ s) e f = absurd (omega arith)

-- a text of one byte, and one of two
pub one_byte : (s : List ℕ) → length s ≡ 1 → get_or s 0 0 ∷ [] ≡ s
one_byte [] e = absurd (omega arith)
one_byte (a ∷ []) e = refl
one_byte (a ∷ b ∷ s) e = absurd (omega arith)

pub collect-bytes : (s : List ℕ) → length s ≡ 2 → get_or s 0 0 ≡ 0x43 → 0x43 ∷ get_or s 1 0 ∷ [] ≡ s
collect-bytes [] e f = absurd (omega arith)
collect-bytes (a ∷ []) e f = absurd (omega arith)
collect-bytes (a ∷ b ∷ []) e f = rw f
collect-bytes (a ∷ b ∷ c ∷ s) e f = absurd (omega arith)
