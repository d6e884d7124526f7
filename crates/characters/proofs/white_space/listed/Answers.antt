-- `characters::white_space::listed` meets its contract.
use mathlib.Core.Path.{◌≡◌, sym}
use mathlib.Core.Logic.{◌⊎◌, inl, inr, ⊎_elim}
use mathlib.Core.Bool.{true, false}
use Prim.Native.Nat.{ℕ, ◌≤◌}
use native.Mathlib.Omega.{arith}
use Rattle.characters.specs.white_space.White.{spaces, among, white}
use Rattle.characters.proofs.white_space.WhiteLaws.{in_among, out-among}
use Rattle.characters.proofs.white_space.listed.Goals as goal

-- one of the code points that stand alone
abbrev Alone : ℕ → Type 0
Alone x = (x ≡ 0x20) ⊎ ((x ≡ 0x85) ⊎ ((x ≡ 0xA0) ⊎ ((x ≡ 0x1680) ⊎ ((x ≡ 0x202F) ⊎ ((x ≡ 0x205F) ⊎ (x ≡ 0x3000))))))

alone : (x : ℕ) → Alone x → true ≡ white x
unfolding among
alone x = ⊎_elim (λ e. rw e) (⊎_elim (λ e. rw e) (⊎_elim (λ e. rw e) (⊎_elim (λ e. rw e) (⊎_elim (λ e. rw e) (⊎_elim (λ e. rw e) (λ e. rw e))))))

none : (x : ℕ) → (Alone x → ⊥) → (9 ≤ x → x ≤ 13 → ⊥) → (0x2000 ≤ x → x ≤ 0x200A → ⊥) → (0x2028 ≤ x → x ≤ 0x2029 → ⊥) → false ≡ white x
none x f a b d =
    sym (out-among spaces x
    (⊎_elim (λ w. a w.0 w.1)
    (⊎_elim (λ w. f (inl (omega arith)))
    (⊎_elim (λ w. f (inr (inl (omega arith))))
    (⊎_elim (λ w. f (inr (inr (inl (omega arith)))))
    (⊎_elim (λ w. f (inr (inr (inr (inl (omega arith))))))
    (⊎_elim (λ w. b w.0 w.1)
    (⊎_elim (λ w. d w.0 w.1)
    (⊎_elim (λ w. f (inr (inr (inr (inr (inl (omega arith)))))))
    (⊎_elim (λ w. f (inr (inr (inr (inr (inr (inl (omega arith))))))))
    (⊎_elim (λ w. f (inr (inr (inr (inr (inr (inr (omega arith))))))))
    (λ w. w))))))))))))

pub returns-in_default : goal.returns-in_default
returns-in_default c = none _ c.in_default.in_default-own.rest.1 (λ p q. omega arith) (λ p q. omega arith) (λ p q. omega arith)

pub returns-in_default-2 : goal.returns-in_default-2
returns-in_default-2 c = none _ c.in_default.in_default-own.rest.1 (λ p q. omega arith) (λ p q. omega arith) (λ p q. omega arith)

pub returns-in_default-3 : goal.returns-in_default-3
returns-in_default-3 c = none _ c.in_default.in_default-own.rest.1 (λ p q. omega arith) (λ p q. omega arith) (λ p q. omega arith)

pub returns-in_default-4 : goal.returns-in_default-4
returns-in_default-4 c = none _ c.in_default.in_default-own.rest.1 (λ p q. omega arith) (λ p q. omega arith) (λ p q. omega arith)

pub returns-in-9-to-13 : goal.returns-in-9-to-13
returns-in-9-to-13 c = alone _ c.in-9-to-13.in-9-to-13-own.keys1

pub returns-in-9-to-13-2 : goal.returns-in-9-to-13-2
returns-in-9-to-13-2 c = sym (in_among spaces _ (inl (omega arith, omega arith)))

pub returns-in-9-to-13-3 : goal.returns-in-9-to-13-3
returns-in-9-to-13-3 c = sym (in_among spaces _ (inr (inr (inr (inr (inr (inl (omega arith, omega arith))))))))

pub returns-in-9-to-13-4 : goal.returns-in-9-to-13-4
returns-in-9-to-13-4 c = sym (in_among spaces _ (inr (inr (inr (inr (inr (inr (inl (omega arith, omega arith)))))))))
