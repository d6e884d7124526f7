-- Tests and choices.
use Rattle.std.specs.Prelude.{None, Some}
use mathlib.Core.Path.{◌≡◌, refl}
use mathlib.Core.Bool.{Bool, true, false, ◌&&◌}
use Prim.Native.Nat.{ℕ}
use native.Mathlib.Omega.{arith}
use Rattle.lists.specs.Choose.{choose}

-- a test holds or fails
pub by_flag : {A : Type 0} (f : Bool) → (f ≡ true → A) → (f ≡ false → A) → A
by_flag true y z = y refl
by_flag false y z = z refl

pub true_false : {A : Type 0} {t : Bool} → t ≡ true → t ≡ false → A
true_false {A} {t} y z = let w : ◌≡◌ {A = ℕ} 0 1 = cc in absurd (omega arith)

pub both : (a b : Bool) → (a && b) ≡ true → (a ≡ true) × (b ≡ true)
both true b h = (refl, h)
both false b h = true_false h refl

pub choose_on : {A : Type 0} (t : Bool) (a b : A) → t ≡ true → choose t a b ≡ a
choose_on t a b e = rw e

pub choose_off : {A : Type 0} (t : Bool) (a b : A) → t ≡ false → choose t a b ≡ b
choose_off t a b e = rw e

-- a function of a choice
pub choose_ap : {A B : Type 0} (f : A → B) (t : Bool) (a b : A) → f (choose t a b) ≡ choose t (f a) (f b)
choose_ap f true a b = refl
choose_ap f false a b = refl

-- a choice that is there
pub choose-some : {A : Type 0} (t : Bool) (a b : A) → choose t (Some a) None ≡ Some b → (t ≡ true) × (a ≡ b)
choose-some true a b e = (refl, cc)
choose-some false a b e = let w : ◌≡◌ {A = ℕ} 0 1 = cc in absurd (omega arith)
