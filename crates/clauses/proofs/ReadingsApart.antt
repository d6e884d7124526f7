-- Readings taken apart: the refusals of a reading, and then a value.
use Rattle.std.specs.Prelude.{Ok, Err}
use mathlib.Core.Bool.{Bool, true, false}
use mathlib.Core.Path.{◌≡◌, refl}
use Prim.Native.Nat.{ℕ, zero, suc}
use Rattle.lists.specs.Answer.{◌>>=◌}
use Rattle.lists.specs.Choose.{choose}
use Rattle.lists.specs.Run.{run}
use Rattle.model.specs.Refusals.{Reading}
use Rattle.clauses.specs.passes.Readings.{pass}
use Rattle.clauses.specs.Readings.{along}

-- a refuses what c refuses, and answers v of what c answers
abbrev pub Apart : {A B : Type 0} → Reading A → Reading B → (B → A) → Type 0
Apart a c v = a ≡ ◌>>=◌ c (λ b. Ok (v b))

-- a reading apart, and then what comes after it
pub after : {A B C D : Type 0} (a : Reading A) (c : Reading B) (v : B → A) (k : A → Reading C) (l : B → Reading D) (w : D → C)
    → Apart a c v → ((b : B) → c ≡ Ok b → Apart (k (v b)) (l b) w) → Apart (◌>>=◌ a k) (◌>>=◌ c l) w
after a (Ok b) v k l w e h = rw e (h b refl)
after a (Err r) v k l w e h = rw e

-- the same reading first
pub same : {A C D : Type 0} (a : Reading A) (k : A → Reading C) (l : A → Reading D) (w : D → C)
    → ((b : A) → a ≡ Ok b → Apart (k b) (l b) w) → Apart (◌>>=◌ a k) (◌>>=◌ a l) w
same (Ok b) k l w h = h b refl
same (Err r) k l w h = refl

-- the value changed
pub changed : {A B C : Type 0} (a : Reading A) (c : Reading B) (v : B → A) (k : A → C) → Apart a c v
    → Apart (◌>>=◌ a (λ x. Ok (k x))) c (λ b. k (v b))
changed a (Ok b) v k e = rw e
changed a (Err r) v k e = rw e

-- two ways, by a test
pub way : {A B : Type 0} (t : Bool) (a a' : Reading A) (c c' : Reading B) (v : B → A)
    → (t ≡ true → Apart a c v) → (t ≡ false → Apart a' c' v) → Apart (choose t a a') (choose t c c') v
way true a a' c c' v p q = p refl
way false a a' c c' v p q = q refl

-- three passes one after the other, before what follows them
pub joined : {A : Type 0} (a b c : Reading (Unit {0})) (m : Unit {0} → Reading A)
    → ◌>>=◌ (◌>>=◌ a (λ _. ◌>>=◌ b (λ _. c))) m ≡ ◌>>=◌ a (λ _. ◌>>=◌ b (λ _. ◌>>=◌ c m))
joined (Ok x) (Ok y) c m = refl
joined (Ok x) (Err r) c m = refl
joined (Err r) b c m = refl

-- place by place
pub along_apart : {A : Type 0} (f : ℕ → Reading A) (c : ℕ → Reading (Unit {0})) (v : ℕ → A) → ((i : ℕ) → Apart (f i) (c i) (λ _. v i))
    → (i n : ℕ) → Apart (along f i n) (pass c i n) (λ _. run v i n)
unfolding along pass run
along_apart f c v h i zero = refl
along_apart f c v h i (suc n) =
    after (f i) (c i) (λ _. v i) _ _ _ (h i) (λ _ _. changed _ (pass c (suc i) n) (λ _. run v (suc i) n) _ (along_apart f c v h (suc i) n))
