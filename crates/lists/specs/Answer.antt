-- Readings, each of which answers or refuses, one after the other, up to the first refusal.
use Rattle.std.specs.Prelude.{Bool, List, [], ◌∷◌, ◌≡◌, ℕ, zero, suc, Result, Ok, Err}
use Rattle.lists.specs.Choose.{choose}

-- k of the answer; a refusal stays. In a `do` block the order of the lines is the order of the refusals
abbrev pub ◌>>=◌ : {R A B : Type 0} → Result A R → (A → Result B R) → Result B R
◌>>=◌ (Ok a) k = k a
◌>>=◌ (Err r) k = Err r

abbrev pub ◌>>◌ : {R A B : Type 0} → Result A R → Result B R → Result B R
◌>>◌ m n = ◌>>=◌ m (λ _. n)

-- from the state s on, one step for each element, up to the first refusal
unfoldable pub each : {R A S : Type 0} → (A → S → Result S R) → List A → S → Result S R
each f [] s = Ok s
each f (a ∷ l) s = ◌>>=◌ (f a s) (each f l)

-- those of the n numbers from k on at which h holds
unfoldable pub those : (ℕ → Bool) → ℕ → ℕ → List ℕ
those h k zero = []
those h k (suc n) = choose (h k) (k ∷ those h (suc k) n) (those h (suc k) n)

-- what m answers, m' answers
abbrev pub Below : {R A : Type 0} → Result A R → Result A R → Type 0
Below {R} {A} m m' = (a : A) → m ≡ Ok a → m' ≡ Ok a
