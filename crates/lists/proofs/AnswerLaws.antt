-- Laws of answers: one turn of a loop over those places at which a test holds, and monotonicity.
use Rattle.std.specs.Prelude.{Result, Ok, Err}
use mathlib.Core.Path.{◌≡◌, refl, ap, ◌∙◌, subst}
use mathlib.Core.Bool.{Bool, true, false}
use mathlib.Core.List.{List, [], ◌∷◌}
use Prim.Native.Nat.{ℕ, zero, suc, ◌+◌, ◌-◌, ◌≤◌, ◌<◌}
use native.Mathlib.Nat.{add-zero}
use native.Mathlib.Numerals.{add-one}
use native.Mathlib.Omega.{arith}
use Rattle.lists.specs.Choose.{choose}
use Rattle.lists.specs.Answer.{◌>>=◌, each, those, Below}

-- a refusal is no answer
pub refused-ok : {R A B : Type 0} {r : R} {a : A} → ◌≡◌ {A = Result A R} (Err r) (Ok a) → B
refused-ok e = let z : ◌≡◌ {A = ℕ} 0 1 = cc in absurd (omega arith)

-- an acceptance taken apart: the first reading answers, and the rest of that answer
pub then_ok : {R A B : Type 0} (m : Result A R) (k : A → Result B R) (b : B) → ◌>>=◌ m k ≡ Ok b → (a : A) × (m ≡ Ok a) × (k a ≡ Ok b)
then_ok (Ok a) k b e = (a, refl, e)
then_ok (Err r) k b e = refused-ok e

pub those-next : (h : ℕ → Bool) (x w : ℕ) → x < w
    → those h x (w - x) ≡ choose (h x) (x ∷ those h (x + 1) (w - (x + 1))) (those h (x + 1) (w - (x + 1)))
unfolding those
those-next h x w l =
    let e : w - x ≡ suc (w - (x + 1)) = omega arith in
    rw (e, add-one x)

pass_over : (h : ℕ → Bool) (w x n : ℕ) → x + n ≤ w → ((j : ℕ) → x ≤ j → j < x + n → h j ≡ false) → those h x (w - x) ≡ those h (x + n) (w - (x + n))
pass_over h w x zero l c = rw (add-zero x)
pass_over h w x (suc n) l c =
    let z : x + 1 + n ≡ x + suc n = omega arith in
    those-next h x w (omega arith) ∙ rw (c x (omega arith) (omega arith))
    (subst (λ (m : ℕ). those h (x + 1) (w - (x + 1)) ≡ those h m (w - m)) z (pass_over h w (x + 1) n (omega arith) (λ j a b. c j (omega arith) (omega arith))))

-- numbers at which h does not hold are passed over
pub those-from : (h : ℕ → Bool) (w x k : ℕ) → x ≤ k → k ≤ w → ((j : ℕ) → x ≤ j → j < k → h j ≡ false) → those h x (w - x) ≡ those h k (w - k)
those-from h w x k a b c =
    let z : x + (k - x) ≡ k = omega arith in
    subst (λ (m : ℕ). those h x (w - x) ≡ those h m (w - m)) z (pass_over h w x (k - x) (omega arith) (λ j d e. c j d (omega arith)))

-- a loop over those of 0, .., w - 1 at which h holds has come to x, in the state s
module _ {R S : Type 0} (f : ℕ → S → Result S R) (h : ℕ → Bool) where
  each_at : (k n : ℕ) (s : S) (t : Bool) → h k ≡ t
      → each f (choose t (k ∷ those h (suc k) n) (those h (suc k) n)) s ≡ ◌>>=◌ (choose t (f k s) (Ok s)) (each f (those h (suc k) n))
  unfolding each
  each_at k n s true e = refl
  each_at k n s false e = refl

  turn : (x w : ℕ) (s : S) → x < w
      → each f (those h x (w - x)) s ≡ ◌>>=◌ (choose (h x) (f x s) (Ok s)) (each f (those h (x + 1) (w - (x + 1))))
  unfolding those
  turn x w s l =
      let e : w - x ≡ suc (w - (x + 1)) = omega arith in
      rw (e, add-one x) (each_at x (w - suc x) s (h x) refl)

  pub turn_on : (x w : ℕ) (s s' : S) → x < w → choose (h x) (f x s) (Ok s) ≡ Ok s'
      → each f (those h x (w - x)) s ≡ each f (those h (x + 1) (w - (x + 1))) s'
  turn_on x w s s' l e = turn x w s l ∙ ap (λ (m : Result S R). ◌>>=◌ m (each f (those h (x + 1) (w - (x + 1))))) e

  pub turn_out : (x w : ℕ) (s : S) (r : R) → x < w → choose (h x) (f x s) (Ok s) ≡ Err r → each f (those h x (w - x)) s ≡ Err r
  turn_out x w s r l e = turn x w s l ∙ ap (λ (m : Result S R). ◌>>=◌ m (each f (those h (x + 1) (w - (x + 1))))) e

  pub turn_end : (x w : ℕ) (s : S) → w ≤ x → each f (those h x (w - x)) s ≡ Ok s
  unfolding each those
  turn_end x w s l =
      let e : w - x ≡ 0 = omega arith in
      rw e

-- two ways of reading, the second of which answers whatever the first answers
pub then_below : {R A B : Type 0} (m m' : Result A R) (k k' : A → Result B R) → Below m m' → ((a : A) → Below (k a) (k' a)) → Below (◌>>=◌ m k) (◌>>=◌ m' k')
then_below m m' k k' h g b e =
    let t = then_ok m k b e in
    rw (h t.0 t.1) (g t.0 b t.2)

pub each_below : {R A S : Type 0} (f f' : A → S → Result S R) → ((a : A) (s : S) → Below (f a s) (f' a s)) → (l : List A) (s : S) → Below (each f l s) (each f' l s)
unfolding each
each_below f f' h [] s = λ b e. e
each_below f f' h (a ∷ l) s = then_below (f a s) (f' a s) (each f l) (each f' l) (h a s) (λ s'. each_below f f' h l s')

pub choose_below : {R A : Type 0} (t : Bool) (m n n' : Result A R) → Below n n' → Below (choose t m n) (choose t m n')
choose_below true m n n' h = λ a e. e
choose_below false m n n' h = h
