-- What an arm of a `match` on a number knows, put to use; and a loop that looks for a place at which a test holds.
use mathlib.Core.Path.{◌≡◌, refl, sym, subst}
use mathlib.Core.Bool.{Bool, true, false, ◌&&◌, or-true}
use mathlib.Core.List.{List, [], ◌∷◌}
use mathlib.Core.Logic.{inl, inr, ⊎_elim}
use Prim.Native.Nat.{ℕ, zero, suc, ◌+◌, ◌<◌, ◌≤◌}
use native.Mathlib.Nat.{le_of_suc-le-suc, eq-or-lt_of_le}
use native.Mathlib.Numerals.{add-one}
use native.Mathlib.Omega.{arith}
use lib.Dec.{T, eqb, eqb→eq}
use types.Run.{OneOf}
use lib.ListN.{length, get_or, drop, drop_of_length-le}
use lib.Seq.{drop-cons}
use borrow.Author.Tests.{eq-eqb, ne_eqb}
use Rattle.lists.specs.OneOf.{one_of, any_at}

-- f holds at every key
abbrev pub all_keys : (ℕ → Bool) → List ℕ → Bool
all_keys f [] = true
all_keys f (k ∷ ks) = f k && all_keys f ks

head_holds : (a b : Bool) → T (a && b) → T a
head_holds true b t = tt
head_holds false b t = t

tail-holds : (a b : Bool) → T (a && b) → T b
tail-holds true b t = t
tail-holds false b t = absurd t

by_test : (f : ℕ → Bool) (ks : List ℕ) (x : ℕ) → T (all_keys f ks) → OneOf ks x → T (f x)
by_test f [] x t h = absurd h
by_test f (k ∷ []) x t h = subst (λ (n : ℕ). T (f n)) (sym h) (head_holds (f k) true t)
by_test f (k ∷ k' ∷ ks) x t (inl h) = subst (λ (n : ℕ). T (f n)) (sym h) (head_holds (f k) (all_keys f (k' ∷ ks)) t)
by_test f (k ∷ k' ∷ ks) x t (inr h) = by_test f (k' ∷ ks) x (tail-holds (f k) (all_keys f (k' ∷ ks)) t) h

-- g and h agree at every key, by computation, so at x, which is one of them
pub by_keys : (g h : ℕ → ℕ) (ks : List ℕ) (x : ℕ) → T (all_keys (λ k. eqb (g k) (h k)) ks) → OneOf ks x → g x ≡ h x
by_keys g h ks x t o = eqb→eq (g x) (h x) (by_test (λ k. eqb (g k) (h k)) ks x t o)

one : (k : ℕ) (ks : List ℕ) (x : ℕ) → x ≡ k → OneOf (k ∷ ks) x
one k [] x e = e
one k (k' ∷ ks) x e = inl e

more : (k : ℕ) (ks : List ℕ) (x : ℕ) → OneOf ks x → OneOf (k ∷ ks) x
more k [] x h = absurd h
more k (k' ∷ ks) x h = inr h

-- x is none of ks
pub none : (ks : List ℕ) (x : ℕ) → (OneOf ks x → ⊥) → one_of x ks ≡ false
unfolding one_of
none [] x h = refl
none (k ∷ ks) x h = rw (ne_eqb x k (λ e. h (one k ks x e))) (none ks x (λ o. h (more k ks x o)))

-- a search for a place has come to k
pub any_none : (f : ℕ → Bool) → any_at f 0 ≡ false
unfolding any_at
any_none f = refl

pub any_more : (f : ℕ → Bool) (k : ℕ) → any_at f k ≡ false → f k ≡ false → any_at f (k + 1) ≡ false
unfolding any_at
any_more f k h e = rw (add-one, h, e)

pub any_found : (f : ℕ → Bool) (n k : ℕ) → k < n → f k ≡ true → any_at f n ≡ true
unfolding any_at
any_found f zero k h e = absurd (omega arith)
any_found f (suc n) k h e = ⊎_elim (λ q. rw (← q, e) (or-true (any_at f k))) (λ l. rw (any_found f n k l e)) (eq-or-lt_of_le (le_of_suc-le-suc h))

pub any_ext : (f g : ℕ → Bool) (n : ℕ) → ((k : ℕ) → k < n → f k ≡ g k) → any_at f n ≡ any_at g n
unfolding any_at
any_ext f g zero h = refl
any_ext f g (suc n) h = rw (h n (omega arith), any_ext f g n (λ k l. h k (omega arith)))

-- a search through the codes has come to i
module _ (c : ℕ) (ks : List ℕ) (i : ℕ) where
  pub one_hit : i < length ks → c ≡ get_or ks i 0 → one_of c (drop i ks) ≡ true
  unfolding one_of
  one_hit h e = rw (drop-cons ks i 0, eq-eqb c (get_or ks i 0) e)

  pub one_miss : i < length ks → (c ≡ get_or ks i 0 → ⊥) → one_of c (drop (i + 1) ks) ≡ one_of c (drop i ks)
  unfolding one_of
  one_miss h e = rw (add-one, drop-cons ks i 0, ne_eqb c (get_or ks i 0) e)

  pub one_end : length ks ≤ i → one_of c (drop i ks) ≡ false
  unfolding one_of
  one_end h = rw (drop_of_length-le ks h)
