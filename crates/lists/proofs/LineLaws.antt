-- Laws of lines: what stores along a line, and passes over several lines, make of each place.
use mathlib.Core.Path.{◌≡◌, refl, ap, ◌∙◌}
use mathlib.Core.Bool.{Bool, true, false}
use mathlib.Core.List.{List}
use mathlib.Core.Logic.{⊎_elim}
use Prim.Native.Nat.{ℕ, zero, suc, ◌<◌}
use native.Mathlib.Nat.{le_of_suc-le-suc, eq-or-lt_of_le}
use native.Mathlib.Omega.{arith}
use lib.ListN.{length, get_or, length-set}
use lib.Seq.{get_or-set_same, get_or-set_other}
use Rattle.lists.specs.Choose.{choose}
use Rattle.lists.specs.Turns.{turns}
use Rattle.lists.specs.Line.{store_at}

-- a run of stores, each at a place of its own and of what stood there
module _ (at : ℕ → ℕ) (v : ℕ → ℕ → ℕ) (s : List ℕ) where
  pub stores_length : (n : ℕ) → length (turns (store_at at v) n s) ≡ length s
  unfolding turns
  stores_length zero = refl
  stores_length (suc n) = length-set (turns (store_at at v) n s) (at n) (v n (get_or (turns (store_at at v) n s) (at n) 0)) ∙ stores_length n

  pub stores_off : (n p : ℕ) → ((k : ℕ) → k < n → p ≡ at k → ⊥) → get_or (turns (store_at at v) n s) p 0 ≡ get_or s p 0
  unfolding turns
  stores_off zero p h = refl
  stores_off (suc n) p h =
      get_or-set_other (turns (store_at at v) n s) (at n) p (v n (get_or (turns (store_at at v) n s) (at n) 0)) 0 (h n (omega arith)) ∙ stores_off n p (λ k l. h k (omega arith))

  pub stores_on : (n : ℕ) → ((j k : ℕ) → j < n → k < n → at j ≡ at k → j ≡ k) → ((k : ℕ) → k < n → at k < length s) → (k : ℕ) → k < n → get_or (turns (store_at at v) n s) (at k) 0 ≡ v k (get_or s (at k) 0)
  unfolding turns
  stores_on zero inj fit k h = absurd (omega arith)
  stores_on (suc n) inj fit k h =
      ⊎_elim
      (λ q.
      rw q
      (get_or-set_same (turns (store_at at v) n s) (at n) (v n (get_or (turns (store_at at v) n s) (at n) 0)) 0 (rw (stores_length n) (fit n (omega arith)))
      ∙ ap (v n) (stores_off n (at n) (λ j l e. let z : n ≡ j = inj n j (omega arith) (omega arith) e in omega arith))))
      (λ l.
      get_or-set_other (turns (store_at at v) n s) (at n) (at k) (v n (get_or (turns (store_at at v) n s) (at n) 0)) 0 (λ e. let z : k ≡ n = inj k n h (omega arith) e in omega arith)
      ∙ stores_on n (λ i j a b. inj i j (omega arith) (omega arith)) (λ i a. fit i (omega arith)) k l)
      (eq-or-lt_of_le (le_of_suc-le-suc h))

-- what a pass F over one line does: it keeps the length, leaves other places alone, and makes `val` of the line's own places
pub record LineLaw (F : List ℕ → List ℕ) (at : ℕ → ℕ) (n : ℕ) (val : (ℕ → ℕ) → ℕ → ℕ) : Type 0 where
  pub keeps : (s : List ℕ) → length (F s) ≡ length s
  pub off : (s : List ℕ) (p : ℕ) → ((k : ℕ) → k < n → p ≡ at k → ⊥) → get_or (F s) p 0 ≡ get_or s p 0
  pub on : (s : List ℕ) → ((j k : ℕ) → j < n → k < n → at j ≡ at k → j ≡ k) → ((k : ℕ) → k < n → at k < length s) → (k : ℕ) → k < n → get_or (F s) (at k) 0 ≡ val (λ i. get_or s (at i) 0) k
  pub ext : (g h : ℕ → ℕ) → ((k : ℕ) → k < n → g k ≡ h k) → (k : ℕ) → k < n → val g k ≡ val h k

pub store_law : (at : ℕ → ℕ) (n : ℕ) (v : ℕ → ℕ → ℕ) → LineLaw (turns (store_at at v) n) at n (λ g k. v k (g k))
store_law at n v =
    record {
      keeps = λ s. stores_length at v s n;
      off = λ s p h. stores_off at v s n p h;
      on = λ s inj fit k h. stores_on at v s n inj fit k h;
      ext = λ g h e k l. ap (v k) (e k l);
    }

-- several lines, no two with a place in common
module _ (F : ℕ → List ℕ → List ℕ) (ix : ℕ → ℕ → ℕ) (n : ℕ) (val : ℕ → (ℕ → ℕ) → ℕ → ℕ) (law : (j : ℕ) → LineLaw (F j) (ix j) n (val j)) (s : List ℕ) where
  pub lines-length : (m : ℕ) → length (turns F m s) ≡ length s
  unfolding turns
  lines-length zero = refl
  lines-length (suc m) = (law m).keeps (turns F m s) ∙ lines-length m

  pub lines_off : (m p : ℕ) → ((j k : ℕ) → j < m → k < n → p ≡ ix j k → ⊥) → get_or (turns F m s) p 0 ≡ get_or s p 0
  unfolding turns
  lines_off zero p h = refl
  lines_off (suc m) p h =
      (law m).off (turns F m s) p (λ k l. h m k (omega arith) l) ∙ lines_off m p (λ j k a. h j k (omega arith))

  pub lines_on : (m : ℕ) → ((i j k l : ℕ) → i < m → j < n → k < m → l < n → ix i j ≡ ix k l → (i ≡ k) × (j ≡ l)) → ((j k : ℕ) → j < m → k < n → ix j k < length s) → (j k : ℕ) → j < m → k < n → get_or (turns F m s) (ix j k) 0 ≡ val j (λ i. get_or s (ix j i) 0) k
  unfolding turns
  lines_on zero inj fit j k a b = absurd (omega arith)
  lines_on (suc m) inj fit j k a b =
      ⊎_elim
      (λ q.
      rw q
      ((law m).on (turns F m s) (λ i l x y e. (inj m i m l (omega arith) x (omega arith) y e).1) (λ i x. rw (lines-length m) (fit m i (omega arith) x)) k b
      ∙ (law m).ext _ _ (λ i x. lines_off m (ix m i) (λ i' l y z e. let w = inj m i i' l (omega arith) x (omega arith) z e in omega (arith, w.0))) k b))
      (λ l.
      (law m).off (turns F m s) (ix j k) (λ i x e. let w = inj j k m i a b (omega arith) x e in omega (arith, w.0))
      ∙ lines_on m (λ i x y z p q r. inj i x y z (omega arith) q (omega arith)) (λ i x p. fit i x (omega arith)) j k l b)
      (eq-or-lt_of_le (le_of_suc-le-suc a))

  -- the same told of any place p, of which a test says whether it is on a line
  pub place_is : (m : ℕ)
      → ((i j k l : ℕ) → i < m → j < n → k < m → l < n → ix i j ≡ ix k l → (i ≡ k) × (j ≡ l))
      → ((j k : ℕ) → j < m → k < n → ix j k < length s)
      → (p j k : ℕ) (g : ℕ → ℕ) (here : Bool)
      → (here ≡ true → (j < m) × ((k < n) × ((p ≡ ix j k) × ((i : ℕ) → i < n → get_or s (ix j i) 0 ≡ g i))))
      → (here ≡ false → (i l : ℕ) → i < m → l < n → p ≡ ix i l → ⊥)
      → get_or (turns F m s) p 0 ≡ choose here (val j g k) (get_or s p 0)
  place_is m inj fit p j k g true on out =
      let w = on refl in
      rw w.1.1.0 (lines_on m inj fit j k w.0 w.1.0 ∙ (law j).ext _ g w.1.1.1 k w.1.0)
  place_is m inj fit p j k g false on out = lines_off m p (out refl)
