-- Laws of lists by their places.
use mathlib.Core.Path.{◌≡◌, refl, sym, ap, ◌∙◌}
use mathlib.Core.List.{List, [], ◌∷◌, ◌++◌, map}
use Prim.Native.Nat.{ℕ, zero, suc, ◌+◌, ◌-◌, ◌≤◌, ◌<◌}
use native.Mathlib.Numerals.{add-one}
use native.Mathlib.Omega.{arith}
use lib.ListN.{length, get_or, take, drop, drop_of_length-le}
use Rattle.lists.specs.Run.{run, build}
use Rattle.lists.proofs.Parts.{at_cons}

module _ {A : Type 0} where
  pub length_run : (f : ℕ → A) (k n : ℕ) → length (run f k n) ≡ n
  unfolding run
  length_run f k zero = refl
  length_run f k (suc n) = ap suc (length_run f (suc k) n)

  -- two runs, one behind the other
  pub run_then : (f : ℕ → A) (k m n : ℕ) → run f k (m + n) ≡ run f k m ++ run f (k + m) n
  unfolding run
  run_then f k zero n = let e : 0 + n ≡ n = omega arith in let z : k + 0 ≡ k = omega arith in rw (e, z)
  run_then f k (suc m) n =
      let e : suc m + n ≡ suc (m + n) = omega arith in
      let z : k + suc m ≡ suc k + m = omega arith in
      rw (e, z) (ap (λ (l : List A). f k ∷ l) (run_then f (suc k) m n))

  -- one more at the end
  pub run-next : (f : ℕ → A) (k n : ℕ) → run f k (suc n) ≡ run f k n ++ (f (k + n) ∷ [])
  unfolding run
  run-next f k n = ap (run f k) (sym (add-one n)) ∙ run_then f k n 1

  pub run-same : (f g : ℕ → A) (k n : ℕ) → ((i : ℕ) → k ≤ i → i < k + n → f i ≡ g i) → run f k n ≡ run g k n
  unfolding run
  run-same f g k zero h = refl
  run-same f g k (suc n) h =
      let a : f k ≡ g k = h k (omega arith) (omega arith) in
      let b : run f (suc k) n ≡ run g (suc k) n = run-same f g (suc k) n (λ i p q. h i (omega arith) (omega arith)) in
      cc

  -- the same list from another place on
  pub run_shift : (f : ℕ → A) (k n : ℕ) → run f (suc k) n ≡ run (λ i. f (suc i)) k n
  unfolding run
  run_shift f k zero = refl
  run_shift f k (suc n) = ap (λ (l : List A). f (suc k) ∷ l) (run_shift f (suc k) n)

  pub run-from : (f : ℕ → A) (k n : ℕ) → run f k n ≡ build n (λ i. f (k + i))
  unfolding run
  run-from f zero n = run-same f (λ i. f (0 + i)) 0 n (λ i p q. let e : i ≡ 0 + i = omega arith in ap f e)
  run-from f (suc k) n =
      run_shift f k n ∙ run-from (λ i. f (suc i)) k n
      ∙ run-same (λ i. f (suc (k + i))) (λ i. f (suc k + i)) 0 n (λ i p q. let e : suc (k + i) ≡ suc k + i = omega arith in ap f e)

  take-run : (f : ℕ → A) (k m n : ℕ) → n ≤ m → take n (run f k m) ≡ run f k n
  unfolding run
  take-run f k m zero h = refl
  take-run f k zero (suc n) h = absurd (omega arith)
  take-run f k (suc m) (suc n) h = ap (λ (l : List A). f k ∷ l) (take-run f (suc k) m n (omega arith))

  drop-run : (f : ℕ → A) (k m n : ℕ) → n ≤ m → drop n (run f k m) ≡ run f (k + n) (m - n)
  unfolding run
  drop-run f k m zero h = let e : k + 0 ≡ k = omega arith in let z : m - 0 ≡ m = omega arith in rw (e, z)
  drop-run f k zero (suc n) h = absurd (omega arith)
  drop-run f k (suc m) (suc n) h =
      let e : suc k + n ≡ k + suc n = omega arith in
      let z : m - n ≡ suc m - suc n = omega arith in
      drop-run f (suc k) m n (omega arith) ∙ rw (e, z)

  -- a part of a built list
  pub part_build : (m : ℕ) (f : ℕ → A) (from n : ℕ) → from + n ≤ m → take n (drop from (build m f)) ≡ build n (λ i. f (from + i))
  part_build m f from n h =
      let e : 0 + from ≡ from = omega arith in
      ap (take n) (drop-run f 0 m from (omega arith) ∙ ap (λ (k : ℕ). run f k (m - from)) e) ∙ take-run f from (m - from) n (omega arith)
      ∙ run-from f from n

  pub get_or-run : (f : ℕ → A) (k n j : ℕ) (d : A) → j < n → get_or (run f k n) j d ≡ f (k + j)
  unfolding run
  get_or-run f k zero j d h = absurd (omega arith)
  get_or-run f k (suc n) zero d h = let e : k ≡ k + 0 = omega arith in ap f e
  get_or-run f k (suc n) (suc j) d h = let e : suc k + j ≡ k + suc j = omega arith in get_or-run f (suc k) n j d (omega arith) ∙ ap f e

  pub get_or_run_out : (f : ℕ → A) (k n j : ℕ) (d : A) → n ≤ j → get_or (run f k n) j d ≡ d
  unfolding run
  get_or_run_out f k zero j d h = refl
  get_or_run_out f k (suc n) zero d h = absurd (omega arith)
  get_or_run_out f k (suc n) (suc j) d h = get_or_run_out f (suc k) n j d (omega arith)

  pub build-same : (n : ℕ) (f g : ℕ → A) → ((i : ℕ) → i < n → f i ≡ g i) → build n f ≡ build n g
  build-same n f g h = run-same f g 0 n (λ i p q. h i (omega arith))

  pub get_or-build : (n : ℕ) (f : ℕ → A) (j : ℕ) (d : A) → j < n → get_or (build n f) j d ≡ f j
  get_or-build n f j d h = let e : 0 + j ≡ j = omega arith in get_or-run f 0 n j d h ∙ ap f e

  pub build-next : (n : ℕ) (f : ℕ → A) → build (n + 1) f ≡ build n f ++ (f n ∷ [])
  build-next n f = let e : 0 + n ≡ n = omega arith in rw (add-one n) (run-next f 0 n ∙ ap (λ (k : ℕ). build n f ++ (f k ∷ [])) e)

  -- a built list from a place on
  pub drop-build : (n : ℕ) (f : ℕ → A) (k : ℕ) → k < n → drop k (build n f) ≡ f k ∷ drop (k + 1) (build n f)
  drop-build n f k h =
      let e = length_run f 0 n in
      at_cons (build n f) k (f k) (omega arith) ∙ rw (get_or-build n f k (f k) h)

  pub drop_build_end : (n : ℕ) (f : ℕ → A) (k : ℕ) → n ≤ k → drop k (build n f) ≡ []
  drop_build_end n f k h = let e = length_run f 0 n in let g : length (build n f) ≤ k = omega arith in drop_of_length-le (build n f) g

  -- a list is built from its elements
  pub build-get_or : (l : List A) (d : A) → build (length l) (λ i. get_or l i d) ≡ l
  unfolding run
  build-get_or [] d = refl
  build-get_or (x ∷ l) d = ap (λ (s : List A). x ∷ s) (run_shift (λ i. get_or (x ∷ l) i d) 0 (length l) ∙ build-get_or l d)

pub map-run : {A B : Type 0} (g : A → B) (f : ℕ → A) (k n : ℕ) → map g (run f k n) ≡ run (λ i. g (f i)) k n
unfolding run
map-run g f k zero = refl
map-run g f k (suc n) = ap (λ s. g (f k) ∷ s) (map-run g f (suc k) n)

pub get_d_map : {A B : Type 0} (g : A → B) (l : List A) (i : ℕ) (d : A) (e : B) → i < length l → get_or (map g l) i e ≡ g (get_or l i d)
get_d_map g [] i d e h = absurd (omega arith)
get_d_map g (x ∷ l) zero d e h = refl
get_d_map g (x ∷ l) (suc i) d e h = get_d_map g l i d e (omega arith)
