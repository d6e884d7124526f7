-- A list that is built element by element, and a number of it that does not fall.
use mathlib.Core.Path.{◌≡◌, ◌∙◌}
use mathlib.Core.List.{List, [], ◌∷◌, ◌++◌}
use Prim.Native.Nat.{ℕ, zero, suc, ◌+◌, ◌-◌, ◌≤◌}
use native.Mathlib.Omega.{arith}
use Rattle.lists.specs.Run.{build}
use Rattle.lists.proofs.RunLaws.{run-next}

module _ {A : Type 0} (f : ℕ → A) where
  pub build-next : (n : ℕ) → build (suc n) f ≡ build n f ++ (f n ∷ [])
  build-next n = let z : 0 + n ≡ n = omega arith in run-next f 0 n ∙ rw z

  module _ (g : List A → ℕ) (h : (l : List A) (a : A) → g l ≤ g (l ++ (a ∷ []))) where
    grows_by : (n k : ℕ) → g (build n f) ≤ g (build (k + n) f)
    grows_by n zero = let z : 0 + n ≡ n = omega arith in rw z (omega arith)
    grows_by n (suc k) = let z : suc k + n ≡ suc (k + n) = omega arith in rw (z, build-next (k + n)) (omega (arith, grows_by n k, h (build (k + n) f) (f (k + n))))

    pub grows : (n m : ℕ) → n ≤ m → g (build n f) ≤ g (build m f)
    grows n m l = let z : m - n + n ≡ m = omega arith in rw z at (grows_by n (m - n))
