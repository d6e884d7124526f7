-- A counting loop over a list has done k of its n turns.
use mathlib.Core.Path.{◌≡◌, refl, ap, ◌∙◌}
use mathlib.Core.List.{List}
use Prim.Native.Nat.{ℕ, ◌+◌, ◌≤◌, ◌<◌}
use native.Mathlib.Omega.{arith}
use lib.ListN.{length}
use Rattle.lists.specs.Turns.{turns}
use Rattle.lists.proofs.TurnsLaws.{turn_more}

pub record Turning (g : ℕ → List ℕ → List ℕ) (n : ℕ) (s₀ s : List ℕ) (k : ℕ) : Type 0 where
  pub along : k ≤ n
  pub long : length s ≡ length s₀
  pub done : s ≡ turns g k s₀

pub turning_start : (g : ℕ → List ℕ → List ℕ) (n : ℕ) (s : List ℕ) → Turning g n s s 0
unfolding turns
turning_start g n s = record { along = omega arith; long = refl; done = refl }

module _ {g : ℕ → List ℕ → List ℕ} {n : ℕ} {s₀ s : List ℕ} {k : ℕ} (c : Turning g n s₀ s k) where
  pub turning_more : (s' : List ℕ) → k < n → length s' ≡ length s → s' ≡ g k s → Turning g n s₀ s' (k + 1)
  turning_more s' h l e = record { along = omega arith; long = l ∙ c.long; done = e ∙ ap (g k) c.done ∙ turn_more g k s₀ }

  pub turning_end : n ≤ k → s ≡ turns g n s₀
  turning_end h =
      let q : k ≡ n = omega arith in
      c.done ∙ ap (λ (i : ℕ). turns g i s₀) q
