-- A test that holds at each of some places, as a loop comes to them.
use mathlib.Core.Path.{◌≡◌, sym, ap, ◌∙◌}
use mathlib.Core.Bool.{Bool, true, false, not}
use Prim.Native.Nat.{ℕ, ◌+◌, ◌≤◌, ◌<◌}
use native.Mathlib.Omega.{arith}
use borrow.Author.Tests.{not-true}
use Rattle.lists.specs.OneOf.{any_at}
use Rattle.lists.proofs.OneOfLaws.{any_none, any_more, any_found}
use Rattle.lists.proofs.Tests.{by_flag, true_false}
use Rattle.plane.specs.lent.LentPlane.{all_at}

module _ (f : ℕ → Bool) where
  abbrev fails : ℕ → Bool
  fails k = not (f k)

  pub all_start : all_at f 0 ≡ true
  all_start = ap not (any_none fails)

  pub all_more : (k : ℕ) → all_at f k ≡ true → f k ≡ true → all_at f (k + 1) ≡ true
  all_more k h e = ap not (any_more fails k (not-true (any_at fails k) h) (ap not e))

  pub all-out : (n k : ℕ) → k < n → f k ≡ false → false ≡ all_at f n
  all-out n k h e = sym (ap not (any_found fails n k h (ap not e)))

  pub all_end : (n k : ℕ) → all_at f k ≡ true → k ≤ n → n ≤ k → true ≡ all_at f n
  all_end n k h l m = let e : k ≡ n = omega arith in sym h ∙ ap (all_at f) e

  pub all-at : (n k : ℕ) → all_at f n ≡ true → k < n → f k ≡ true
  all-at n k h l = by_flag (f k) (λ e. e) (λ e. true_false h (sym (all-out n k l e)))
