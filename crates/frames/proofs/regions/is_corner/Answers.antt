-- `frames::regions::is_corner` meets its contract.
use mathlib.Core.Path.{◌≡◌, refl, ◌∙◌}
use mathlib.Core.Bool.{true}
use Prim.Native.Nat.{ℕ, ◌/◌, ◌%◌, ◌<◌, ◌^◌}
use native.Mathlib.Omega.{arith}
use lib.Bits.{bit_and, and_shr, and_mod, and_mask}
use lib.Dec.{eqb}
use borrow.Author.Tests.{eqb-true, eqb-false, eq-eqb, ne_eqb}
use Rattle.lists.specs.OneOf.{one_of}
use Rattle.lists.proofs.Tests.{by_flag}
use Rattle.model.specs.Box.{┌, ├, ┬, ┼}
use Rattle.frames.specs.regions.Regions.{is_corner}
use Rattle.frames.proofs.regions.is_corner.Goals as goal

-- the mask leaves out bits 4 and 5, in which alone the corners differ
module _ (c : ℕ) (h : c < 2 ^ 32) where
  high : bit_and c 0xFFFFFFCF / 64 ≡ c / 64
  high = let z = and_shr c 0xFFFFFFCF 6 ∙ and_mask (c / 64) 26 in omega (arith, z)

  low : bit_and c 0xFFFFFFCF % 64 ≡ c % 64 % 16
  low = and_mod c 0xFFFFFFCF 6 ∙ and_mask (c % 64) 4

  hit : (k : ℕ) → k / 64 ≡ ┌ / 64 → k % 64 % 16 ≡ ┌ % 64 % 16 → eqb c k ≡ true → eqb (bit_and c 0xFFFFFFCF) ┌ ≡ true
  hit k p q e = let z = eqb-true c k e in eq-eqb (bit_and c 0xFFFFFFCF) ┌ (omega (arith, high, low, z))

  masked : eqb (bit_and c 0xFFFFFFCF) ┌ ≡ is_corner c
  unfolding one_of
  masked =
      by_flag (eqb c ┌) (λ e. rw e (hit ┌ refl refl e))
      (λ n1. by_flag (eqb c ├) (λ e. rw (n1, e) (hit ├ refl refl e))
      (λ n2. by_flag (eqb c ┬) (λ e. rw (n1, n2, e) (hit ┬ refl refl e))
      (λ n3. by_flag (eqb c ┼) (λ e. rw (n1, n2, n3, e) (hit ┼ refl refl e))
      (λ n4. rw (n1, n2, n3, n4)
      (ne_eqb (bit_and c 0xFFFFFFCF) ┌ (λ q. omega (arith, high, low, q, eqb-false c ┌ n1, eqb-false c ├ n2, eqb-false c ┬ n3, eqb-false c ┼ n4)))))))

pub returns : goal.returns
returns c = masked c.args.code (omega (arith, c.well_formed))
