-- The clause rules as the code goes: the shape with every refusal, and then what is stated, with no further refusal.
use Rattle.std.specs.Prelude.{Ok}
use mathlib.Core.List.{List}
use mathlib.Core.Path.{◌≡◌, refl}
use Prim.Native.Nat.{ℕ, ◌<◌}
use lib.ListN.{length}
use Rattle.lists.specs.Answer.{◌>>=◌}
use Rattle.model.specs.declared.Cell.TheVariants.{MainDoubleCrossing, HorizontalDoubleCrossing}
use Rattle.cells.specs.Plane.{Plane}
use Rattle.cells.specs.Places.{place_of}
use Rattle.clauses.specs.Clauses.{found_of}
use Rattle.clauses.specs.Stated.{stated_by, clauses_of}
use Rattle.clauses.specs.Shape.{shape_of, sizes_of, checked_shape}
use Rattle.clauses.proofs.ReadingsApart.{after, same}
use Rattle.clauses.proofs.Apart.{found_as, found_apart}
use Rattle.clauses.proofs.OnlyTwoSizes.{only_two_sizes}

pub clauses_apart : (text : ℕ → List ℕ) (P : Plane) (rules : ℕ) → 0 < rules
    → clauses_of text P rules ≡ ◌>>=◌ (checked_shape P rules) (λ s. Ok (stated_by (found_as text P s) rules))
unfolding clauses_of checked_shape
clauses_apart text P rules r =
    let main = place_of MainDoubleCrossing P in
    let notes = place_of HorizontalDoubleCrossing P in
    after (found_of text P) (shape_of P main notes) (found_as text P) _ _ (λ s. stated_by (found_as text P s) rules) (found_apart text P main notes)
    (λ s e. rw (only_two_sizes text P main notes s e rules r) (same (sizes_of (length P) rules s) _ _ _ (λ _ _. refl)))
