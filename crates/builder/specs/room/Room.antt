-- Whether the work slices of a call have their lengths: document 01, "Refused sheets", 28.
use Rattle.std.specs.Prelude.{List, [], ◌∷◌, map, ◌≡◌, ℕ, suc, ltb, length, Ok, Err}
use Rattle.lists.specs.Choose.{choose}
use Rattle.model.specs.Refusals.{Reading}
use Rattle.model.specs.declared.Refusal.TheVariants.{WorkSliceShort}

-- 28: the lowest work slice, counted from i, that has fewer elements than its constant
unfoldable pub room_from : ℕ → List ℕ → List ℕ → Reading (Unit {0})
room_from i [] ks = Ok tt
room_from i (n ∷ ns) [] = Ok tt
room_from i (n ∷ ns) (k ∷ ks) = choose (ltb n k) (Err (WorkSliceShort i k)) (room_from (suc i) ns ks)

-- each work slice has at least its constant
abbrev pub Roomy : List (List ℕ) → List ℕ → Type 0
Roomy works sizes = room_from 0 (map length works) sizes ≡ Ok tt
