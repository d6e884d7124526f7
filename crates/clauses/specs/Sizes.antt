-- The sizes of what the clause rules find: `validate_size` of the Rust, number 25.
use Rattle.std.specs.Prelude.{Bool, true, false, not, ◌&&◌, List, [], ◌∷◌, ℕ, eqb, ltb, length}
use Rattle.lists.specs.Answer.{◌>>◌}
use Rattle.lists.specs.Choose.{choose}
use Rattle.model.specs.Refusals.{Reading}
use Rattle.model.specs.declared.Refusal.TheVariants.{InvalidSize}
use Rattle.clauses.specs.cell_tests.Readings.{refuse}
use Rattle.clauses.specs.Clauses.{Found}

abbrev pub differ : ℕ → ℕ → Bool
differ a b = not (eqb a b)

-- a row has not n entries
unfoldable pub uneven : {A : Type 0} → ℕ → List (List A) → Bool
uneven n [] = false
uneven n (r ∷ s) = choose (eqb (length r) n) (uneven n s) true

-- the thirteen checks, in their order; `rules` is the count of rule numbers
unfoldable pub sized : ℕ → Found → Reading (Unit {0})
sized rules f = do
  refuse (differ (length f.expressions) f.inputs) (InvalidSize 1)
  refuse (ltb 0 (length f.input_values) && differ (length f.input_values) f.inputs) (InvalidSize 2)
  refuse (eqb f.outputs 0) (InvalidSize 3)
  refuse (ltb 1 f.outputs && differ (length f.components) f.outputs) (InvalidSize 4)
  refuse (not (ltb 1 f.outputs) && differ (length f.components) 0) (InvalidSize 5)
  refuse (ltb 0 (length f.output_values) && differ (length f.output_values) f.outputs) (InvalidSize 6)
  refuse (eqb rules 0) (InvalidSize 7)
  refuse (differ (length f.input_entries) rules) (InvalidSize 8)
  refuse (uneven f.inputs f.input_entries) (InvalidSize 9)
  refuse (differ (length f.output_entries) rules) (InvalidSize 10)
  refuse (uneven f.outputs f.output_entries) (InvalidSize 11)
  refuse (ltb 0 (length f.annotations) && differ (length f.annotation_entries) rules) (InvalidSize 12)
  refuse (ltb 0 (length f.annotations) && uneven (length f.annotations) f.annotation_entries) (InvalidSize 13)
