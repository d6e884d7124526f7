-- Hit policies: DMN, 8.2 (U A P F R O C, and C with an aggregator), and the number that a record holds for each.
use Rattle.std.specs.Prelude.{List, [], ◌∷◌, ℕ}
use Rattle.model.specs.declared.BuiltinAggregator.TheVariants as aggregator
use Rattle.model.specs.declared.HitPolicy.{HitPolicy}
use Rattle.model.specs.declared.HitPolicy.TheVariants.{Unique, Any, Priority, First, Collect, OutputOrder, RuleOrder}
use Rattle.model.specs.declared.Orientation.{Orientation}
use Rattle.model.specs.declared.Orientation.TheVariants.{RulesAsRows, RulesAsColumns}

-- the eleven policies, in the order of document 01: U A P F R O C C+ C# C< C>
abbrev pub policies : List HitPolicy
policies =
    Unique ∷ Any ∷ Priority ∷ First ∷ RuleOrder ∷ OutputOrder
    ∷ Collect aggregator.List ∷ Collect aggregator.Sum ∷ Collect aggregator.Count ∷ Collect aggregator.Min ∷ Collect aggregator.Max ∷ []

-- the number of a policy in a record: its place in `policies`
abbrev pub policy_number : HitPolicy → ℕ
policy_number Unique = 0
policy_number Any = 1
policy_number Priority = 2
policy_number First = 3
policy_number RuleOrder = 4
policy_number OutputOrder = 5
policy_number (Collect aggregator.List) = 6
policy_number (Collect aggregator.Sum) = 7
policy_number (Collect aggregator.Count) = 8
policy_number (Collect aggregator.Min) = 9
policy_number (Collect aggregator.Max) = 10

-- the number of an orientation in a record
abbrev pub orientation_number : Orientation → ℕ
orientation_number RulesAsRows = 0
orientation_number RulesAsColumns = 1
