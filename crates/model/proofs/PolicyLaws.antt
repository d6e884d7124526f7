-- Laws of hit policies: the number of a policy tells it.
use mathlib.Core.Path.{◌≡◌, refl}
use lib.ListN.{get_or}
use Rattle.model.specs.Policies.{policies, policy_number}
use Rattle.model.specs.declared.BuiltinAggregator.TheVariants as aggregator
use Rattle.model.specs.declared.HitPolicy.{HitPolicy}
use Rattle.model.specs.declared.HitPolicy.TheVariants.{Unique, Any, Priority, First, Collect, OutputOrder, RuleOrder}

-- a policy's number is its place in the order of document 01
pub number_is_place : (h : HitPolicy) → get_or policies (policy_number h) Unique ≡ h
number_is_place Unique = refl
number_is_place Any = refl
number_is_place Priority = refl
number_is_place First = refl
number_is_place RuleOrder = refl
number_is_place OutputOrder = refl
number_is_place (Collect aggregator.List) = refl
number_is_place (Collect aggregator.Sum) = refl
number_is_place (Collect aggregator.Count) = refl
number_is_place (Collect aggregator.Min) = refl
number_is_place (Collect aggregator.Max) = refl
