-- The letters of hit policies: DMN, 8.2 (U A P F R O C, and C with an aggregator), and the policy that a text is.
use Rattle.std.specs.Prelude.{Bool, true, false, ◌&&◌, List, [], ◌∷◌, ℕ, eqb, Option, None, Some}
use Rattle.lists.specs.Choose.{choose}
use Rattle.model.specs.Policies.{policies}
use Rattle.model.specs.declared.BuiltinAggregator.TheVariants as aggregator
use Rattle.model.specs.declared.HitPolicy.{HitPolicy}
use Rattle.model.specs.declared.HitPolicy.TheVariants.{Unique, Any, Priority, First, Collect, OutputOrder, RuleOrder}

-- the letters that stand for a policy
abbrev pub letters : HitPolicy → List ℕ
letters Unique = 0x55 ∷ []
letters Any = 0x41 ∷ []
letters Priority = 0x50 ∷ []
letters First = 0x46 ∷ []
letters RuleOrder = 0x52 ∷ []
letters OutputOrder = 0x4F ∷ []
letters (Collect aggregator.List) = 0x43 ∷ []
letters (Collect aggregator.Sum) = 0x43 ∷ 0x2B ∷ []
letters (Collect aggregator.Count) = 0x43 ∷ 0x23 ∷ []
letters (Collect aggregator.Min) = 0x43 ∷ 0x3C ∷ []
letters (Collect aggregator.Max) = 0x43 ∷ 0x3E ∷ []

-- two texts are the same
unfoldable pub same_text : List ℕ → List ℕ → Bool
same_text [] [] = true
same_text [] (b ∷ t) = false
same_text (a ∷ s) [] = false
same_text (a ∷ s) (b ∷ t) = eqb a b && same_text s t

-- the first of some policies whose letters are the text
unfoldable pub by_letters : List HitPolicy → List ℕ → Option HitPolicy
by_letters [] s = None
by_letters (h ∷ hs) s = choose (same_text s (letters h)) (Some h) (by_letters hs s)

-- the policy that a trimmed text is
abbrev pub policy_of : List ℕ → Option HitPolicy
policy_of s = by_letters policies s
