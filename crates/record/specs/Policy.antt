-- The policy that a sheet states, by its parts: document 01, "The policy that a drawing states".
use Rattle.std.specs.Prelude.{List, [], ◌∷◌, ◌≡◌, ℕ, length, Option}
use Rattle.model.specs.declared.HitPolicy.{HitPolicy}
use Rattle.model.specs.declared.Orientation.{Orientation}

-- a text that may be absent; an absent text is not an empty one
abbrev pub Text : Type 0
Text = Option (List ℕ)

pub data Input : Type 0 where
  input : (expression allowed : Text) → Input

pub data Output : Type 0 where
  output : (component allowed default : Text) → Output

-- a rule's input, output and annotation entries
pub data Rule : Type 0 where
  rule : (ins outs anns : List Text) → Rule

pub record Policy : Type 0 where
  pub name : Text
  pub hit : HitPolicy
  pub orientation : Orientation
  pub label : Text
  pub inputs : List Input
  pub outputs : List Output
  pub annotations : List Text
  pub rules : List Rule

-- each rule has an entry for each of n inputs, m outputs and k annotations
unfoldable pub Entries : ℕ → ℕ → ℕ → List Rule → Type 0
Entries n m k [] = Unit {0}
Entries n m k (rule i o a ∷ rs) = (length i ≡ n) × (length o ≡ m) × (length a ≡ k) × Entries n m k rs

-- a policy whose rules have an entry for each clause
abbrev pub Complete : Policy → Type 0
Complete p = Entries (length p.inputs) (length p.outputs) (length p.annotations) p.rules

-- two policies are the same: all but the orientation
pub record Same (p q : Policy) : Type 0 where
  pub name : p.name ≡ q.name
  pub hit : p.hit ≡ q.hit
  pub label : p.label ≡ q.label
  pub inputs : p.inputs ≡ q.inputs
  pub outputs : p.outputs ≡ q.outputs
  pub annotations : p.annotations ≡ q.annotations
  pub rules : p.rules ≡ q.rules
