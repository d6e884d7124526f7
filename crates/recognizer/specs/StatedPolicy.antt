-- The policy that a plane states: document 01, "The policy that a drawing states".
use Rattle.std.specs.Prelude.{List, ℕ, Ok}
use Rattle.lists.specs.Answer.{◌>>=◌}
use Rattle.model.specs.Refusals.{Reading}
use Rattle.cells.specs.Plane.{Plane}
use Rattle.record.specs.Policy.{Text, Policy}
use Rattle.plane.specs.Sheet.{Sheet, stated_sheet}
use Rattle.clauses.specs.Stated.{clauses_of}

-- a name that may be absent; the texts of the regions, trimmed
module _ (name : Text) (text : ℕ → List ℕ) where
  -- of an upright sheet, by the clause rules
  unfoldable pub sheet_policy : Sheet → Reading Policy
  sheet_policy s = do
    c ← clauses_of text s.plane s.rules
    Ok (record {
      name = name;
      hit = s.policy;
      orientation = s.orientation;
      label = c.label;
      inputs = c.inputs;
      outputs = c.outputs;
      annotations = c.annotations;
      rules = c.rules;
    })

  -- of a plane
  unfoldable pub stated_policy : Plane → Reading Policy
  stated_policy P = do
    s ← stated_sheet text P
    sheet_policy s
