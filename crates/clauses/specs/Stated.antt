-- What an upright sheet states: document 01, "The policy that a drawing states", and `from_recognizer` of the Rust.
use Rattle.std.specs.Prelude.{List, [], ◌∷◌, ◌++◌, map, ℕ, ltb, length, get_or, None, Some, Ok}
use Rattle.lists.specs.Answer.{◌>>=◌, ◌>>◌}
use Rattle.lists.specs.Choose.{choose}
use Rattle.lists.specs.Run.{build}
use Rattle.model.specs.Refusals.{Reading}
use Rattle.cells.specs.Plane.{Plane}
use Rattle.record.specs.Policy.{Text, Input, input, Output, output, Rule, rule}
use Rattle.record.specs.Record.{input_texts, output_texts, rule_texts}
use Rattle.values.specs.Values.{values_of}
use Rattle.clauses.specs.Clauses.{Found, found_of}
use Rattle.clauses.specs.Sizes.{sized}

-- by the value split: the allowed values and the default of an output's values, where it has any
abbrev pub allowed_text : Text → Text
allowed_text None = None
allowed_text (Some t) = Some (values_of t).allowed

abbrev pub default_text : Text → Text
default_text None = None
default_text (Some t) = (values_of t).default

-- what the clause rules give of a policy
pub record Clauses : Type 0 where
  pub label : Text
  pub inputs : List Input
  pub outputs : List Output
  pub annotations : List Text
  pub rules : List Rule

-- from what is found, with so many rules
module _ (f : Found) where
  abbrev pub input_of : ℕ → Input
  input_of i = input (Some (get_or f.expressions i [])) (get_or f.input_values i None)

  -- one output has the label for its name
  abbrev pub output_of : ℕ → Output
  output_of j =
      output (choose (ltb 0 (length f.components)) (get_or f.components j None) f.label)
      (allowed_text (get_or f.output_values j None)) (default_text (get_or f.output_values j None))

  abbrev pub rule_of : ℕ → Rule
  rule_of r =
      rule (map Some (get_or f.input_entries r [])) (map Some (get_or f.output_entries r []))
      (choose (ltb 0 (length f.annotations)) (map Some (get_or f.annotation_entries r [])) [])

  unfoldable pub stated_by : ℕ → Clauses
  stated_by rules =
      record {
        label = f.label;
        inputs = build f.inputs input_of;
        outputs = build f.outputs output_of;
        annotations = map Some f.annotations;
        rules = build rules rule_of;
      }

-- the texts of the regions, trimmed; an upright sheet; the count of its rule numbers
unfoldable pub clauses_of : (ℕ → List ℕ) → Plane → ℕ → Reading Clauses
clauses_of text P rules = do
  f ← found_of text P
  sized rules f
  Ok (stated_by f rules)

-- their texts in slot order: all of a record's but the name
unfoldable pub clause_texts : Clauses → List Text
clause_texts c = c.label ∷ (input_texts c.inputs ++ (output_texts c.outputs ++ (c.annotations ++ rule_texts c.rules)))
