-- The values of a text, allowed values and default, and what is measured of them: the value split of document 01,
-- `get_allowed_and_default_output_values` of the Rust.
use Rattle.std.specs.Prelude.{List, ◌≡◌, ℕ, ◌-◌, ◌≤◌, length, take, drop, Option, None, Some}
use Rattle.values.specs.emphasis.Emphasis.{Choice, plain, marked, choice_of}
use Rattle.values.specs.rewriting.Replaced.{replace_all}
use Rattle.values.specs.declared.Rewritten.{Rewritten}

-- allowed values, and a default that may be absent
pub record Values : Type 0 where
  pub allowed : List ℕ
  pub default : Option (List ℕ)

abbrev pub values_by : Choice → List ℕ → Values
values_by plain t = record { allowed = t; default = None }
values_by (marked place part bare) t = record { allowed = replace_all 0 part bare t; default = Some bare }

-- the values of a text in UTF-8: the text itself and no default, or the text with the part in emphasis bare everywhere, and the bare part
unfoldable pub values_of : List ℕ → Values
values_of t = values_by (choice_of t) t

-- what is measured of the values of a text: they are the text itself; or n bytes of allowed values, and a part of the text is the default
abbrev pub MeasuredOf : Option Rewritten → List ℕ → Type 0
MeasuredOf None t = values_of t ≡ record { allowed = t; default = None }
MeasuredOf (Some m) t =
    (m.bytes ≡ length (values_of t).allowed) × ((values_of t).default ≡ Some (take (m.to - m.from) (drop m.from t))) × (m.from ≤ m.to) × (m.to ≤ length t)
