-- The policy that a lent plane states: document 01, "The policy that a drawing states".
use Rattle.std.specs.Prelude.{List, [], ℕ, get_or, None}
use Rattle.lists.specs.Answer.{◌>>=◌}
use Rattle.model.specs.Refusals.{Reading}
use Rattle.cells.specs.Plane.{TextPlane}
use Rattle.record.specs.Policy.{Policy}
use Rattle.plane.specs.lent.LentPlane.{LentPlane, lent_of}
use Rattle.recognizer.specs.StatedPolicy.{stated_policy}

-- the text of a region
abbrev pub text_in : TextPlane → ℕ → List ℕ
text_in t k = get_or t.texts k []

-- a lent plane has no name
unfoldable pub lent_policy : LentPlane → Reading Policy
lent_policy l = do
  t ← lent_of l
  stated_policy None (text_in t) t.plane
