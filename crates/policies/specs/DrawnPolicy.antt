-- The policy that a drawing states: document 01, "The policy that a drawing states".
use Rattle.std.specs.Prelude.{Bool, true, false, List, ℕ, length, None, Some, Ok}
use Rattle.lists.specs.Answer.{◌>>=◌}
use Rattle.model.specs.Refusals.{Reading}
use Rattle.cells.specs.Plane.{TextPlane}
use Rattle.record.specs.Policy.{Text, Policy}
use Rattle.frames.specs.declared.outline.Outline.{Outline}
use Rattle.scan.specs.sheet_rows.Rows.{rows_at, widest}
use Rattle.text_planes.specs.texts.RegionText.{text_of}
use Rattle.walks.specs.Frame.{FrameFinder, frame_of}
use Rattle.walks.specs.Kinds as kind
use Rattle.walks.specs.Sides.{by_sides}
use Rattle.text_planes.specs.DrawnPlane.{text_plane_by}
use Rattle.canvas.specs.Layers.{text_layer, thin_layer, grid_layer, sheet_by}
use Rattle.recognizer.specs.StatedPolicy.{stated_policy}
use Rattle.policies.specs.LentPolicy.{text_in}

-- over a way to find frames
module _ (find : FrameFinder) where
  -- the plane of the rows of a sheet
  abbrev pub drawn_plane_by : List (List ℕ) → Outline → Reading TextPlane
  drawn_plane_by rs o = text_plane_by find o (text_layer rs) (thin_layer rs) (grid_layer rs o.body) (widest rs) (length rs)

  -- the name is the text of the name's frame
  abbrev pub name_by : List (List ℕ) → Bool → Reading Text
  name_by rs true = do
    f ← find kind.name (text_layer rs) (widest rs) (length rs) 0 0
    Ok (Some (text_of (text_layer rs) f))
  name_by rs false = Ok None

  unfoldable pub policy_by : List ℕ → Reading Policy
  policy_by s = do
    o ← sheet_by find s
    t ← drawn_plane_by (rows_at s 0) o
    name ← name_by (rows_at s 0) o.named
    stated_policy name (text_in t) t.plane

-- by walks, which tell why a frame is refused
abbrev pub walked_policy : List ℕ → Reading Policy
walked_policy = policy_by frame_of

-- the policy that a drawing states: frames by the characters on their sides
abbrev pub drawn_policy : List ℕ → Reading Policy
drawn_policy = policy_by by_sides
