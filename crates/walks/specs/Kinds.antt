-- The three kinds of frames: document 01, "Regions and plane", and `recognize_information_item_name` of the Rust. The characters stand in
-- the Rust's order: the first of a corner is the one that a refusal 3 tells.
use Rattle.std.specs.Prelude.{[], ◌∷◌}
use Rattle.model.specs.Box.{─, │, ┌, ┐, └, ┘, ├, ┤, ┬, ┴, ┼, ╥}
use Rattle.walks.specs.Frame.{Kind}

-- THIN: a region
abbrev pub thin : Kind
thin =
    record {
      top_right = ┐ ∷ ┤ ∷ ┬ ∷ ┼ ∷ [];
      top = ─ ∷ ┴ ∷ [];
      bottom_right = ┘ ∷ ┤ ∷ ┴ ∷ ┼ ∷ [];
      right = │ ∷ ├ ∷ [];
      bottom_left = └ ∷ ├ ∷ ┴ ∷ ┼ ∷ [];
      bottom = ─ ∷ ┬ ∷ [];
      top_left = ┌ ∷ ├ ∷ ┬ ∷ ┼ ∷ [];
      left = │ ∷ ┤ ∷ [];
    }

-- GRID: a cell of the plane
abbrev pub grid : Kind
grid =
    record {
      top_right = ┼ ∷ ┬ ∷ ┤ ∷ ┐ ∷ [];
      top = ─ ∷ [];
      bottom_right = ┼ ∷ ┴ ∷ ┤ ∷ ┘ ∷ [];
      right = │ ∷ [];
      bottom_left = ┼ ∷ └ ∷ ├ ∷ ┴ ∷ [];
      bottom = ─ ∷ [];
      top_left = ┼ ∷ ┬ ∷ ├ ∷ ┌ ∷ [];
      left = │ ∷ [];
    }

-- TEXT: the name's box, whose bottom side has the table's own top side in it
abbrev pub name : Kind
name =
    record {
      top_right = ┐ ∷ [];
      top = ─ ∷ [];
      bottom_right = ┴ ∷ ┤ ∷ ┼ ∷ [];
      right = │ ∷ [];
      bottom_left = ├ ∷ [];
      bottom = ─ ∷ ┬ ∷ ╥ ∷ [];
      top_left = ┌ ∷ [];
      left = │ ∷ [];
    }
