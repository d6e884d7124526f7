-- Rectangles, as in `Rect` of the Rust: right and bottom are exclusive.
use Rattle.std.specs.Prelude.{Bool, ◌&&◌, leb}
use Rattle.model.specs.declared.Rect.{Rect}

-- the rect f lies in the rect r
abbrev pub contains_of : Rect → Rect → Bool
contains_of r f = (leb r.left f.left && leb r.top f.top) && (leb f.right r.right && leb f.bottom r.bottom)
