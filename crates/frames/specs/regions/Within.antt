-- How the inner functions of the crate add regions: as many as there may be.
use Rattle.std.specs.Prelude.{List, ℕ, ltb, length, Err}
use Rattle.lists.specs.Choose.{choose}
use Rattle.model.specs.Limits.{region_count}
use Rattle.model.specs.Refusals.{Reading}
use Rattle.model.specs.declared.Rect.{Rect}
use Rattle.model.specs.declared.Refusal.TheVariants.{OverLimit}
use Rattle.frames.specs.regions.Regions.{Finder, add_region}

-- one region more, if there may be one (7)
abbrev pub add_within : Finder → ℕ → ℕ → List Rect → Reading (List Rect)
add_within find w i rs = choose (ltb (length rs) region_count) (add_region find w i rs) (Err OverLimit)
