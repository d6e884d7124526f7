-- The outline of a small table, by computation.
use Rattle.std.specs.Prelude.{Ok, None}
use mathlib.Core.Path.{◌≡◌, refl}
use mathlib.Core.Bool.{false}
use mathlib.Core.List.{List, [], ◌∷◌}
use Prim.Native.Nat.{ℕ}
use Rattle.lists.specs.OneOf.{one_of}
use Rattle.lists.specs.Picture.{canvas, within}
use Rattle.model.specs.Box.{┌, ┐, └, ┘, ─, ═, ╞, ╡, ╥, ╨, ╬}
use Rattle.walks.specs.Walk.{walk_from}
use Rattle.frames.specs.Body.{body_of}
use Rattle.frames.specs.outline.Outline.{search_from, named_by, table_of, outline_by, outline_of}

-- ┌─╥┐
-- ╞═╬╡
-- └─╨┘
abbrev drawing : List ℕ
drawing = ┌ ∷ ─ ∷ ╥ ∷ ┐ ∷ ╞ ∷ ═ ∷ ╬ ∷ ╡ ∷ └ ∷ ─ ∷ ╨ ∷ ┘ ∷ []

whole : outline_of (canvas 4 3 drawing) 4 3
    ≡ Ok (record { named = false; x = 2; y = 1; right = None; below = None; body = record { left = 0; top = 0; right = 4; bottom = 3 } })
unfolding outline_by search_from named_by body_of table_of walk_from one_of within
whole = refl
