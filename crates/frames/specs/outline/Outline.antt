-- The outline of a table on TEXT: document 01, "Canvas", and the Rust's `recognize_information_item_name` and `recognize_crossings`.
use Rattle.std.specs.Prelude.{Bool, true, false, [], ◌∷◌, ℕ, zero, suc, ◌+◌, ◌*◌, ◌/◌, ◌%◌, eqb, ltb, Ok, Err, Option, Some, None}
use Rattle.lists.specs.Answer.{◌>>=◌, ◌>>◌}
use Rattle.lists.specs.Choose.{choose}
use Rattle.lists.specs.Picture.{Picture, at}
use Rattle.model.specs.Box.{┌, ═, ║, ╥, ╪, ╫, ╬}
use Rattle.model.specs.Refusals.{Reading}
use Rattle.model.specs.declared.Refusal.TheVariants.{CharactersNotFound}
use Rattle.walks.specs.Frame.{FrameFinder, frame_of}
use Rattle.walks.specs.Kinds.{name}
use Rattle.walks.specs.Walk.{go_of}
use Rattle.walks.specs.declared.Direction.TheVariants.{Right, Down}
use Rattle.frames.specs.Body.{body_of}
use Rattle.frames.specs.declared.outline.Outline.{Outline}

-- the first of n places from i on at which a character stands (3)
unfoldable pub search_from : (ℕ → ℕ) → ℕ → ℕ → ℕ → Reading ℕ
search_from f c i zero = Err (CharactersNotFound c)
search_from f c i (suc n) = choose (eqb (f i) c) (Ok i) (search_from f c (suc i) n)

-- the first place in row order at which a character stands
abbrev pub search_of : ℕ → Picture → ℕ → ℕ → Reading ℕ
search_of c p w h = search_from (at p w) c 0 (h * w)

-- a name stands above the table where the first ╥ lies below row 0: its box starts in the top left corner
unfoldable pub named_by : FrameFinder → Picture → ℕ → ℕ → ℕ → Reading Bool
named_by find p w h row = choose (ltb 0 row) (◌>>◌ (find name p w h 0 0) (Ok true)) (Ok false)

abbrev pub named_of : Picture → ℕ → ℕ → ℕ → Reading Bool
named_of = named_by frame_of

-- the crossing that a walk finds, `from` being where it began
abbrev pub crossing_by : ℕ → Reading ℕ → Option ℕ
crossing_by from (Ok k) = Some (from + k)
crossing_by from (Err r) = None

-- the annotation crossing on the main crossing's right, over ═ and ╪, and that below it, over ║ and ╫
abbrev pub right_of : Picture → ℕ → ℕ → ℕ → ℕ → Option ℕ
right_of p w h x y = crossing_by x (go_of Right p w h x y (╬ ∷ []) (═ ∷ ╪ ∷ []))

abbrev pub below_of : Picture → ℕ → ℕ → ℕ → ℕ → Option ℕ
below_of p w h x y = crossing_by y (go_of Down p w h x y (╬ ∷ []) (║ ∷ ╫ ∷ []))

-- the table whose main crossing stands at a place
unfoldable pub table_of : Picture → ℕ → ℕ → Bool → ℕ → Reading Outline
table_of p w h named cross = do
  body ← body_of p w h (cross % w) (cross / w)
  Ok (record {
    named = named;
    x = cross % w;
    y = cross / w;
    right = right_of p w h (cross % w) (cross / w);
    below = below_of p w h (cross % w) (cross / w);
    body = body;
  })

-- the outline; rows begin with ┌ in row 0, so ┌ is missing where there are none
unfoldable pub outline_by : FrameFinder → Picture → ℕ → ℕ → Reading Outline
outline_by find p w h = do
  corner ← search_of ┌ p w h
  edge ← search_of ╥ p w h
  named ← named_by find p w h (edge / w)
  cross ← search_of ╬ p w h
  table_of p w h named cross

-- the outline by walks
abbrev pub outline_of : Picture → ℕ → ℕ → Reading Outline
outline_of = outline_by frame_of
