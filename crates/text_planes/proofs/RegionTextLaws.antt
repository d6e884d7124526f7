-- The steps of reading regions with their texts.
use Rattle.std.specs.Prelude.{Ok, Err}
use mathlib.Core.Path.{◌≡◌}
use mathlib.Core.List.{List}
use Prim.Native.Nat.{ℕ}
use Rattle.lists.specs.Picture.{Picture}
use Rattle.model.specs.declared.Rect.{Rect}
use Rattle.model.specs.declared.Refusal.{Refusal}
use Rattle.frames.specs.regions.Regions.{regions_of}
use Rattle.text_planes.specs.texts.RegionText.{texts_of}
use Rattle.text_planes.specs.RegionTexts.{region_texts_by, region_texts_of}

module _ (p q : Picture) (w h : ℕ) where
  pub not_counted : (r : Refusal) → Err r ≡ regions_of q w h → Err r ≡ region_texts_of p q w h
  unfolding region_texts_by
  not_counted r e = rw (← e)

  module _ (rs : List Rect) (e : Ok rs ≡ regions_of q w h) where
    pub not_gathered : (r : Refusal) → Err r ≡ texts_of p rs → Err r ≡ region_texts_of p q w h
    unfolding region_texts_by
    not_gathered r f = rw (← e, ← f)

    pub gathered : (ts : List (List ℕ)) → Ok ts ≡ texts_of p rs → Ok (record { rects = rs; texts = ts }) ≡ region_texts_of p q w h
    unfolding region_texts_by
    gathered ts f = rw (← e, ← f)
