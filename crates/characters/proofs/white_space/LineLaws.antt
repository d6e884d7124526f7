-- Laws of lines: the first line and what follows it.
use mathlib.Core.Path.{◌≡◌, refl, ap}
use mathlib.Core.Bool.{Bool, true, false}
use mathlib.Core.List.{List, [], ◌∷◌}
use Prim.Native.Nat.{ℕ}
use lib.Dec.{eqb}
use Rattle.lists.specs.Choose.{choose}
use Rattle.characters.specs.white_space.Trim.{trim_start, trim_end, trim}
use Rattle.characters.specs.white_space.Lines.{join, lines, texts, kept, line, after}

-- the first line and the others
pub lines_cons : (c : ℕ) (s : List ℕ) → lines (c ∷ s) ≡ line (c ∷ s) ∷ lines (after (c ∷ s))
unfolding lines line after
lines_cons c [] = go (eqb c 0x0A)
  where
    go : (t : Bool) → choose t ([] ∷ []) ((c ∷ []) ∷ []) ≡ choose t [] (c ∷ []) ∷ lines (choose t [] [])
    go true = refl
    go false = refl
lines_cons c (d ∷ s) = go (eqb c 0x0A) (lines_cons d s)
  where
    go : (t : Bool) → lines (d ∷ s) ≡ line (d ∷ s) ∷ lines (after (d ∷ s)) → choose t ([] ∷ lines (d ∷ s)) (join c (lines (d ∷ s))) ≡ choose t [] (c ∷ line (d ∷ s)) ∷ lines (choose t (d ∷ s) (after (d ∷ s)))
    go true e = refl
    go false e = rw e

-- the first line's text, and those of the others
pub texts-split : (r : List ℕ) → texts (lines r) ≡ kept (trim (line r)) (texts (lines (after r)))
texts-split [] = unfold texts lines line after trim trim_start trim_end in refl
texts-split (c ∷ s) = unfold texts in ap texts (lines_cons c s)
