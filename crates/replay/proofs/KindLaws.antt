-- The kinds of lines.
use Rattle.std.specs.Prelude.{Some, None}
use Rattle.std.proofs.Common.{nat_eq}
use mathlib.Core.Path.{◌≡◌, refl, sym, ap, ◌∙◌}
use mathlib.Core.Bool.{Bool, true, false, ◌&&◌}
use mathlib.Core.List.{List, [], ◌∷◌}
use Prim.Native.Nat.{ℕ}
use lib.Dec.{eqb}
use lib.Pointwise.{pointwise}
use Rattle.plane.specs.hit_policies.Letters.{same_text}
use Rattle.replay.specs.Kinds.{split_word, drawing_word, plane_word, sheet_word, table_word, kind_of}
use Rattle.replay.specs.declared.Kind.TheVariants.{Split, Drawing, Plane, Sheet, Table}

-- what `==` says of a word
same : (s t : List ℕ) → same_text s t ≡ pointwise nat_eq s t
unfolding same_text
same [] [] = refl
same [] (b ∷ t) = refl
same (a ∷ s) [] = refl
same (a ∷ s) (b ∷ t) = ap (λ (r : Bool). eqb a b && r) (same s t)

pub told : {r b : Bool} (s t : List ℕ) {u : List ℕ} → r ≡ pointwise nat_eq s u → u ≡ t → r ≡ b → same_text s t ≡ b
told s t e f g = same s t ∙ ap (pointwise nat_eq s) (sym f) ∙ sym e ∙ g

pub kind-split : (s : List ℕ) → same_text s split_word ≡ true → Some Split ≡ kind_of s
unfolding kind_of
kind-split s e = rw e

pub kind-drawing : (s : List ℕ) → same_text s split_word ≡ false → same_text s drawing_word ≡ true → Some Drawing ≡ kind_of s
unfolding kind_of
kind-drawing s e f = rw (e, f)

module _ (s : List ℕ) (e : same_text s split_word ≡ false) (f : same_text s drawing_word ≡ false) where
  pub kind-plane : same_text s plane_word ≡ true → Some Plane ≡ kind_of s
  unfolding kind_of
  kind-plane g = rw (e, f, g)

  module _ (g : same_text s plane_word ≡ false) where
    pub kind-sheet : same_text s sheet_word ≡ true → Some Sheet ≡ kind_of s
    unfolding kind_of
    kind-sheet h = rw (e, f, g, h)

    module _ (h : same_text s sheet_word ≡ false) where
      pub kind-table : same_text s table_word ≡ true → Some Table ≡ kind_of s
      unfolding kind_of
      kind-table i = rw (e, f, g, h, i)

      pub kind_unknown : same_text s table_word ≡ false → None ≡ kind_of s
      unfolding kind_of
      kind_unknown i = rw (e, f, g, h, i)
