-- A sheet that is drawn fits the canvas, and its outline is that of TEXT.
use Rattle.std.specs.Prelude.{Ok, Result, ℕ, Err}
use mathlib.Core.Path.{◌≡◌, refl}
use mathlib.Core.Bool.{true}
use mathlib.Core.List.{List}
use Prim.Native.Nat.{ℕ}
use lib.ListN.{length}
use Rattle.lists.proofs.AnswerLaws.{refused-ok}
use Rattle.lists.proofs.Tests.{by_flag}
use Rattle.frames.specs.outline.Outline.{outline_by}
use Rattle.frames.specs.declared.outline.Outline.{Outline}
use Rattle.scan.specs.sheet_rows.Rows.{rows_at, widest}
use Rattle.scan.specs.Canvas.{fits, size_of}
use Rattle.characters.specs.utf8.Utf8.{checked}
use Rattle.walks.specs.Frame.{FrameFinder}
use Rattle.canvas.specs.Layers.{text_layer, drawing_by, sheet_by}

module _ (find : FrameFinder) where
  pub drawn-fits : (rs : List (List ℕ)) (o : Outline) → drawing_by find rs ≡ Ok o → fits rs ≡ true
  unfolding drawing_by size_of
  drawn-fits rs o e = by_flag (fits rs) (λ t. t) (λ t. refused-ok (rw t at e))

  pub drawn_outline : (rs : List (List ℕ)) (o : Outline) → drawing_by find rs ≡ Ok o → outline_by find (text_layer rs) (widest rs) (length rs) ≡ Ok o
  unfolding drawing_by size_of
  drawn_outline rs o e = rw (drawn-fits rs o e) at e

  pub sheet-drawn : (s : List ℕ) (o : Outline) → sheet_by find s ≡ Ok o → drawing_by find (rows_at s 0) ≡ Ok o
  unfolding sheet_by
  sheet-drawn s o e = go (checked s) refl
    where
      go : (k : Result (Unit {0}) ℕ) → checked s ≡ k → drawing_by find (rows_at s 0) ≡ Ok o
      go (Ok tt) f = rw f at e
      go (Err at) f = refused-ok (rw f at e)

  pub sheet_outline : (s : List ℕ) (o : Outline) → sheet_by find s ≡ Ok o → outline_by find (text_layer (rows_at s 0)) (widest (rows_at s 0)) (length (rows_at s 0)) ≡ Ok o
  sheet_outline s o e = drawn_outline (rows_at s 0) o (sheet-drawn s o e)
