-- A layer that is being printed.
use mathlib.Core.Path.{◌≡◌, sym, ap, ◌∙◌}
use mathlib.Core.List.{List, [], ◌∷◌, ◌++◌}
use Prim.Native.Nat.{ℕ, ◌+◌, ◌*◌, ◌≤◌, ◌<◌}
use native.Mathlib.Numerals.{add-one}
use native.Mathlib.Omega.{arith}
use lib.Dec.{leb}
use lib.ListN.{length, take, drop}
use lib.Seq.{take_at}
use Rattle.lists.specs.Picture.{Picture}
use Rattle.lists.specs.Put.{put}
use Rattle.lists.proofs.PutLaws.{put_front}
use Rattle.lists.proofs.Tests.{by_flag}
use Rattle.model.specs.Limits.{canvas_columns}
use Rattle.characters.specs.utf8.Utf8.{encode}
use Rattle.print.specs.Decimal.{Written}
use Rattle.print.specs.Lines.{line_feed}
use Rattle.print.proofs.WrittenLaws.{written_nil, written_then, written_within, written_as}
use Rattle.answers.specs.sketch.Drawings.{row_to, rows_to, layer_lines, row_bytes}

pub encode_most : (c : ℕ) → length (encode c) ≤ 4
unfolding encode
encode_most c =
    by_flag (leb c 0x7F)
    (λ t. rw t (omega arith))
    (λ t. rw t (by_flag (leb c 0x7FF) (λ u. rw u (omega arith)) (λ u. rw u (by_flag (leb c 0xFFFF) (λ v. rw v (omega arith)) (λ v. rw v (omega arith))))))

-- the n bytes of a character at the front of its slice
pub written_code : {d o : List ℕ} (s : List ℕ) (c n : ℕ) {e : List ℕ} {m : ℕ} → (n ≡ 0 + length (encode c)) × (e ≡ put s 0 (encode c))
    → Written d o (take n e) m → Written d o (encode c) 4
written_code {d} {o} s c n {e} k w =
    let f : n ≡ length (encode c) = omega (arith, k.0) in
    let z : take n e ≡ encode c =
    ap (take n) (k.1 ∙ put_front s (encode c) n (sym f)) ∙ take_at (encode c) (drop n s) n (sym f) in
    record { same = w.same ∙ ap (λ (x : List ℕ). d ++ x) z; short = encode_most c }

-- the first x characters of row y are written behind o₀
pub record Rowing (o₀ : List ℕ) (p : Picture) (w y : ℕ) (o : List ℕ) (x : ℕ) : Type 0 where
  pub along : x ≤ w
  pub written : Written o₀ o (row_to p y x) (4 * x)

pub rowing_start : (o : List ℕ) (p : Picture) (w y : ℕ) → Rowing o p w y o 0
unfolding row_to
rowing_start o p w y = record { along = omega arith; written = written_nil o }

module _ {o₀ : List ℕ} {p : Picture} {w y : ℕ} {o : List ℕ} {x : ℕ} (q : Rowing o₀ p w y o x) where
  pub rowing_more : {e : List ℕ} {c : ℕ} → x < w → p x y ≡ c → Written o e (encode c) 4 → Rowing o₀ p w y e (x + 1)
  unfolding row_to
  rowing_more {e} {c} h f u =
      let z : row_to p y x ++ encode c ≡ row_to p y (x + 1) = rw (add-one x, ← f) in
      record { along = omega arith; written = written_within (written_as (written_then q.written u) z) (omega arith) }

  pub rowing_end : {e : List ℕ} → w ≤ x → w ≤ canvas_columns → Written o e (line_feed ∷ []) 1 → Written o₀ e (row_to p y w ++ (line_feed ∷ [])) row_bytes
  rowing_end {e} h wide u =
      let a = q.along in
      let z : x ≡ w = omega arith in
      written_within (written_as (written_then q.written u) (ap (λ (i : ℕ). row_to p y i ++ (line_feed ∷ [])) z)) (omega arith)

-- the first y rows are written behind o₀
pub record Layering (o₀ : List ℕ) (p : Picture) (w h : ℕ) (o : List ℕ) (y : ℕ) : Type 0 where
  pub along : y ≤ h
  pub written : Written o₀ o (rows_to p w y) (row_bytes * y)

pub layering_start : (o : List ℕ) (p : Picture) (w h : ℕ) → Layering o p w h o 0
unfolding rows_to
layering_start o p w h = record { along = omega arith; written = written_nil o }

module _ {o₀ : List ℕ} {p : Picture} {w h : ℕ} {o : List ℕ} {y : ℕ} (q : Layering o₀ p w h o y) where
  pub layering_more : {e : List ℕ} → y < h → Written o e (row_to p y w ++ (line_feed ∷ [])) row_bytes → Layering o₀ p w h e (y + 1)
  unfolding rows_to
  layering_more {e} l u =
      let z : rows_to p w y ++ (row_to p y w ++ (line_feed ∷ [])) ≡ rows_to p w (y + 1) = rw (add-one y) in
      record { along = omega arith; written = written_within (written_as (written_then q.written u) z) (omega arith) }

  pub layering_end : {d title : List ℕ} → h ≤ y → Written d o₀ title (length title) → Written d o (layer_lines title p w h) (length title + row_bytes * h)
  unfolding layer_lines
  layering_end {d} {title} l u =
      let b = q.along in
      let z : y ≡ h = omega arith in
      written_within (written_as (written_then u q.written) (ap (λ (i : ℕ). title ++ rows_to p w i) z)) (omega arith)

-- a layer's lines, by other counts of columns and rows
pub layer_as : {a b c d : ℕ} (title : List ℕ) (p : Picture) → a ≡ c → b ≡ d → layer_lines title p a b ≡ layer_lines title p c d
layer_as title p e f = rw (e, f)
