-- Laws of THIN: blank stays, a character that no arm names becomes blank, and THIN of a whole layer.
use mathlib.Core.Path.{◌≡◌, refl, sym, ap, ◌∙◌}
use mathlib.Core.Bool.{false}
use mathlib.Core.List.{List, [], ◌∷◌}
use Prim.Native.Nat.{ℕ, ◌+◌, ◌*◌, ◌≤◌}
use native.Mathlib.Omega.{arith}
use lib.ListN.{length, get_or}
use borrow.Author.Tests.{ne_eqb}
use Rattle.lists.specs.Line.{store_at}
use Rattle.lists.specs.OneOf.{one_of}
use Rattle.lists.specs.Picture.{pic, canvas}
use Rattle.lists.specs.Turns.{turns}
use Rattle.lists.proofs.LineLaws.{stores_on}
use Rattle.lists.proofs.PictureLaws.{within_in, within-out, picture_is, place-fits}
use Rattle.model.specs.Box.{─, │, ┌, ┐, └, ┘, ├, ┤, ┬, ┴, ┼, ═, ║, ╞, ╟, ╡, ╢, ╤, ╥, ╧, ╨, ╪, ╫, ╬, ░, blank}
use Rattle.canvas.specs.thin_layer.Thin.{thin_of, thin_picture}

pub thin-blank : blank ≡ thin_of blank
unfolding thin_of one_of
thin-blank = refl

-- what a match's default knows: N, and that x is none of the arms' keys
abbrev pub Missed : Type 0 → List ℕ → ℕ → Type 0
Missed N [] x = N
Missed N (k ∷ ks) x = Missed (N × (x ≡ k → ⊥)) ks x

past : (N : Type 0) (ks : List ℕ) (x : ℕ) → Missed N ks x → (one_of x ks ≡ false) × N
unfolding one_of
past N [] x m = (refl, m)
past N (k ∷ ks) x m =
    let p = past (N × (x ≡ k → ⊥)) ks x m in
    (rw (ne_eqb x k p.1.1) p.0, p.1.0)

pub thin_other : (t : ℕ)
    → Missed (Unit {0}) (┌ ∷ ┐ ∷ └ ∷ ┘ ∷ ┬ ∷ ┴ ∷ ─ ∷ │ ∷ ├ ∷ ┼ ∷ ┤ ∷ blank ∷ ░ ∷ ╥ ∷ ╤ ∷ ║ ∷ ╨ ∷ ╧ ∷ ═ ∷ ╞ ∷ ╟ ∷ ╡ ∷ ╢ ∷ ╫ ∷ ╪ ∷ ╬ ∷ []) t
    → blank ≡ thin_of t
unfolding thin_of
thin_other t m =
    let a = past _ (╫ ∷ ╪ ∷ ╬ ∷ []) t m in
    let b = past _ (╡ ∷ ╢ ∷ []) t a.1 in
    let c = past _ (╞ ∷ ╟ ∷ []) t b.1 in
    let d = past _ (═ ∷ []) t c.1 in
    let e = past _ (╨ ∷ ╧ ∷ []) t d.1 in
    let f = past _ (║ ∷ []) t e.1 in
    let g = past _ (╥ ∷ ╤ ∷ []) t f.1 in
    let h = past _ (┌ ∷ ┐ ∷ └ ∷ ┘ ∷ ┬ ∷ ┴ ∷ ─ ∷ │ ∷ ├ ∷ ┼ ∷ ┤ ∷ blank ∷ ░ ∷ []) t g.1 in
    simp (h.0, g.0, f.0, e.0, d.0, c.0, b.0, a.0)

-- a turn of the pass: the character at k becomes THIN of TEXT's
abbrev pub thin_turn : List ℕ → ℕ → List ℕ → List ℕ
thin_turn text = store_at (λ k. k) (λ k b. thin_of (get_or text k 0))

pub thin-canvas : (w h : ℕ) (text s out : List ℕ) → h * w ≤ length s → out ≡ turns (thin_turn text) (h * w) s
    → canvas w h out ≡ thin_picture w h (canvas w h text)
thin-canvas w h text s out f e =
    picture_is w h (pic w out) (thin_picture w h (canvas w h text))
    (λ x y p q.
    ap (λ (l : List ℕ). pic w l x y) e
    ∙ stores_on (λ k. k) (λ k b. thin_of (get_or text k 0)) s (h * w) (λ i j a b z. z) (λ k a. omega arith) (y * w + x) (place-fits h w x y (h * w) p q (omega arith))
    ∙ ap thin_of (sym (within_in w h (pic w text) x y p q))
    ∙ sym (within_in w h (λ u v. thin_of (canvas w h text u v)) x y p q))
    (λ x y n. within-out w h (λ u v. thin_of (canvas w h text u v)) x y n)
