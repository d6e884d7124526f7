-- The rows of a sheet as a layer: how long it is, and the canvas that it shows, in TEXT and in BODY.
use mathlib.Core.Path.{◌≡◌, refl, sym, ap, ◌∙◌}
use mathlib.Core.Bool.{true}
use mathlib.Core.List.{List, [], ◌∷◌, map}
use Prim.Native.Nat.{ℕ, ◌+◌, ◌-◌, ◌*◌, ◌≤◌, ◌<◌}
use native.Mathlib.Nat.{suc-mul}
use native.Mathlib.Omega.{arith}
use lib.ListN.{length, get_or, drop, replicate, length-append, length-replicate, length-map, get_or-append}
use borrow.Author.Tests.{eqb-true}
use Rattle.lists.specs.Picture.{pic, canvas}
use Rattle.lists.specs.Put.{put}
use Rattle.lists.proofs.PictureLaws.{picture_is, within_in, within-out, place-fits}
use Rattle.lists.proofs.PutLaws.{put_front}
use Rattle.lists.proofs.Tests.{by_flag, true_false}
use Rattle.model.specs.Box.{┌, ░}
use Rattle.characters.specs.white_space.Lines.{lines, texts}
use Rattle.scan.specs.sheet_rows.Rows.{begins, up_to, collect, rows, widest}
use Rattle.scan.specs.Canvas.{fits, text_in, blanks_in}
use Rattle.scan.specs.Rows.{fill, blank, flat}

pub fill-length : (w : ℕ) (r : List ℕ) → length r ≤ w → length (fill w r) ≡ w
fill-length w r h =
    let a = length-append r (replicate (w - length r) ░) in
    let b = length-replicate {A = ℕ} (w - length r) ░ in
    omega arith

pub flat-length : (w : ℕ) (rs : List (List ℕ)) → widest rs ≤ w → length (flat w rs) ≡ length rs * w
unfolding flat widest
flat-length w [] h = omega arith
flat-length w (r ∷ rs) h =
    let a = length-append (fill w r) (flat w rs) in
    let b = fill-length w r (omega arith) in
    let e = flat-length w rs (omega arith) in
    omega (arith, suc-mul (length rs) w)

pub blank-length : (r : List ℕ) → length (blank r) ≡ length r
blank-length r = length-replicate {A = ℕ} (length r) 32

-- other rows, each as long as the one it stands for
module _ (g : List ℕ → List ℕ) (same : (r : List ℕ) → length (g r) ≡ length r) where
  widest-map : (rs : List (List ℕ)) → widest (map g rs) ≡ widest rs
  unfolding widest
  widest-map [] = refl
  widest-map (r ∷ rs) = rw (same r, widest-map rs)

  pub map-length : (w : ℕ) (rs : List (List ℕ)) → widest rs ≤ w → length (flat w (map g rs)) ≡ length rs * w
  map-length w rs h = flat-length w (map g rs) (rw (widest-map rs) h) ∙ rw (length-map rs g)

-- a layer begins with the rows that are written into it, so it shows their canvas
rows-canvas : (w : ℕ) (rs : List (List ℕ)) (d : List ℕ) → widest rs ≤ w → canvas w (length rs) (put d 0 (flat w rs)) ≡ canvas w (length rs) (flat w rs)
rows-canvas w rs d h =
    let F : List ℕ = flat w rs in
    picture_is w (length rs) (pic w (put d 0 F)) (canvas w (length rs) F)
    (λ x y p q.
    let l = flat-length w rs h in
    let b = place-fits (length rs) w x y (length F) p q (omega arith) in
    ap (λ (o : List ℕ). pic w o x y) (put_front d F (length F) refl) ∙ get_or-append F (drop (length F) d) 0 (y * w + x) b ∙ sym (within_in w (length rs) (pic w F) x y p q))
    (λ x y n. within-out w (length rs) (pic w F) x y n)

pub text-canvas : (rs : List (List ℕ)) (d : List ℕ) → fits rs ≡ true
    → canvas (widest rs) (length rs) (text_in rs d) ≡ canvas (widest rs) (length rs) (flat (widest rs) rs)
unfolding text_in
text-canvas rs d f = rw f (rows-canvas (widest rs) rs d (omega arith))

pub blanks_canvas : (rs : List (List ℕ)) (d : List ℕ) → fits rs ≡ true
    → canvas (widest rs) (length rs) (blanks_in rs d) ≡ canvas (widest rs) (length rs) (flat (widest rs) (map blank rs))
unfolding blanks_in
blanks_canvas rs d f =
    let c = rows-canvas (widest rs) (map blank rs) d (omega (arith, widest-map blank blank-length rs)) in
    rw f (rw (length-map rs blank) at c)

-- the first row begins with ┌
corner-row : (w : ℕ) (r : List ℕ) (rs : List (List ℕ)) → begins r ≡ true → (0 < widest (r ∷ rs)) × (get_or (flat w (r ∷ rs)) 0 0 ≡ ┌)
unfolding flat widest
corner-row w [] rs e = true_false e refl
corner-row w (c ∷ r) rs e = (omega arith, eqb-true c ┌ e)

corner : (w : ℕ) (ts : List (List ℕ)) → 0 < length (collect ts) → (0 < widest (collect ts)) × (get_or (flat w (collect ts)) 0 0 ≡ ┌)
unfolding collect up_to
corner w [] h = absurd (omega arith)
corner w (t ∷ ts) h = by_flag (begins t) (λ e. rw e (corner-row w t _ e)) (λ e. rw e (corner w ts (rw e at h)))

pub text-corner : (t : List ℕ) → 0 < length (rows t) → canvas (widest (rows t)) (length (rows t)) (flat (widest (rows t)) (rows t)) 0 0 ≡ ┌
text-corner t h =
    let w = widest (rows t) in
    let c = corner w (texts (lines t)) h in
    let z : 0 * w + 0 ≡ 0 = omega arith in
    within_in w (length (rows t)) (pic w (flat w (rows t))) 0 0 c.0 h ∙ ap (λ (n : ℕ). get_or (flat w (rows t)) n 0) z ∙ c.1
