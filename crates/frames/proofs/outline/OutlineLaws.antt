-- Laws of the search for a character, and of the steps of the outline.
use Rattle.std.specs.Prelude.{Ok, Err, ℕ, Option, Some, cond}
use Rattle.std.specs.List.{position, position_from}
use Rattle.std.specs.Option.{ok_or}
use Rattle.std.proofs.lemmas.Iterator.Adapters.{position_from-zero}
use Rattle.std.proofs.lemmas.List.{length-take-le}
use mathlib.Core.Path.{◌≡◌, refl, sym, ap, ◌∙◌}
use mathlib.Core.Bool.{Bool, true, false}
use mathlib.Core.List.{List, [], ◌∷◌}
use Prim.Native.Nat.{ℕ, zero, suc, ◌+◌, ◌*◌, ◌/◌, ◌%◌, ◌≤◌, ◌<◌, ◌^◌}
use native.Mathlib.Nat.{add-zero, zero-add}
use lib.ListN.{length, get_or, take}
use lib.Seq.{get_or-take}
use native.Mathlib.Numerals.{add-one}
use native.Mathlib.Omega.{arith}
use lib.Dec.{eqb}
use borrow.Author.Tests.{lt-ltb}
use Rattle.lists.specs.Choose.{choose}
use Rattle.lists.specs.Picture.{Picture, canvas, at}
use Rattle.lists.proofs.PlaceLaws.{at-canvas}
use Rattle.lists.proofs.AnswerLaws.{refused-ok}
use Rattle.model.specs.Box.{┌, ═, ║, ╥, ╪, ╫, ╬}
use Rattle.model.specs.Refusals.{Reading}
use Rattle.model.specs.declared.Rect.{Rect}
use Rattle.model.specs.declared.Refusal.{Refusal}
use Rattle.model.specs.declared.Refusal.TheVariants.{CharactersNotFound}
use Rattle.walks.specs.Frame.{frame_of}
use Rattle.walks.specs.Kinds.{name}
use Rattle.walks.specs.Walk.{walk_of, go_of}
use Rattle.walks.specs.declared.Direction.TheVariants.{Right, Down}
use Rattle.walks.proofs.WalkLaws.{found_bound}
use Rattle.frames.specs.Body.{body_of}
use Rattle.frames.specs.outline.Outline.{search_from, search_of, named_by, named_of, crossing_by, table_of, outline_by, outline_of}
use Rattle.frames.specs.outline.Answers.{WalkFits}

-- a search of a picture is the search of the list that it shows
of_list : (f : ℕ → ℕ) (c i : ℕ) (xs : List ℕ) → ((j : ℕ) → j < length xs → f (i + j) ≡ get_or xs j 0)
    → ok_or (position_from (λ x. eqb x c) i xs) (CharactersNotFound c) ≡ search_from f c i (length xs)
unfolding search_from
of_list f c i [] h = refl
of_list f c i (x ∷ xs) h =
    let e : f i ≡ x = rw (add-zero i) at (h 0 (omega arith)) in
    let next : (j : ℕ) → j < length xs → f (suc i + j) ≡ get_or xs j 0 = λ j l. let z : i + suc j ≡ suc i + j = omega arith in rw z at (h (suc j) (omega arith)) in
    rw (add-one i, e) (go (eqb x c) _ _ (of_list f c (suc i) xs next))
  where
    go : (t : Bool) (m : Option ℕ) (r : Reading ℕ) → ok_or m (CharactersNotFound c) ≡ r → ok_or (cond t (Some i) m) (CharactersNotFound c) ≡ choose t (Ok i) r
    go true m r q = refl
    go false m r q = q

pub search_is : (w h c : ℕ) (l : List ℕ) → h * w ≤ length l
    → ok_or (position (λ x. eqb x c) (take (h * w) l)) (CharactersNotFound c) ≡ search_of c (canvas w h l) w h
search_is w h c l s =
    let d = take (h * w) l in
    let n : length d ≡ h * w = length-take-le (h * w) l s in
    let same : (j : ℕ) → j < length d → at (canvas w h l) w (0 + j) ≡ get_or d j 0 = λ j b. rw (zero-add j) (at-canvas w h j (omega (arith, n)) l ∙ sym (get_or-take (h * w) l j 0 (omega (arith, n)))) in
    ap (λ (m : Option ℕ). ok_or m (CharactersNotFound c)) (position_from-zero (λ x. eqb x c) d)
    ∙ of_list (at (canvas w h l) w) c 0 d same ∙ ap (search_from (at (canvas w h l) w) c 0) n

-- what is found is one of the places
found_in : (f : ℕ → ℕ) (c i n j : ℕ) → search_from f c i n ≡ Ok j → (i ≤ j) × (j < i + n)
unfolding search_from
found_in f c i zero j e = refused-ok e
found_in f c i (suc n) j e = go (eqb (f i) c) e (found_in f c (suc i) n j)
  where
    go : (t : Bool) → choose t (Ok i) (search_from f c (suc i) n) ≡ Ok j → (search_from f c (suc i) n ≡ Ok j → (suc i ≤ j) × (j < suc i + n)) → (i ≤ j) × (j < i + suc n)
    go true e r = let z : i ≡ j = cc in (omega arith, omega arith)
    go false e r = let b = r e in (omega arith, omega arith)

pub search_in : (c : ℕ) (p : Picture) (w h j : ℕ) → search_of c p w h ≡ Ok j → j < h * w
search_in c p w h j e = let b = found_in (at p w) c 0 (h * w) j e in omega arith

-- a name above the table, or none
module _ (p : Picture) (w h : ℕ) where
  pub none_above : Ok false ≡ named_of p w h 0
  unfolding named_by
  none_above = refl

  module _ (row : ℕ) (b : 0 < row) where
    pub name_above_lem : (r : Rect) → frame_of name p w h 0 0 ≡ Ok r → Ok true ≡ named_of p w h row
    unfolding named_by
    name_above_lem r e = rw (lt-ltb 0 row b, e)

    pub name-refused : (r : Refusal) → frame_of name p w h 0 0 ≡ Err r → Err r ≡ named_of p w h row
    unfolding named_by
    name-refused r e = rw (lt-ltb 0 row b, e)

-- the place that a walk came to fits
pub walk_fits : (line : ℕ → ℕ) (s a : List ℕ) (n from : ℕ) (r : Reading ℕ) → from + n < 2 ^ 64 → r ≡ walk_of line s a n → WalkFits from r
walk_fits line s a n from (Ok k) f e = omega (arith, found_bound line s a n k (sym e))
walk_fits line s a n from (Err r) f e = tt

-- the table at a main crossing
module _ (p : Picture) (w h : ℕ) (n : Bool) (k : ℕ) where
  pub no_body : (r : Refusal) → body_of p w h (k % w) (k / w) ≡ Err r → Err r ≡ table_of p w h n k
  unfolding table_of
  no_body r e = rw e

  pub table_made : (b : Rect) → body_of p w h (k % w) (k / w) ≡ Ok b → (u v : Reading ℕ) {c d : (Option ℕ)}
      → c ≡ crossing_by (k % w) u → u ≡ go_of Right p w h (k % w) (k / w) (╬ ∷ []) (═ ∷ ╪ ∷ [])
      → d ≡ crossing_by (k / w) v → v ≡ go_of Down p w h (k % w) (k / w) (╬ ∷ []) (║ ∷ ╫ ∷ [])
      → Ok (record { named = n; x = k % w; y = k / w; right = c; below = d; body = b }) ≡ table_of p w h n k
  unfolding table_of
  table_made b e u v ec eu ed ev = rw (e, ec, eu, ed, ev)

-- the steps of the outline
module _ (p : Picture) (w h : ℕ) where
  pub no_corner : (r : Refusal) → search_of ┌ p w h ≡ Err r → Err r ≡ outline_of p w h
  unfolding outline_by
  no_corner r e = rw e

  module _ (c : ℕ) (ec : search_of ┌ p w h ≡ Ok c) where
    pub no_edge : (r : Refusal) → search_of ╥ p w h ≡ Err r → Err r ≡ outline_of p w h
    unfolding outline_by
    no_edge r e = rw (ec, e)

    module _ (i : ℕ) (ei : search_of ╥ p w h ≡ Ok i) where
      pub no_name : (r : Refusal) → named_of p w h (i / w) ≡ Err r → Err r ≡ outline_of p w h
      unfolding outline_by
      no_name r e = rw (ec, ei, e)

      module _ (n : Bool) (en : named_of p w h (i / w) ≡ Ok n) where
        pub no_crossing : (r : Refusal) → search_of ╬ p w h ≡ Err r → Err r ≡ outline_of p w h
        unfolding outline_by
        no_crossing r e = rw (ec, ei, en, e)

        pub table_is : (k : ℕ) → search_of ╬ p w h ≡ Ok k → table_of p w h n k ≡ outline_of p w h
        unfolding outline_by
        table_is k e = rw (ec, ei, en, e)
