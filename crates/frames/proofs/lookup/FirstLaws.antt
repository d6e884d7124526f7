-- A run of rects that is filled, and searched for the first that contains a frame.
use Rattle.std.specs.Prelude.{Ok, Err, Option, None, Some}
use mathlib.Core.Path.{◌≡◌, refl, sym, ap, ◌∙◌, subst}
use mathlib.Core.Bool.{Bool, true, false, ◌&&◌}
use mathlib.Core.List.{List, [], ◌∷◌, ◌++◌, append_assoc}
use Prim.Native.Nat.{ℕ, zero, suc, ◌+◌, ◌≤◌, ◌<◌}
use native.Mathlib.Nat.{zero-add, add-zero}
use native.Mathlib.Numerals.{add-one}
use native.Mathlib.Omega.{arith}
use lib.Dec.{ltb, leb}
use lib.ListN.{length, get_or, set, take, drop, drop_of_length-le}
use lib.Seq.{drop-cons, set-append_seam, take_at}
use borrow.Author.Tests.{lt-ltb, le-ltb, ltb-true, ltb-false, leb-true}
use Rattle.lists.specs.Choose.{choose}
use Rattle.lists.specs.Run.{run}
use Rattle.lists.proofs.AnswerLaws.{refused-ok}
use Rattle.lists.proofs.RunLaws.{length_run, build-next}
use Rattle.lists.proofs.Tests.{by_flag, both}
use Rattle.model.specs.Geometry.{contains_of}
use Rattle.model.specs.Refusals.{Reading}
use Rattle.model.specs.declared.Rect.{Rect}
use Rattle.model.specs.declared.Refusal.TheVariants.{RegionNotFound}
use Rattle.cells.specs.rects.Rects.{rect_at, rects_of}
use Rattle.frames.specs.lookup.Lookup.{region_from, region_of, first_of}
use Rattle.frames.specs.lookup.Numbers.{none, Above, Without, WithoutAny, number_in}

-- the region of a frame, by the number of the first rect that contains it
abbrev by_number : Rect → ℕ → ℕ → ℕ → Reading ℕ
by_number f i n count = choose (ltb n count) (Ok (i + n)) (Err (RegionNotFound f.left f.top))

region-from : (f : Rect) (i : ℕ) (rs : List Rect) → region_from f i rs ≡ by_number f i (first_of rs f) (length rs)
unfolding region_from first_of
region-from f i [] = refl
region-from f i (r ∷ rs) = go (contains_of r f) (region-from f (suc i) rs)
  where
    go : (t : Bool) → region_from f (suc i) rs ≡ by_number f (suc i) (first_of rs f) (length rs)
        → choose t (Ok i) (region_from f (suc i) rs) ≡ by_number f i (choose t 0 (suc (first_of rs f))) (suc (length rs))
    go true e = rw (lt-ltb 0 (suc (length rs)) (omega arith), add-zero i)
    go false e =
        e ∙ by_flag (ltb (first_of rs f) (length rs))
        (λ y.
        let z : suc i + first_of rs f ≡ i + suc (first_of rs f) = omega arith in
        rw (y, lt-ltb (suc (first_of rs f)) (suc (length rs)) (omega (arith, ltb-true (first_of rs f) (length rs) y)), z))
        (λ n. rw (n, le-ltb (suc (first_of rs f)) (suc (length rs)) (omega (arith, ltb-false (first_of rs f) (length rs) n))))

pub region-first : (rs : List Rect) (f : Rect) → region_of rs f ≡ choose (ltb (first_of rs f) (length rs)) (Ok (first_of rs f)) (Err (RegionNotFound f.left f.top))
region-first rs f = region-from f 0 rs ∙ rw (zero-add (first_of rs f))

-- the number of a region is below their count
pub region_number_lem : (rs : List Rect) (f : Rect) (i : ℕ) → region_of rs f ≡ Ok i → i < length rs
region_number_lem rs f i e =
    let q : choose (ltb (first_of rs f) (length rs)) (Ok (first_of rs f)) (Err (RegionNotFound f.left f.top)) ≡ Ok i = sym (region-first rs f) ∙ e in
    by_flag (ltb (first_of rs f) (length rs))
    (λ y.
    let k : ◌≡◌ {A = Reading ℕ} (Ok (first_of rs f)) (Ok i) = rw y at q in
    let z : first_of rs f ≡ i = cc in
    omega (arith, ltb-true (first_of rs f) (length rs) y))
    (λ n. refused-ok (rw n at q))

pub first-few : (rs : List Rect) (f : Rect) → first_of rs f ≤ length rs
unfolding first_of
first-few [] f = omega arith
first-few (r ∷ rs) f = go (contains_of r f) (first-few rs f)
  where
    go : (t : Bool) → first_of rs f ≤ length rs → choose t 0 (suc (first_of rs f)) ≤ suc (length rs)
    go true e = omega arith
    go false e = omega arith

pub number-few : (rs : List Rect) (o : Option Rect) → number_in rs o ≤ length rs
number-few rs None = omega arith
number-few rs (Some f) = first-few rs f

-- the search has come to rect i
pub record Searching (f : Rect) (l : List Rect) (i : ℕ) : Type 0 where
  pub along : i ≤ length l
  pub same : i + first_of (drop i l) f ≡ first_of l f

module _ {f : Rect} {l : List Rect} {i : ℕ} (q : Searching f l i) where
  module _ (h : i < length l) where
    turn : first_of (drop i l) f ≡ choose (contains_of (get_or l i none) f) 0 (suc (first_of (drop (i + 1) l) f))
    unfolding first_of
    turn = rw (drop-cons l i none h, add-one i)

    pub searching_found : contains_of (get_or l i none) f ≡ true → i ≡ first_of l f
    searching_found e =
        let z : first_of (drop i l) f ≡ 0 = turn ∙ rw e in
        omega (arith, z, q.same)

    pub searching_more : contains_of (get_or l i none) f ≡ false → Searching f l (i + 1)
    searching_more e =
        let z : first_of (drop i l) f ≡ suc (first_of (drop (i + 1) l) f) = turn ∙ rw e in
        record { along = omega arith; same = omega (arith, z, q.same) }

  pub searching_end : length l ≤ i → length l ≡ first_of l f
  unfolding first_of
  searching_end h =
      let e : i + 0 ≡ first_of l f = rw (drop_of_length-le l h) at q.same in
      omega (arith, e, q.along)

-- it may start behind rects that do not contain the frame
pub searching_start : (f : Rect) (l : List Rect) (i : ℕ) → i ≤ length l → Without l i f → Searching f l i
searching_start f l zero h a = record { along = omega arith; same = zero-add (first_of l f) }
searching_start f l (suc i) h a =
    subst (Searching f l) (add-one i)
    (searching_more (searching_start f l i (omega arith) (λ j b. a j (omega arith))) (omega arith) (a i (omega arith)))

-- a rect that ends at or above a row contains no frame that ends below it
above_apart : (r f : Rect) (row : ℕ) → r.bottom ≤ row → row < f.bottom → contains_of r f ≡ false
above_apart r f row a b =
    by_flag (contains_of r f)
    (λ y.
    let p = both (leb r.left f.left && leb r.top f.top) (leb f.right r.right && leb f.bottom r.bottom) y in
    absurd (omega (arith, leb-true f.bottom r.bottom (both (leb f.right r.right) (leb f.bottom r.bottom) p.1).1)))
    (λ n. n)

-- one rect more ends at or above a row
pub above-next : (l : List Rect) (n row : ℕ) → Above l n row → (get_or l n none).bottom ≤ row → Above l (n + 1) row
above-next l n row a b j h =
    by_flag (ltb j n)
    (λ y. a j (ltb-true j n y))
    (λ m.
    let z : j ≡ n = omega (arith, ltb-false j n m) in
    subst (λ (k : ℕ). (get_or l k none).bottom ≤ row) (sym z) b)

pub without_above : (l : List Rect) (i row : ℕ) (o : Option Rect) → Above l i row → ((f : Rect) → o ≡ Some f → row < f.bottom) → WithoutAny l i o
without_above l i row None a b = tt
without_above l i row (Some f) a b = λ j h. above_apart (get_or l j none) f row (a j h) (b f refl)

-- a run whose first i rects are those of a slice of numbers
abbrev pub filled : List Rect → List ℕ → ℕ → List Rect
filled l d i = rects_of d i ++ drop i l

module _ (l : List Rect) (d : List ℕ) where
  pub filled_none : filled l d 0 ≡ l
  unfolding run
  filled_none = refl

  pub filled_next : (i : ℕ) → i < length l → set (filled l d i) i (rect_at d i) ≡ filled l d (i + 1)
  filled_next i h =
      let rest : List Rect = drop (suc i) l in
      ap (λ (t : List Rect). set (rects_of d i ++ t) i (rect_at d i)) (drop-cons l i none h)
      ∙ ap (λ (k : ℕ). set (rects_of d i ++ get_or l i none ∷ rest) k (rect_at d i)) (sym (length_run (rect_at d) 0 i))
      ∙ set-append_seam (rects_of d i) (get_or l i none) rest (rect_at d i)
      ∙ sym (ap (λ (t : List Rect). t ++ drop (i + 1) l) (build-next i (rect_at d)) ∙ append_assoc (rects_of d i) (rect_at d i ∷ []) (drop (i + 1) l) ∙ rw (add-one i))

  pub filled_take : (i : ℕ) → take i (filled l d i) ≡ rects_of d i
  filled_take i = take_at (rects_of d i) (drop i l) i (length_run (rect_at d) 0 i)
