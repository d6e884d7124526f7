-- Corners that are being counted, and regions that are being added.
use Rattle.std.specs.Prelude.{Ok, Err, ℕ, cond}
use Rattle.std.specs.List.{filter}
use Rattle.std.proofs.lemmas.List.{length-take-le}
use mathlib.Core.Path.{◌≡◌, refl, sym, ap, ◌∙◌, subst}
use mathlib.Core.Bool.{Bool, true, false}
use mathlib.Core.List.{List, [], ◌∷◌, ◌++◌}
use Prim.Native.Nat.{ℕ, suc, ◌+◌, ◌-◌, ◌*◌, ◌/◌, ◌%◌, ◌≤◌, ◌<◌}
use native.Mathlib.Nat.{sub-zero, add-zero, zero-add}
use native.Mathlib.Omega.{arith}
use lib.ListN.{length, length-append, get_or, take}
use lib.Seq.{get_or-take}
use lib.Dec.{ltb}
use borrow.Author.Tests.{lt-ltb, le-ltb, ltb-true}
use Rattle.lists.specs.Answer.{◌>>=◌, each, those, Below}
use Rattle.lists.specs.Choose.{choose}
use Rattle.lists.specs.Picture.{Picture, canvas, at}
use Rattle.lists.specs.Run.{run}
use Rattle.lists.proofs.AnswerLaws.{refused-ok, then_ok, those-from, turn_on, turn_out, turn_end, each_below}
use Rattle.lists.proofs.PlaceLaws.{column_in, row_in_lem, at-canvas}
use Rattle.lists.proofs.RunLaws.{length_run}
use Rattle.model.specs.Limits.{region_count}
use Rattle.model.specs.Refusals.{Reading}
use Rattle.model.specs.declared.Rect.{Rect}
use Rattle.model.specs.declared.Refusal.{Refusal}
use Rattle.model.specs.declared.Refusal.TheVariants.{OverLimit}
use Rattle.walks.specs.Frame.{Kind, Place, rect_of, frame_of}
use Rattle.walks.proofs.FrameLaws.{accepted}
use Rattle.frames.specs.regions.Corners.{corner_in, NextCorner}
use Rattle.cells.specs.rects.Rects.{rect_at, rects_of, Small}
use Rattle.frames.specs.regions.Slices.{regions_in, SmallSizes}
use Rattle.frames.specs.regions.Regions.{Finder, is_corner, corners_of, add_region, regions_by}
use Rattle.frames.specs.regions.Within.{add_within}

-- whether a corner stands at a place
abbrev corner_at : Picture → ℕ → ℕ → Bool
corner_at p w i = is_corner (at p w i)

-- the corners from a place on
abbrev left : Picture → ℕ → ℕ → ℕ → List ℕ
left p w h i = those (corner_at p w) i (h * w - i)

start_left : (p : Picture) (w h : ℕ) → left p w h 0 ≡ corners_of p w h
start_left p w h = rw sub-zero

-- how many corners the characters of a picture have from place i on, which a list has
those-length : (p : Picture) (w i : ℕ) (xs : List ℕ) → ((j : ℕ) → j < length xs → at p w (i + j) ≡ get_or xs j 0)
    → length (filter is_corner xs) ≡ length (those (corner_at p w) i (length xs))
unfolding those
those-length p w i [] h = refl
those-length p w i (x ∷ xs) h =
    let e : at p w i ≡ x = rw (add-zero i) at (h 0 (omega arith)) in
    let next : (j : ℕ) → j < length xs → at p w (suc i + j) ≡ get_or xs j 0 = λ j l. let z : i + suc j ≡ suc i + j = omega arith in rw z at (h (suc j) (omega arith)) in
    rw e (go (is_corner x) _ _ (those-length p w (suc i) xs next))
  where
    go : (t : Bool) (a b : List ℕ) → length a ≡ length b → length (cond t (x ∷ a) a) ≡ length (choose t (i ∷ b) b)
    go true a b q = ap suc q
    go false a b q = q

pub corners-counted : (w h : ℕ) (l : List ℕ) → h * w ≤ length l → length (filter is_corner (take (h * w) l)) ≡ length (corners_of (canvas w h l) w h)
corners-counted w h l s =
    let d = take (h * w) l in
    let n : length d ≡ h * w = length-take-le (h * w) l s in
    let same : (j : ℕ) → j < length d → at (canvas w h l) w (0 + j) ≡ get_or d j 0 = λ j b. rw (zero-add j) (at-canvas w h j (omega (arith, n)) l ∙ sym (get_or-take (h * w) l j 0 (omega (arith, n)))) in
    those-length (canvas w h l) w 0 d same ∙ ap (λ (m : ℕ). length (those (corner_at (canvas w h l) w) 0 m)) n

-- a place of a layer
pub place_of : (w h i : ℕ) → (l : i < h * w) → Place w h (i % w) (i / w)
place_of w h i l = record { column = column_in w h i l; row = row_in_lem w h i l }

-- the numbers of a frame fit
pub frame_small : (K : Kind) (p : Picture) (w h x y : ℕ) (r : Rect) → SmallSizes w h → Place w h x y → frame_of K p w h x y ≡ Ok r → Small r
frame_small K p w h x y r L P e =
    let F = accepted K p w h x y r e in
    let f = F.frame in
    let s : Small (rect_of x y F.bx F.by) = record {
      left = omega (arith, P.column, L.columns);
      top = omega (arith, P.row, L.rows);
      right = omega (arith, f.column, L.columns);
      bottom = omega (arith, f.row, L.rows);
    } in
    subst Small (sym F.is) s

-- the next corner of a layer is that of its canvas
corner-canvas : (l : List ℕ) (w h i k : ℕ) → NextCorner (corner_in l) (h * w) i k → NextCorner (corner_at (canvas w h l) w) (h * w) i k
corner-canvas l w h i k q =
    record {
      from = q.from;
      to = q.to;
      clear = λ j a b. ap is_corner (at-canvas w h j (omega (arith, q.to)) l) ∙ q.clear j a b;
      found = λ b. ap is_corner (at-canvas w h k b l) ∙ q.found b;
    }

-- and none stands before it
skipped : (p : Picture) (w h i k : ℕ) → NextCorner (corner_at p w) (h * w) i k → left p w h k ≡ left p w h i
skipped p w h i k q = sym (those-from (corner_at p w) (h * w) i k q.from q.to q.clear)

-- the regions of a layer's corners before place i are added, which are n, and the next corner stands there
pub record Adding (find : Finder) (l : List ℕ) (w h : ℕ) (d out : List ℕ) (i n : ℕ) : Type 0 where
  pub starts : i < h * w → corner_at (canvas w h l) w i ≡ true
  pub same : each (add_within find w) (left (canvas w h l) w h i) (rects_of out n) ≡ each (add_within find w) (corners_of (canvas w h l) w h) []
  pub long : length out ≡ length d

pub adding_start : (find : Finder) (l : List ℕ) (w h : ℕ) (d : List ℕ) (i : ℕ) → NextCorner (corner_in l) (h * w) 0 i → Adding find l w h d d i 0
unfolding run
adding_start find l w h d i u =
    let p = canvas w h l in
    let c = corner-canvas l w h 0 i u in
    record {
      starts = c.found;
      same = ap (λ (cs : List ℕ). each (add_within find w) cs []) (skipped p w h 0 i c ∙ start_left p w h);
      long = refl;
    }

module _ {find : Finder} {l : List ℕ} {w h : ℕ} {d out : List ℕ} {i n : ℕ} (q : Adding find l w h d out i n) where
  abbrev p : Picture
  p = canvas w h l

  module _ (g : i < h * w) (r : Reading ℕ) (o : List ℕ) (e : regions_in r o ≡ add_within find w i (rects_of out n)) where
    added : {m : (Reading ℕ)} → r ≡ m → choose (corner_at p w i) (add_within find w i (rects_of out n)) (Ok (rects_of out n)) ≡ regions_in m o
    added z = rw (q.starts g) (sym e ∙ ap (λ (x : Reading ℕ). regions_in x o) z)

    pub adding_more : (m : ℕ) → r ≡ Ok m → length o ≡ length out → (k : ℕ) → NextCorner (corner_in l) (h * w) (i + 1) k → Adding find l w h d o k m
    adding_more m f z k u =
        let c = corner-canvas l w h (i + 1) k u in
        record {
          starts = c.found;
          same = ap (λ (cs : List ℕ). each (add_within find w) cs (rects_of o m)) (skipped p w h (i + 1) k c)
              ∙ sym (turn_on (add_within find w) (corner_at p w) i (h * w) (rects_of out n) (rects_of o m) g (added f)) ∙ q.same;
          long = z ∙ q.long;
        }

    pub adding_out : (f : Refusal) → r ≡ Err f → Err f ≡ each (add_within find w) (corners_of p w h) []
    adding_out f z = sym (turn_out (add_within find w) (corner_at p w) i (h * w) (rects_of out n) f g (added z)) ∙ q.same

  pub adding_end : h * w ≤ i → Ok (rects_of out n) ≡ each (add_within find w) (corners_of p w h) []
  adding_end g = sym (turn_end (add_within find w) (corner_at p w) i (h * w) (rects_of out n) g) ∙ q.same

-- a step where there is room, and where there is none
module _ (find : Finder) (w i : ℕ) (d : List ℕ) (n : ℕ) where
  pub has_room : n < region_count → add_within find w i (rects_of d n) ≡ add_region find w i (rects_of d n)
  has_room l = rw (length_run (rect_at d) 0 n, lt-ltb n region_count l)

  pub no_room : region_count ≤ n → add_within find w i (rects_of d n) ≡ Err OverLimit
  no_room l = rw (length_run (rect_at d) 0 n, le-ltb n region_count l)

module _ (find : Finder) (w : ℕ) where
  -- what was added within the limit is added without it
  step_below : (t : Bool) (m : Reading (List Rect)) → Below (choose t m (Err OverLimit)) m
  step_below true m = λ a e. e
  step_below false m = λ a e. refused-ok e

  within_below : (cs : List ℕ) (rs : List Rect) → Below (each (add_within find w) cs rs) (each (add_region find w) cs rs)
  within_below = each_below (add_within find w) (add_region find w) (λ i rs. step_below (ltb (length rs) region_count) (add_region find w i rs))

  one_more : (t : Bool) (m : Reading Rect) (rs rs' : List Rect) → choose t (◌>>=◌ m (λ r. Ok (rs ++ (r ∷ [])))) (Err OverLimit) ≡ Ok rs'
      → (t ≡ true) × (length rs' ≡ length rs + 1)
  one_more true (Ok r) rs rs' e =
      let z : rs ++ (r ∷ []) ≡ rs' = cc in
      (refl, ap length (sym z) ∙ length-append rs (r ∷ []))
  one_more true (Err r) rs rs' e = refused-ok e
  one_more false m rs rs' e = refused-ok e

  -- and the corners were no more than there may be regions
  within-few : (cs : List ℕ) (rs rs' : List Rect) → each (add_within find w) cs rs ≡ Ok rs' → length rs ≤ region_count → length rs + length cs ≤ region_count
  unfolding each
  within-few [] rs rs' e h = omega arith
  within-few (i ∷ cs) rs rs' e h =
      let s = then_ok (add_within find w i rs) (each (add_within find w) cs) rs' e in
      let o = one_more (ltb (length rs) region_count) (find (i % w) (i / w)) rs s.0 s.1 in
      let l : length rs < region_count = ltb-true (length rs) region_count o.0 in
      let k = within-few cs s.0 rs' s.2 (omega (arith, o.1)) in
      omega (arith, o.1)

  -- where the corners are few enough the limit changes nothing
  on : (m : Reading Rect) (cs : List ℕ) (rs : List Rect) → ((r : Rect) → each (add_within find w) cs (rs ++ (r ∷ [])) ≡ each (add_region find w) cs (rs ++ (r ∷ [])))
      → ◌>>=◌ (◌>>=◌ m (λ r. Ok (rs ++ (r ∷ [])))) (each (add_within find w) cs) ≡ ◌>>=◌ (◌>>=◌ m (λ r. Ok (rs ++ (r ∷ [])))) (each (add_region find w) cs)
  on (Ok r) cs rs h = h r
  on (Err r) cs rs h = refl

  few-within : (cs : List ℕ) (rs : List Rect) → length rs + length cs ≤ region_count → each (add_within find w) cs rs ≡ each (add_region find w) cs rs
  unfolding each
  few-within [] rs h = refl
  few-within (i ∷ cs) rs h =
      let l : length rs < region_count = omega arith in
      rw (lt-ltb (length rs) region_count l)
      (on (find (i % w) (i / w)) cs rs (λ r. few-within cs (rs ++ (r ∷ [])) (let k = length-append rs (r ∷ []) in omega arith)))

-- more corners than there may be regions
module _ (find : Finder) (p : Picture) (w h : ℕ) where
  pub too_many : region_count < length (corners_of p w h) → Err OverLimit ≡ regions_by find p w h
  unfolding regions_by
  too_many l = rw (lt-ltb region_count (length (corners_of p w h)) l)

  pub few_enough : length (corners_of p w h) ≤ region_count → each (add_region find w) (corners_of p w h) [] ≡ regions_by find p w h
  unfolding regions_by
  few_enough l = rw (le-ltb region_count (length (corners_of p w h)) l)

  pub within_all : (rs : List Rect) → Ok rs ≡ each (add_within find w) (corners_of p w h) [] → Ok rs ≡ regions_by find p w h
  within_all rs e =
      let l = within-few find w (corners_of p w h) [] rs (sym e) (omega arith) in
      sym (within_below find w (corners_of p w h) [] rs (sym e)) ∙ few_enough (omega arith)

  pub within-out : (r : Refusal) → length (corners_of p w h) ≤ region_count → Err r ≡ each (add_within find w) (corners_of p w h) [] → Err r ≡ regions_by find p w h
  within-out r l e = e ∙ few-within find w (corners_of p w h) [] (omega arith) ∙ few_enough l
