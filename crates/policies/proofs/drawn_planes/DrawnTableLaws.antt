-- The table of a drawing, from its outline, its layers and its plane.
use Rattle.std.specs.Prelude.{Ok, Err, Some}
use mathlib.Core.Path.{◌≡◌, refl, sym, ap, ◌∙◌}
use mathlib.Core.Bool.{Bool, true, false}
use mathlib.Core.List.{List, [], ◌∷◌, map}
use Prim.Native.Nat.{ℕ, ◌+◌, ◌-◌, ◌*◌, ◌/◌, ◌≤◌, ◌<◌}
use native.Mathlib.Omega.{arith}
use lib.Dec.{ltb}
use lib.ListN.{length, get_or, take, drop, length-take}
use Rattle.lists.specs.Answer.{◌>>=◌}
use Rattle.lists.specs.Picture.{Picture, canvas}
use Rattle.lists.proofs.AnswerLaws.{then_ok}
use Rattle.lists.proofs.Parts.{part_part}
use Rattle.lists.proofs.RunLaws.{build-same, length_run}
use Rattle.lists.proofs.Tests.{by_flag, true_false}
use Rattle.model.specs.Limits.{canvas_size, region_count, text_bytes}
use Rattle.model.specs.Refusals.{Reading}
use Rattle.model.specs.declared.Rect.{Rect}
use Rattle.model.specs.declared.Refusal.{Refusal}
use Rattle.cells.specs.Held.{Held}
use Rattle.cells.specs.Plane.{TextPlane, plane_in}
use Rattle.cells.specs.Spans.{offset_at, length_at, text_at, texts_in}
use Rattle.frames.specs.Body.{body_of}
use Rattle.frames.specs.outline.Outline.{search_of, named_by, named_of, table_of, outline_by, outline_of}
use Rattle.frames.specs.declared.outline.Outline.{Outline}
use Rattle.scan.specs.sheet_rows.Rows.{rows_at, widest}
use Rattle.scan.proofs.Answers.{fits-size}
use Rattle.text_planes.specs.texts.RegionText.{text_of}
use Rattle.text_planes.proofs.texts.TextsLaws.{texts_are}
use Rattle.walks.specs.Frame.{frame_of}
use Rattle.walks.specs.Kinds as kind
use Rattle.canvas.specs.Drawn.{Shown, Room}
use Rattle.text_planes.specs.DrawnPlane.{text_plane_of, PlaneRoom}
use Rattle.canvas.specs.Layers.{text_layer, drawing_of, sheet_of}
use Rattle.text_planes.proofs.NameIsFirstRegion.{name_is_first_region}
use Rattle.recognizer.specs.StatedPolicy.{stated_policy}
use Rattle.recognizer.specs.tables.NamedTable.{name_of, NameIn}
use Rattle.policies.specs.DrawnPolicy.{drawn_plane_by, name_by, policy_by, walked_policy}
use Rattle.policies.specs.LentPolicy.{text_in}
use Rattle.policies.proofs.DrawnWithin.{read, gathered}
use Rattle.policies.proofs.SheetDrawn.{drawn-fits, drawn_outline, sheet-drawn}
use Rattle.policies.specs.drawn_planes.DrawnTable.{NamedPlane, named_plane, named_policy}

ok_same : {A : Type 0} {a b : A} → ◌≡◌ {A = Reading A} (Ok a) (Ok b) → a ≡ b
ok_same e = cc

-- where there is a name, its frame was found
named-frame : (p : Picture) (w h row : ℕ) → named_of p w h row ≡ Ok true → (r : Rect) × (frame_of kind.name p w h 0 0 ≡ Ok r)
unfolding named_by
named-frame p w h row e =
    by_flag (ltb 0 row)
    (λ t. let a = then_ok (frame_of kind.name p w h 0 0) (λ _. Ok true) true (rw t at e) in (a.0, a.1))
    (λ t. let z : ◌≡◌ {A = Reading Bool} (Ok false) (Ok true) = rw t at e in true_false {t = false} (let q : false ≡ true = cc in q) refl)

outline_frame : (p : Picture) (w h : ℕ) (o : Outline) → outline_of p w h ≡ Ok o → o.named ≡ true → (r : Rect) × (frame_of kind.name p w h 0 0 ≡ Ok r)
unfolding outline_by table_of
outline_frame p w h o e n =
    let a = then_ok (search_of _ p w h) _ o e in
    let b = then_ok (search_of _ p w h) _ o a.2 in
    let c = then_ok (named_of p w h (b.0 / w)) _ o b.2 in
    let d = then_ok (search_of _ p w h) _ o c.2 in
    let f = then_ok (body_of p w h _ _) _ o d.2 in
    let z : c.0 ≡ true = ap (λ (x : Outline). x.named) (ok_same f.2) ∙ n in
    named-frame p w h (b.0 / w) (c.1 ∙ ap Ok z)

-- the name's frame, whose text is the first region's
record NameFirst (rs : List (List ℕ)) (t : TextPlane) : Type 0 where
  frame : Rect
  found : frame_of kind.name (text_layer rs) (widest rs) (length rs) 0 0 ≡ Ok frame
  others : List (List ℕ)
  texts : t.texts ≡ text_of (text_layer rs) frame ∷ others

name-first : (rs : List (List ℕ)) (o : Outline) (t : TextPlane) → drawing_of rs ≡ Ok o → o.named ≡ true → drawn_plane_by frame_of rs o ≡ Ok t → NameFirst rs t
name-first rs o t e n f =
    let p = text_layer rs in
    let g = outline_frame p (widest rs) (length rs) o (drawn_outline frame_of rs o e) n in
    let q = read rs o t f in
    let a = gathered rs o t f in
    let r = name_is_first_region p (widest rs) (length rs) g.0 g.1 q.0.rects a.0 in
    record {
      frame = g.0;
      found = g.1;
      others = map (text_of p) r.0;
      texts = sym q.3 ∙ sym (texts_are p q.0.rects q.0.texts a.1).1 ∙ ap (map (text_of p)) r.1;
    }

-- a drawing's name is its first region's text
name-read : (rs : List (List ℕ)) (o : Outline) (t : TextPlane) → drawing_of rs ≡ Ok o → drawn_plane_by frame_of rs o ≡ Ok t
    → name_by frame_of rs o.named ≡ Ok (name_of o.named (text_in t))
name-read rs o t e f = go o.named refl
  where
    go : (n : Bool) → o.named ≡ n → name_by frame_of rs n ≡ Ok (name_of n (text_in t))
    go true q =
        let m = name-first rs o t e q f in
        rw m.found (ap (λ (ts : List (List ℕ)). Ok (Some (get_or ts 0 []))) (sym m.texts))
    go false q = refl

-- a drawing with a name has a region
some-text : (rs : List (List ℕ)) (o : Outline) (t : TextPlane) → drawing_of rs ≡ Ok o → o.named ≡ true → drawn_plane_by frame_of rs o ≡ Ok t → 0 < length t.texts
some-text rs o t e n f = omega (arith, ap length (name-first rs o t e n f).texts)

-- texts that lie in the front of the bytes
front_part : (bytes : List ℕ) (m a n : ℕ) → a + n ≤ length (take m bytes) → take n (drop a (take m bytes)) ≡ take n (drop a bytes)
front_part bytes m a n h =
    let l : a + n ≤ m = omega (arith, length-take m bytes) in
    let x : 0 + (a + n) - (0 + a) ≡ n = omega arith in
    let y : 0 + a ≡ a = omega arith in
    let z : a + n - a ≡ n = omega arith in
    sym (rw (x, y, z) at (part_part bytes 0 m a (a + n) (omega arith) l))

front_texts : {d : List ℕ} {n : ℕ} (bytes ss : List ℕ) (count : ℕ) → Held d n (take text_bytes bytes) ss count → texts_in (take text_bytes bytes) ss count ≡ texts_in bytes ss count
front_texts bytes ss count h =
    build-same count (text_at (take text_bytes bytes) ss) (text_at bytes ss) (λ k l. front_part bytes text_bytes (offset_at ss k) (length_at ss k) (h.inside k l))

-- a sheet that is drawn, with its layers
module _ (s : List ℕ) (o : Outline) (e : Ok o ≡ sheet_of s) {h w : ℕ} {t m b g : List ℕ} (l : Shown (rows_at s 0) h w o.body t m b g) where
  size_in : (w ≤ 160) × (h ≤ 96) × (h * w ≤ canvas_size)
  size_in =
      let f = fits-size (rows_at s 0) (drawn-fits frame_of (rows_at s 0) o (sheet-drawn frame_of s o (sym e))) in
      (rw l.columns f.0, rw l.rows f.1, rw (l.rows, l.columns) f.2)

  pub grid_in : {n : ℕ} → canvas_size ≤ n → h * w ≤ n
  grid_in q = omega (arith, size_in)

  pub plane-room : {bytes spans : List ℕ} → Room t m b g → text_bytes + 4 ≤ length bytes → region_count * 2 ≤ length spans → PlaneRoom w h t m b bytes spans
  plane-room a x y =
      let q = size_in in
      record {
        small = record { columns = omega arith; rows = omega arith };
        text = omega (arith, a.text);
        thin = omega (arith, a.thin);
        four_each = omega (arith, a.body);
        all_texts = x;
        two_each = y;
        plane = omega (arith, a.text);
      }

  -- its plane
  as_drawn : text_plane_of o (canvas w h t) (canvas w h m) (canvas w h g) w h ≡ drawn_plane_by frame_of (rows_at s 0) o
  as_drawn = rw (l.text, l.thin, l.grid, l.columns, l.rows)

  pub no_plane : (r : Refusal) → Err r ≡ text_plane_of o (canvas w h t) (canvas w h m) (canvas w h g) w h → Err r ≡ named_plane s
  unfolding named_plane
  no_plane r q = rw (← e, ← as_drawn, ← q)

  module _ (d : List ℕ) (n : ℕ) (bytes ss : List ℕ) (count : ℕ) (k : Held d n (take text_bytes bytes) ss count)
      (q : Ok (record { plane = plane_in d n; texts = texts_in bytes ss count }) ≡ text_plane_of o (canvas w h t) (canvas w h m) (canvas w h g) w h) where
    pub with_plane : Ok (record { named = o.named; read = record { plane = plane_in d n; texts = texts_in (take text_bytes bytes) ss count } }) ≡ named_plane s
    unfolding named_plane
    with_plane = rw (front_texts bytes ss count k, ← e, ← as_drawn, ← q)

    pub name_in : NameIn o.named count
    name_in c =
        let x = some-text (rows_at s 0) o (record { plane = plane_in d n; texts = texts_in bytes ss count }) (sheet-drawn frame_of s o (sym e)) c (sym (q ∙ as_drawn)) in
        omega (arith, length_run (text_at bytes ss) 0 count)

pub not_drawn : (s : List ℕ) (r : Refusal) → Err r ≡ sheet_of s → Err r ≡ named_plane s
unfolding named_plane
not_drawn s r e = rw (← e)

-- a drawing states what its plane does
pub first-region : (s : List ℕ) → walked_policy s ≡ named_policy (named_plane s)
unfolding policy_by named_plane
first-region s = go (sheet_of s) refl
  where
    planed : (o : Outline) → sheet_of s ≡ Ok o → (m : Reading TextPlane) → drawn_plane_by frame_of (rows_at s 0) o ≡ m
        → ◌>>=◌ m (λ t. ◌>>=◌ (name_by frame_of (rows_at s 0) o.named) (λ name. stated_policy name (text_in t) t.plane))
        ≡ ◌>>=◌ (◌>>=◌ {B = NamedPlane} m (λ t. Ok (record { named = o.named; read = t }))) (λ p. stated_policy (name_of p.named (text_in p.read)) (text_in p.read) p.read.plane)
    planed o e (Ok t) f = rw (name-read (rows_at s 0) o t (sheet-drawn frame_of s o e) f)
    planed o e (Err r) f = refl

    go : (m : Reading Outline) → sheet_of s ≡ m
        → ◌>>=◌ m (λ o. ◌>>=◌ (drawn_plane_by frame_of (rows_at s 0) o) (λ t. ◌>>=◌ (name_by frame_of (rows_at s 0) o.named) (λ name. stated_policy name (text_in t) t.plane)))
        ≡ ◌>>=◌ (◌>>=◌ {B = NamedPlane} m (λ o. ◌>>=◌ (drawn_plane_by frame_of (rows_at s 0) o) (λ t. Ok (record { named = o.named; read = t }))))
        (λ p. stated_policy (name_of p.named (text_in p.read)) (text_in p.read) p.read.plane)
    go (Ok o) e = planed o e (drawn_plane_by frame_of (rows_at s 0) o) refl
    go (Err r) e = refl
