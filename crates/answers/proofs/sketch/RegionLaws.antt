-- Regions that are being printed.
use mathlib.Core.Bool.{Bool, true, false}
use mathlib.Core.Path.{◌≡◌, refl, sym, ap, ◌∙◌}
use mathlib.Core.List.{List, [], ◌∷◌, ◌++◌, append_assoc, append-nil}
use Prim.Native.Nat.{ℕ, zero, suc, ◌+◌, ◌*◌, ◌≤◌, ◌<◌}
use native.Mathlib.Numerals.{add-one}
use native.Mathlib.Omega.{arith}
use lib.ListN.{length, drop, length-drop}
use lib.Seq.{length-take-le}
use Rattle.lists.specs.Run.{run, build}
use Rattle.lists.proofs.RunLaws.{length_run}
use Rattle.model.specs.Limits.{text_bytes}
use Rattle.model.specs.declared.Rect.{Rect}
use Rattle.cells.specs.rects.Rects.{rect_at, rects_in, rects_of}
use Rattle.cells.specs.declared.rects.list.Rects.{Rects}
use Rattle.text_planes.specs.texts.RegionText.{packed}
use Rattle.cells.specs.Slices.{texts_of}
use Rattle.cells.specs.Spans.{offset_at, length_at, text_at, texts_in}
use Rattle.cells.specs.declared.texts.Texts.{Texts}
use Rattle.text_planes.proofs.texts.BuildLaws.{build-next, grows}
use Rattle.text_planes.proofs.texts.TextsLaws.{length_snoc}
use Rattle.print.specs.Decimal.{Written}
use Rattle.print.specs.Lines.{line_feed, count_line}
use Rattle.print.proofs.WrittenLaws.{written_nil, written_then, written_long, written_within, written_as}
use Rattle.answers.specs.sketch.Drawings.{region_line, region_lines, regions_word, counted_lines, region_bytes, name_word, no_name_line, name_line}
use Rattle.answers.specs.sketch.Printable.{Few, Regions}

-- one region more
lines_snoc : (rs : List Rect) (ts : List (List ℕ)) (r : Rect) (t : List ℕ) → length rs ≡ length ts
    → region_lines (rs ++ (r ∷ [])) (ts ++ (t ∷ [])) ≡ region_lines rs ts ++ region_line r t
unfolding region_lines
lines_snoc [] [] r t e = append-nil (region_line r t)
lines_snoc [] (u ∷ ts) r t e = absurd (omega (arith, e))
lines_snoc (q ∷ rs) [] r t e = absurd (omega (arith, e))
lines_snoc (q ∷ rs) (u ∷ ts) r t e =
    ap (λ (l : List ℕ). region_line q u ++ l) (lines_snoc rs ts r t (omega (arith, e))) ∙ sym (append_assoc (region_line q u) (region_lines rs ts) (region_line r t))

lines_next : (f : ℕ → Rect) (g : ℕ → List ℕ) (k : ℕ) → region_lines (build (suc k) f) (build (suc k) g) ≡ region_lines (build k f) (build k g) ++ region_line (f k) (g k)
lines_next f g k =
    rw (build-next f k, build-next g k)
    (lines_snoc (build k f) (build k g) (f k) (g k) (length_run f 0 k ∙ sym (length_run g 0 k)))

-- the bytes of the first k texts
abbrev size : Texts → ℕ → ℕ
size t k = length (packed (texts_in t.bytes.now t.spans.now k))

size-next : (t : Texts) (k : ℕ) → size t (suc k) ≡ size t k + length (text_at t.bytes.now t.spans.now k)
size-next t k =
    let f = text_at t.bytes.now t.spans.now in
    rw (build-next f k) (length_snoc (build k f) (f k))

size_grows : (t : Texts) (k n : ℕ) → k ≤ n → size t k ≤ size t n
size_grows t = grows (text_at t.bytes.now t.spans.now) (λ ts. length (packed ts)) (λ ts x. omega (arith, length_snoc ts x))

pub length-text : (t : Texts) (k : ℕ) → k < t.count → length (text_at t.bytes.now t.spans.now k) ≡ length_at t.spans.now k
length-text t k h =
    length-take-le (length_at t.spans.now k) (drop (offset_at t.spans.now k) t.bytes.now) (omega (arith, length-drop (offset_at t.spans.now k) t.bytes.now, t.held.inside k h))

-- a text and a line feed
pub written_text : (t : Texts) (k : ℕ) {x d o e : List ℕ} → k < t.count → x ≡ text_at t.bytes.now t.spans.now k
    → Written d o x (length x) → Written o e (line_feed ∷ []) 1
    → Written d e (text_at t.bytes.now t.spans.now k ++ (line_feed ∷ [])) (length_at t.spans.now k + 1)
written_text t k {x} {d} {o} h q u v =
    let w : Written d o (text_at t.bytes.now t.spans.now k) (length (text_at t.bytes.now t.spans.now k)) = rw q at u in
    written_within (written_then w v) (omega (arith, length-text t k h))

-- a text is no longer than all texts together
pub text-short : (t : Texts) (k : ℕ) → Few t → k < t.count → size t k + length_at t.spans.now k ≤ text_bytes
text-short t k few h =
    omega (arith, size-next t k, size_grows t (suc k) t.count (omega arith), few, length-text t k h)

-- the first k regions are written behind o₀
pub record Listing (o₀ : List ℕ) (rs : Rects) (t : Texts) (o : List ℕ) (k : ℕ) : Type 0 where
  pub along : k ≤ t.count
  pub written : Written o₀ o (region_lines (rects_of rs.numbers.now k) (texts_in t.bytes.now t.spans.now k)) (85 * k + size t k)

pub listing_start : (o : List ℕ) (rs : Rects) (t : Texts) → Listing o rs t o 0
unfolding run region_lines packed
listing_start o rs t = record { along = omega arith; written = written_nil o }

module _ {o₀ : List ℕ} {rs : Rects} {t : Texts} {o : List ℕ} {k : ℕ} (q : Listing o₀ rs t o k) (g : Regions rs t) (h : k < t.count) where
  pub listing_room : {most : ℕ} → length o₀ + 148480 ≤ most → (length o + 85 + length_at t.spans.now k ≤ most) × (k < rs.count) × (k < t.count)
  listing_room room = (omega (arith, written_long q.written, room, g.count, text-short t k g.few h), omega (arith, g.same), h)

  pub listing_more : {e : List ℕ} → Written o e (region_line (rect_at rs.numbers.now k) (text_at t.bytes.now t.spans.now k)) (85 + length_at t.spans.now k)
      → Listing o₀ rs t e (k + 1)
  listing_more {e} u =
      let z : region_lines (rects_of rs.numbers.now k) (texts_in t.bytes.now t.spans.now k) ++ region_line (rect_at rs.numbers.now k) (text_at t.bytes.now t.spans.now k) ≡ region_lines (rects_of rs.numbers.now (k + 1)) (texts_in t.bytes.now t.spans.now (k + 1)) =
      rw (add-one k) (sym (lines_next (rect_at rs.numbers.now) (text_at t.bytes.now t.spans.now) k)) in
      let a : size t (k + 1) ≡ size t k + length (text_at t.bytes.now t.spans.now k) = rw (add-one k) (size-next t k) in
      record { along = omega arith; written = written_within (written_as (written_then q.written u) z) (omega (arith, length-text t k h)) }

-- all regions are written
pub listing_end : {o₀ : List ℕ} {rs : Rects} {t : Texts} {o d : List ℕ} {k : ℕ} → Listing o₀ rs t o k → Regions rs t → t.count ≤ k
    → Written d o₀ (count_line regions_word t.count) 29 → Written d o (counted_lines (rects_in rs) (texts_of t)) region_bytes
unfolding counted_lines
listing_end {o₀} {rs} {t} {o} {d} {k} q g h u =
    let b = q.along in
    let l : List ℕ = rs.numbers.now in
    let z : k ≡ t.count = omega arith in
    let s : size t k ≤ text_bytes = rw z g.few in
    let e : rects_of l k ≡ rects_in rs = ap (rects_of l) (z ∙ sym g.same) in
    let m : length (rects_in rs) ≡ t.count = length_run (rect_at l) 0 rs.count ∙ g.same in
    let x : count_line regions_word t.count ++ region_lines (rects_of l k) (texts_in t.bytes.now t.spans.now k) ≡ count_line regions_word (length (rects_in rs)) ++ region_lines (rects_in rs) (texts_of t) =
    rw (e, z, m) in
    written_within (written_as (written_then u q.written) x) (omega (arith, g.count))

-- the line of a name
pub unnamed : (ts : List (List ℕ)) (named : Bool) → named ≡ false → no_name_line ≡ name_line named ts
unfolding name_line
unnamed ts named e = rw e

pub no_regions : (t : Texts) (named : Bool) → t.count ≡ 0 → no_name_line ≡ name_line named (texts_of t)
unfolding name_line run
no_regions t true e = rw e
no_regions t false e = refl

first : (f : ℕ → List ℕ) (n : ℕ) → 0 < n → name_word ++ (f 0 ++ (line_feed ∷ [])) ≡ name_line true (build n f)
unfolding name_line run
first f zero h = absurd (omega arith)
first f (suc n) h = refl

pub first-text : (t : Texts) (named : Bool) → named ≡ true → 0 < t.count → name_word ++ (text_at t.bytes.now t.spans.now 0 ++ (line_feed ∷ [])) ≡ name_line named (texts_of t)
first-text t named e h = rw e (first (text_at t.bytes.now t.spans.now) t.count h)
