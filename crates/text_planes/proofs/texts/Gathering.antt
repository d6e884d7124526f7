-- Texts that are being gathered, one behind the other.
use Rattle.std.specs.Prelude.{Ok, Err}
use mathlib.Core.Path.{◌≡◌, refl, sym, ap, ◌∙◌}
use mathlib.Core.List.{List, map}
use Prim.Native.Nat.{ℕ, suc, ◌+◌, ◌-◌, ◌*◌, ◌≤◌, ◌<◌}
use native.Mathlib.Numerals.{add-one}
use native.Mathlib.Omega.{arith}
use lib.Dec.{ltb}
use lib.ListN.{length, length-set}
use borrow.Author.Tests.{ltb-true, ltb-false}
use Rattle.lists.specs.Picture.{canvas}
use Rattle.lists.specs.Run.{run, build}
use Rattle.lists.proofs.RunLaws.{build-same, map-run}
use Rattle.lists.proofs.Tests.{by_flag}
use Rattle.model.specs.Limits.{text_bytes}
use Rattle.model.specs.declared.Refusal.{Refusal}
use Rattle.model.specs.declared.Refusal.TheVariants.{OverLimit}
use Rattle.cells.specs.rects.Rects.{rect_at, rects_in, RectIn}
use Rattle.cells.specs.declared.rects.list.Rects.{Rects}
use Rattle.text_planes.specs.texts.RegionText.{text_of, packed, texts_of}
use Rattle.cells.specs.Spans.{offset_at, length_at, text_at, texts_in}
use Rattle.text_planes.specs.texts.Spans.{SpansIn, Slices, WrittenTo}
use Rattle.text_planes.proofs.texts.BuildLaws.{build-next, grows}
use Rattle.text_planes.proofs.texts.SpanLaws.{spanned, offset-before, length_before, offset-here, length-here, text-before, text-here}
use Rattle.text_planes.proofs.texts.TextsLaws.{texts-all, texts_over, length_snoc}

-- the text of rect k
abbrev text : ℕ → ℕ → List ℕ → Rects → ℕ → List ℕ
text w h t rs k = text_of (canvas w h t) (rect_at rs.numbers.now k)

-- the bytes of the first k texts
abbrev size : ℕ → ℕ → List ℕ → Rects → ℕ → ℕ
size w h t rs k = length (packed (build k (text w h t rs)))

texts_built : (w h : ℕ) (t : List ℕ) (rs : Rects) → map (text_of (canvas w h t)) (rects_in rs) ≡ build rs.count (text w h t rs)
texts_built w h t rs = map-run (text_of (canvas w h t)) (rect_at rs.numbers.now) 0 rs.count

size-next : (w h : ℕ) (t : List ℕ) (rs : Rects) (k : ℕ) → size w h t rs (suc k) ≡ size w h t rs k + length (text w h t rs k)
size-next w h t rs k = rw (build-next (text w h t rs) k) (length_snoc (build k (text w h t rs)) (text w h t rs k))

size_grows : (w h : ℕ) (t : List ℕ) (rs : Rects) (k n : ℕ) → k ≤ n → size w h t rs k ≤ size w h t rs n
size_grows w h t rs = grows (text w h t rs) (λ ts. length (packed ts)) (λ ts x. omega (arith, length_snoc ts x))

-- the texts of the rects before k stand before `at`, each where its span tells
pub record Gathering (w h : ℕ) (t : List ℕ) (rs : Rects) (d s₀ out s : List ℕ) (k at : ℕ) : Type 0 where
  pub slices : Slices w h rs d s₀
  pub along : k ≤ rs.count
  pub room : at ≤ text_bytes
  pub sized : at ≡ size w h t rs k
  pub told : (j : ℕ) → j < k → text_at out s j ≡ text w h t rs j
  pub inside : (j : ℕ) → j < k → offset_at s j + length_at s j ≤ at
  pub long : length out ≡ length d
  pub spans : length s ≡ length s₀

pub gathering_start : {w h : ℕ} {t : List ℕ} {rs : Rects} {d s₀ : List ℕ} → Slices w h rs d s₀ → Gathering w h t rs d s₀ d s₀ 0 0
unfolding run packed
gathering_start g =
    record {
      slices = g;
      along = omega arith;
      room = omega arith;
      sized = refl;
      told = λ j u. absurd (omega arith);
      inside = λ j u. absurd (omega arith);
      long = refl;
      spans = refl;
    }

module _ {w h : ℕ} {t : List ℕ} {rs : Rects} {d s₀ out s : List ℕ} {k at : ℕ} (q : Gathering w h t rs d s₀ out s k at) where
  module _ (l : k < rs.count) where
    pub gathering_room : (k < rs.count) × RectIn w h (rect_at rs.numbers.now k) × (at ≤ text_bytes) × (text_bytes + 4 ≤ length out)
    gathering_room = (l, q.slices.inside k l, q.room, omega (arith, q.slices.bytes, q.long))

    -- its span has room
    here : k * 2 + 2 ≤ length s
    here = omega (arith, q.slices.spans, q.spans)

    pub gathering_over : {r : Refusal} → (text_bytes < at + length (text w h t rs k)) × (r ≡ OverLimit) → Err r ≡ texts_of (canvas w h t) (rects_in rs)
    gathering_over u =
        let b : text_bytes < size w h t rs rs.count = omega (arith, size_grows w h t rs (suc k) rs.count (omega arith), size-next w h t rs k, u.0, q.sized) in
        ap Err u.1 ∙ sym (texts_over (canvas w h t) (rects_in rs) (rw (texts_built w h t rs) b))

    module _ {o : List ℕ} {e : ℕ} (m : WrittenTo (text w h t rs k) out o at e) where
      pub gathering_back : at ≤ e
      gathering_back = omega (arith, m.ends)

      fits : at ≤ length out
      fits = omega (arith, gathering_room)

      more-told : (j : ℕ) → j < k + 1 → text_at o (spanned s k at (e - at)) j ≡ text w h t rs j
      more-told j v =
          let x : List ℕ = text w h t rs k in
          let z : e - at ≡ length x = omega (arith, m.ends) in
          by_flag (ltb j k)
          (λ f.
          let y = ltb-true j k f in
          rw (z, m.put) (text-before out s k at x fits j y (q.inside j y) ∙ q.told j y))
          (λ f.
          let y : j ≡ k = omega (arith, ltb-false j k f) in
          rw (y, z, m.put) (text-here out s k at x fits here))

      more-inside : (j : ℕ) → j < k + 1 → offset_at (spanned s k at (e - at)) j + length_at (spanned s k at (e - at)) j ≤ e
      more-inside j v =
          by_flag (ltb j k)
          (λ f.
          let y = ltb-true j k f in
          rw (offset-before s k at (e - at) j y, length_before s k at (e - at) j y) (omega (arith, q.inside j y, gathering_back)))
          (λ f.
          let y : j ≡ k = omega (arith, ltb-false j k f) in
          rw (y, offset-here s k at (e - at) here, length-here s k at (e - at) here) (omega (arith, gathering_back)))

      pub gathering_more : length o ≡ length out → Gathering w h t rs d s₀ o (spanned s k at (e - at)) (k + 1) e
      gathering_more g =
          record {
            slices = q.slices;
            along = omega arith;
            room = m.room;
            sized = rw (add-one k) (omega (arith, m.ends, q.sized, size-next w h t rs k));
            told = more-told;
            inside = more-inside;
            long = g ∙ q.long;
            spans = simp length-set q.spans;
          }

  module _ (l : rs.count ≤ k) where
    all : k ≡ rs.count
    all = omega (arith, q.along)

    all_told : texts_in out s rs.count ≡ build rs.count (text w h t rs)
    all_told = build-same rs.count (text_at out s) (text w h t rs) (λ j v. q.told j (omega (arith, all)))

    pub gathering_texts : Ok (texts_in out s rs.count) ≡ texts_of (canvas w h t) (rects_in rs)
    gathering_texts =
        let b : size w h t rs rs.count ≤ text_bytes = omega (arith, rw all at q.sized, q.room) in
        rw (all_told, ← texts_built w h t rs) (sym (texts-all (canvas w h t) (rects_in rs) (rw (texts_built w h t rs) b)))

    pub gathering_spans : SpansIn (Ok at) out s rs.count
    gathering_spans = (rw all_told (rw all at q.sized), (q.room, λ j v. q.inside j (omega (arith, all))))
