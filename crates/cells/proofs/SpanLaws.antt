-- A text's part of the bytes, the text of a region, and texts filled in one by one.
use mathlib.Core.Path.{◌≡◌, refl, sym, ◌∙◌, subst}
use mathlib.Core.List.{List, []}
use mathlib.Core.Logic.{⊎_elim}
use Prim.Native.Nat.{ℕ, ◌+◌, ◌-◌, ◌*◌, ◌≤◌, ◌<◌}
use native.Mathlib.Nat.{eq-or-lt_of_le}
use native.Mathlib.Omega.{arith}
use lib.ListN.{length, get_or, take, drop, set, length-set}
use lib.Seq.{get_or-set_same, get_or-set_other, lt-length-set}
use Rattle.lists.specs.Run.{run, build}
use Rattle.lists.proofs.RunLaws.{build-next, build-same, get_or-build}
use Rattle.cells.specs.Spans.{offset_at, length_at, text_at, texts_in, text_in}

pub part_of_lem : (bytes : List ℕ) (offset n : ℕ) → take (offset + n - offset) (drop offset bytes) ≡ take n (drop offset bytes)
part_of_lem bytes offset n = let e : offset + n - offset ≡ n = omega arith in rw e

-- the text of one of n regions
pub text_in_lem : (bytes spans : List ℕ) (n k : ℕ) → k < n → text_in bytes spans n k ≡ text_at bytes spans k
text_in_lem bytes spans n k h = get_or-build n (text_at bytes spans) k [] h

-- the slice d', which was d, has g 0, .., g (n - 1) as texts of the bytes
pub record SpansFilled (g : ℕ → List ℕ) (bytes d d' : List ℕ) (n : ℕ) : Type 0 where
  pub same : length d' ≡ length d
  pub texts : texts_in bytes d' n ≡ build n g
  pub inside : (k : ℕ) → k < n → offset_at d' k + length_at d' k ≤ length bytes

module _ (d : List ℕ) (n from size : ℕ) where
  abbrev span_put : List ℕ
  span_put = set (set d (n * 2) from) (n * 2 + 1) size

  put-offset : n * 2 < length d → offset_at span_put n ≡ from
  put-offset h = get_or-set_other (set d (n * 2) from) (n * 2 + 1) (n * 2) size 0 (λ z. absurd (omega arith)) ∙ get_or-set_same d (n * 2) from 0 h

  put-length : n * 2 + 1 < length d → length_at span_put n ≡ size
  put-length h = get_or-set_same (set d (n * 2) from) (n * 2 + 1) size 0 (lt-length-set d (n * 2) from h)

  put_beside : (j : ℕ) → j < n * 2 → get_or span_put j 0 ≡ get_or d j 0
  put_beside j h =
      get_or-set_other (set d (n * 2) from) (n * 2 + 1) j size 0 (λ z. absurd (omega arith)) ∙ get_or-set_other d (n * 2) j from 0 (λ z. absurd (omega arith))

module _ (g : ℕ → List ℕ) (bytes d : List ℕ) where
  pub spans-start : SpansFilled g bytes d d 0
  unfolding run
  spans-start = record { same = refl; texts = refl; inside = λ k l. absurd (omega arith) }

  pub spans-next : (d' : List ℕ) (n from size : ℕ) → SpansFilled g bytes d d' n → n * 2 + 1 < length d → from + size ≤ length bytes
      → take size (drop from bytes) ≡ g n → SpansFilled g bytes d (set (set d' (n * 2) from) (n * 2 + 1) size) (n + 1)
  spans-next d' n from size f h l e =
      let s = span_put d' n from size in
      let o : offset_at s n ≡ from = put-offset d' n from size (omega (arith, f.same)) in
      let z : length_at s n ≡ size = put-length d' n from size (omega (arith, f.same)) in
      let oj : (j : ℕ) → j < n → offset_at s j ≡ offset_at d' j = λ j k. put_beside d' n from size (j * 2) (omega arith) in
      let zj : (j : ℕ) → j < n → length_at s j ≡ length_at d' j = λ j k. put_beside d' n from size (j * 2 + 1) (omega arith) in
      let t : texts_in bytes s n ≡ texts_in bytes d' n = build-same n (text_at bytes s) (text_at bytes d') (λ j k. rw (oj j k, zj j k)) in
      let u : text_at bytes s n ≡ g n = rw (o, z) e in
      record {
        same = length-set (set d' (n * 2) from) (n * 2 + 1) size ∙ length-set d' (n * 2) from ∙ f.same;
        texts = build-next n (text_at bytes s) ∙ rw (t, f.texts, u) (sym (build-next n g));
        inside =
            λ j k. let b : j ≤ n = omega arith in ⊎_elim (λ q. rw q (rw (o, z) l)) (λ m. rw (oj j m, zj j m) (f.inside j m)) (eq-or-lt_of_le b);
      }

  pub spans_end : (d' : List ℕ) (n i : ℕ) → SpansFilled g bytes d d' i → i ≤ n → n ≤ i → SpansFilled g bytes d d' n
  spans_end d' n i f h k = let e : i ≡ n = omega arith in subst (λ (m : ℕ). SpansFilled g bytes d d' m) e f
