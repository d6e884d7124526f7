-- The bytes of a line that are being read.
use Rattle.std.specs.Prelude.{Option, Some, None}
use mathlib.Core.Bool.{Bool, true, false}
use mathlib.Core.Path.{◌≡◌, refl, sym, ap, ◌∙◌}
use mathlib.Core.List.{List, [], ◌∷◌, ◌++◌, append_assoc, append-nil}
use Prim.Native.Nat.{ℕ, suc, ◌+◌, ◌-◌, ◌≤◌, ◌<◌}
use native.Mathlib.Omega.{arith}
use borrow.Author.Tests.{leb-true}
use lib.Dec.{leb}
use lib.ListN.{length, take, drop, length-append, drop_of_length-le}
use lib.Seq.{length-take-le, drop-drop}
use Rattle.lists.proofs.Parts.{at_cons, part_end}
use Rattle.plane.specs.numerals.RuleNumbers.{number_of}
use Rattle.print.specs.Lines.{blank}
use Rattle.answers.specs.lines.Texts.{before, FirstAt, at_most, on_number, onto, nothing_in, bytes_in, text_of}

onto_nil : (x : Option (List ℕ)) → onto [] x ≡ x
onto_nil None = refl
onto_nil (Some y) = refl

onto-onto : (x y : List ℕ) (z : Option (List ℕ)) → onto x (onto y z) ≡ onto (x ++ y) z
onto-onto x y None = refl
onto-onto x y (Some z) = ap Some (sym (append_assoc x y z))

-- a word's length, and what stands behind the word
module _ {s : List ℕ} {at end : ℕ} (f : FirstAt s at blank end) where
  word-length : length (before blank (drop at s)) ≡ end - at
  word-length =
      let l : end - at ≤ length (drop at s) = omega (arith, lib.ListN.length-drop at s, f.high, f.low) in
      sym (ap length f.same) ∙ length-take-le (end - at) (drop at s) l

  behind-word : drop (length (before blank (drop at s))) (drop at s) ≡ drop end s
  behind-word =
      let e : at + (end - at) ≡ end = omega (arith, f.low) in
      ap (λ (n : ℕ). drop n (drop at s)) word-length ∙ drop-drop (end - at) at s ∙ ap (λ (n : ℕ). drop n s) e

-- k of the bytes are read, up to `at`, and stand in text
pub record Reading (s : List ℕ) (count : ℕ) (text : List ℕ) (at k : ℕ) : Type 0 where
  pub along : k ≤ count
  pub inside : at ≤ length s
  pub long : length text ≡ k
  pub same : bytes_in count s ≡ onto text (bytes_in (count - k) (drop at s))

pub reading_start : {s : List ℕ} {count : ℕ} {text : List ℕ} → text ≡ [] → Reading s count text 0 0
reading_start {s} {count} {text} e =
    let z : count - 0 ≡ count = omega arith in
    rw e (record { along = omega arith; inside = omega arith; long = refl; same = sym (onto_nil _) ∙ rw z })

module _ {s : List ℕ} {count : ℕ} {text : List ℕ} {at k : ℕ} (q : Reading s count text at k) where
  module _ (h : k < count) where
    left : count - k ≡ suc (count - (k + 1))
    left = omega arith

    -- the text ends too early
    pub reading_cut : length s ≤ at → bytes_in count s ≡ None
    unfolding bytes_in
    reading_cut l = q.same ∙ rw (left, drop_of_length-le s l)

    module _ (l : at < length s) {end : ℕ} (f : FirstAt s (at + 1) blank end) where
      next : {x : Option ℕ} → x ≡ at_most 255 (number_of (take (end - (at + 1)) (drop (at + 1) s)))
          → bytes_in (count - k) (drop at s) ≡ on_number x (λ b. onto (b ∷ []) (bytes_in (count - (k + 1)) (drop end s)))
      unfolding bytes_in
      next n =
          rw (left, at_cons s at 0 l)
          (rw (behind-word f, ← f.same, ← n))

      -- its word is no byte, or one
      pub reading_bad : None ≡ at_most 255 (number_of (take (end - (at + 1)) (drop (at + 1) s))) → bytes_in count s ≡ None
      reading_bad n = q.same ∙ ap (onto text) (next n)

      pub reading_more : {v : ℕ} {more : List ℕ} → Some v ≡ at_most 255 (number_of (take (end - (at + 1)) (drop (at + 1) s)))
          → more ≡ text ++ (v ∷ []) → Reading s count more end (k + 1)
      reading_more {v} {more} n w =
          let x : Option (List ℕ) = bytes_in (count - (k + 1)) (drop end s) in
          record {
            along = omega arith;
            inside = f.high;
            long = omega (arith, ap length w ∙ length-append text (v ∷ []), q.long);
            same = q.same ∙ ap (onto text) (next n) ∙ onto-onto text (v ∷ []) x ∙ rw w;
          }

  module _ (h : count ≤ k) where
    rest : bytes_in count s ≡ onto text (nothing_in (drop at s))
    unfolding bytes_in
    rest = let z : count - k ≡ 0 = omega arith in q.same ∙ rw z

    -- something is left
    pub reading_left : at < length s → bytes_in count s ≡ None
    reading_left l = rest ∙ rw (at_cons s at 0 l)

    -- all bytes are read
    pub reading_end : length s ≤ at → bytes_in count s ≡ Some text
    reading_end l = rest ∙ rw (drop_of_length-le s l) (ap Some (append-nil text))

-- a number that is not too large
small : (most v : ℕ) (x : Option ℕ) → at_most most x ≡ Some v → v ≤ most
small most v None e = absurd_none e
  where
    absurd_none : {A : Type 0} → None ≡ Some v → A
    absurd_none e = let z : ◌≡◌ {A = ℕ} 0 1 = cc in absurd (omega arith)
small most v (Some n) e = go (leb n most) refl
  where
    go : (t : Bool) → leb n most ≡ t → v ≤ most
    go true t = let q : Some n ≡ Some v = rw t at e in let r : n ≡ v = cc in omega (arith, leb-true n most t)
    go false t = let q : None ≡ Some v = rw t at e in let z : ◌≡◌ {A = ℕ} 0 1 = cc in absurd (omega arith)

pub byte_small : (w : List ℕ) {v : ℕ} → Some v ≡ at_most 255 (number_of w) → v ≤ 255
byte_small w {v} n = small 255 v (number_of w) (sym n)

-- a line's count of bytes, and its bytes
module _ {line : List ℕ} (most : ℕ) {end : ℕ} (f : FirstAt line 0 blank end) where
  counted : {x : Option ℕ} → x ≡ at_most most (number_of (take (end - 0) (drop 0 line))) → text_of most line ≡ on_number x (λ n. bytes_in n (drop end line))
  unfolding text_of
  counted n = rw (behind-word f, ← f.same, ← n)

  pub text_bad : None ≡ at_most most (number_of (take (end - 0) (drop 0 line))) → text_of most line ≡ None
  text_bad n = counted n

  pub text-read : {v : ℕ} → Some v ≡ at_most most (number_of (take (end - 0) (drop 0 line))) → text_of most line ≡ bytes_in v (take (length line - end) (drop end line))
  text-read {v} n = counted n ∙ ap (bytes_in v) (sym (part_end line end))

  pub count_small : {v : ℕ} → Some v ≡ at_most most (number_of (take (end - 0) (drop 0 line))) → v ≤ most
  count_small {v} n = small most v (number_of (take (end - 0) (drop 0 line))) (sym n)
