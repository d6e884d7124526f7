-- A row that is being written: its code points or blanks, then ░ up to the width.
use mathlib.Core.Path.{◌≡◌, refl, sym, ap, ◌∙◌}
use mathlib.Core.List.{List, [], ◌∷◌, ◌++◌}
use Prim.Native.Nat.{ℕ, ◌+◌, ◌-◌, ◌≤◌, ◌<◌}
use native.Mathlib.Omega.{arith}
use lib.ListN.{length, take, drop, set, replicate, length-append, length-drop, length-take, length-set}
use lib.Seq.{drop-drop}
use Rattle.lists.specs.Put.{put}
use Rattle.lists.proofs.Parts.{take_next, drop-next}
use Rattle.lists.proofs.PutLaws.{put_nil, put-put, put_snoc}
use Rattle.model.specs.Box.{░}
use Rattle.characters.specs.white_space.Lines.{codes_at}
use Rattle.characters.specs.utf8.Utf8.{codes, decode, StandsAt}
use Rattle.characters.specs.declared.utf8.Decoded.{Decoded}
use Rattle.characters.specs.declared.utf8.Decoded.TheVariants.{Char, IllFormed, End}
use Rattle.characters.proofs.utf8.Utf8Laws.{codes_char, codes_bad, codes-none, decode-fits}
use Rattle.scan.specs.Rows.{fill, blank}
use Rattle.scan.proofs.TextLayer.{blank-length}

-- i code points of a text are written, and the next stands at p
pub record Putting (s : List ℕ) (from count : ℕ) (d : List ℕ) (base : ℕ) (out : List ℕ) (p i : ℕ) : Type 0 where
  pub along : i ≤ count
  pub sized : length (take i (codes (drop from s))) ≡ i
  pub left : drop i (codes (drop from s)) ≡ codes (drop p s)
  pub done : out ≡ put d base (take i (codes (drop from s)))
  pub long : length out ≡ length d

pub putting_start : (s : List ℕ) (from count : ℕ) (d : List ℕ) (base : ℕ) → Putting s from count d base d from 0
putting_start s from count d base = record { along = omega arith; sized = refl; left = refl; done = sym (put_nil d base); long = refl }

module _ {s : List ℕ} {from count : ℕ} {d : List ℕ} {base : ℕ} {out : List ℕ} {p i : ℕ} (q : Putting s from count d base out p i) where
  module _ {c n : ℕ} (e : decode (drop p s) ≡ Char c n) where
    pub putting_fits : (1 ≤ n) × (p + n ≤ length s)
    putting_fits = let f = decode-fits (drop p s) c n e in let l = length-drop p s in (omega arith, omega arith)

    next-codes : drop i (codes (drop from s)) ≡ (c ∷ []) ++ codes (drop (p + n) s)
    next-codes = q.left ∙ codes_char (drop p s) c n e ∙ ap (λ (x : List ℕ). c ∷ codes x) (drop-drop n p s)

    pub putting_more : i < count → base + count ≤ length d → Putting s from count d base (set out (base + i) c) (p + n) (i + 1)
    putting_more h r =
        let t : take (i + 1) (codes (drop from s)) ≡ take i (codes (drop from s)) ++ (c ∷ []) = take_next _ i (c ∷ []) _ next-codes in
        let l = q.sized in
        record {
          along = omega arith;
          sized = ap length t ∙ length-append (take i (codes (drop from s))) (c ∷ []) ∙ ap (λ (k : ℕ). k + 1) l;
          left = drop-next _ i (c ∷ []) _ next-codes;
          done = ap (λ (x : List ℕ). set x (base + i) c) q.done ∙ put_snoc d base _ c (base + i) (omega arith) (omega arith) ∙ ap (put d base) (sym t);
          long = length-set out (base + i) c ∙ q.long;
        }

  stuck : i < count → count ≡ length (codes_at s from count) → codes (drop p s) ≡ [] → ⊥
  stuck h r e =
      let a : length (codes (drop from s)) - i ≡ 0 = sym (length-drop i _) ∙ ap length (q.left ∙ e) in
      let b = length-take count (codes (drop from s)) in
      omega arith

  -- where fewer than count are written, there is a code point
  pub putting_stands : i < count → count ≡ length (codes_at s from count) → StandsAt s p
  putting_stands h r = go (decode (drop p s)) refl
    where
      go : (d : Decoded) → decode (drop p s) ≡ d → StandsAt s p
      go (Char c n) e = record { code = c; bytes = n; decoded = e }
      go IllFormed e = absurd (stuck h r (codes_bad _ e))
      go End e = absurd (stuck h r (codes-none _ e))

  pub putting_done : count ≤ i → out ≡ put d base (codes_at s from count)
  putting_done h =
      let l = q.along in
      let e : i ≡ count = omega arith in
      q.done ∙ ap (λ (k : ℕ). put d base (take k (codes (drop from s)))) e

-- a text and the ░ behind it, written one after the other, are a row
pub row_written : (d : List ℕ) (base : ℕ) (t : List ℕ) (width count : ℕ) {o o' : List ℕ} → count ≡ length t → count ≤ width → base + width ≤ length d
    → o ≡ put d base t → o' ≡ put o (base + count) (replicate (width - count) ░) → o' ≡ put d base (fill width t)
row_written d base t width count e h r p q = q ∙ rw (p, e) (put-put d base t (replicate (width - length t) ░) (omega arith))

-- and so are as many blanks as the text has code points
pub blanks_written : (d : List ℕ) (base : ℕ) (t : List ℕ) (width count : ℕ) {o o' : List ℕ} → count ≡ length t → count ≤ width → base + width ≤ length d
    → o ≡ put d base (replicate count 32) → o' ≡ put o (base + count) (replicate (width - count) ░) → o' ≡ put d base (fill width (blank t))
blanks_written d base t width count e h r p =
    row_written d base (blank t) width count (e ∙ sym (blank-length t)) h r (p ∙ ap (λ (n : ℕ). put d base (replicate n 32)) e)
