-- A text in UTF-8 trimmed by a scan of its bytes: what is left are the bytes of its trimmed code points.
use Rattle.std.specs.Prelude.{Ok, Err}
use mathlib.Core.Path.{◌≡◌, refl, sym, ap, ◌∙◌}
use mathlib.Core.Bool.{true, false}
use mathlib.Core.List.{List, [], ◌∷◌, ◌++◌, append-nil, append_assoc}
use Prim.Native.Nat.{ℕ, ◌+◌, ◌-◌, ◌≤◌, ◌<◌}
use native.Mathlib.Omega.{arith}
use lib.ListN.{length, take, drop, length-drop}
use lib.Seq.{length-take-le}
use Rattle.lists.proofs.Parts.{part_add, part_end}
use Rattle.characters.specs.white_space.White.{white}
use Rattle.characters.specs.utf8.Utf8.{decode, check, checked, codes, encode, encodes}
use Rattle.characters.specs.white_space.Trim.{trim_start, trim_end, trim, trim_start_utf8, trim_utf8, PartIn}
use Rattle.characters.specs.white_space.Leading.{Led}
use Rattle.characters.specs.declared.utf8.Decoded.TheVariants.{Char, IllFormed, End}
use Rattle.characters.proofs.utf8.Utf8Laws.{char_fits, check-at, codes_at_lem, codes_end, check_bad, check_end, decode-none}
use Rattle.characters.proofs.white_space.TrimLaws.{end_snoc}
use Rattle.characters.proofs.utf8.Inverse.{encode-decode, encodes-append}

-- p has come over white space alone
pub record Leading (s : List ℕ) (p : ℕ) : Type 0 where
  pub inside : p ≤ length s
  pub same : trim_start (codes s) ≡ trim_start (codes (drop p s))
  pub checks : check 0 0 s ≡ check 0 p (drop p s)

pub leading_start : (s : List ℕ) → Leading s 0
leading_start s = record { inside = omega arith; same = refl; checks = refl }

module _ {s : List ℕ} {p : ℕ} (i : Leading s p) where
  -- no code point is left
  pub leading_stop : codes (drop p s) ≡ [] → Led s p
  leading_stop e =
      let n : trim_start [] ≡ [] = unfold trim_start in refl in
      record { inside = i.inside; same = i.same ∙ ap trim_start e ∙ n ∙ sym e; checks = i.checks }

  pub leading_end : length s ≤ p → Led s p
  leading_end h = leading_stop (codes_end s p h)

  module _ {c n : ℕ} (e : decode (drop p s) ≡ Char c n) where
    pub leading_fits : (1 ≤ n) × (p + n ≤ length s)
    leading_fits = char_fits s p c n e i.inside

    here : codes (drop p s) ≡ c ∷ codes (drop (p + n) s)
    here = codes_at_lem s p c n e i.inside

    pub leading_white : white c ≡ true → Leading s (p + n)
    unfolding trim_start
    leading_white w =
        record { inside = leading_fits.1; same = i.same ∙ ap trim_start here ∙ rw w; checks = i.checks ∙ check-at s p c n e i.inside }

    pub leading_dark : white c ≡ false → Led s p
    unfolding trim_start
    leading_dark w = record { inside = i.inside; same = i.same ∙ ap trim_start here ∙ rw w (sym here); checks = i.checks }

-- p stands behind the code points `done` from `from` on; what is left of them without white space at the end goes up to `to`
pub record Trimming (s : List ℕ) (from p to : ℕ) : Type 0 where
  pub led : Led s from
  pub low : from ≤ to
  pub mid : to ≤ p
  pub inside : p ≤ length s
  pub done : List ℕ
  pub passed : codes (drop from s) ≡ done ++ codes (drop p s)
  pub bytes : take (p - from) (drop from s) ≡ encodes done
  pub kept : take (to - from) (drop from s) ≡ encodes (trim_end done)
  pub checks : check 0 0 s ≡ check 0 p (drop p s)

pub trimming_start : {s : List ℕ} {from : ℕ} → Led s from → Trimming s from from from
unfolding encodes trim_end
trimming_start {s} {from} l =
    let z : from - from ≡ 0 = omega arith in
    record { led = l; low = omega arith; mid = omega arith; inside = l.inside; done = []; passed = refl; bytes = rw z; kept = rw z; checks = l.checks }

-- the whole text, where it is ill-formed
pub trimming_bad : (s : List ℕ) (at : ℕ) → checked s ≡ Err at → PartIn s 0 (length s) (trim_start_utf8 s) (trim_utf8 s) 0 (length s)
unfolding trim_utf8 trim_start_utf8
trimming_bad s at e = record { low = omega arith; ordered = omega arith; high = omega arith; start = rw e (omega arith); text = part_end s 0 ∙ rw e }

module _ {s : List ℕ} {from p to : ℕ} (i : Trimming s from p to) where
  pub trimming_stop : decode (drop p s) ≡ IllFormed → PartIn s 0 (length s) (trim_start_utf8 s) (trim_utf8 s) 0 (length s)
  trimming_stop e = trimming_bad s p (i.checks ∙ check_bad p (drop p s) e)

  pub trimming_none : {A : Type 0} → p < length s → decode (drop p s) ≡ End → A
  trimming_none h e = let l : length s - p ≡ 0 = sym (length-drop p s) ∙ ap length (decode-none (drop p s) e) in absurd (omega arith)

  pub trimming_end : length s ≤ p → PartIn s 0 (length s) (trim_start_utf8 s) (trim_utf8 s) from to
  unfolding trim_utf8 trim_start_utf8 trim
  trimming_end h =
      let v : checked s ≡ (Ok tt) = i.checks ∙ check_end s p h in
      let r : codes (drop from s) ≡ i.done = i.passed ∙ ap (λ (x : List ℕ). i.done ++ x) (codes_end s p h) ∙ append-nil i.done in
      let t : trim_end (trim_start (codes s)) ≡ trim_end i.done = ap trim_end (i.led.same ∙ r) in
      let a = i.mid in
      let b = i.inside in
      let o = i.low in
      let f : encodes (trim_start (codes s)) ≡ take (p - from) (drop from s) = ap encodes (i.led.same ∙ r) ∙ sym i.bytes in
      let k = length-drop from s in
      let l : length (take (p - from) (drop from s)) ≡ p - from = length-take-le (p - from) (drop from s) (omega arith) in
      record { low = omega arith; ordered = i.low; high = omega arith; start = rw (v, f, l) (omega arith); text = i.kept ∙ rw (v, t) }

  module _ {c n : ℕ} (e : decode (drop p s) ≡ Char c n) where
    pub trimming_fits : (1 ≤ n) × (p + n ≤ length s)
    trimming_fits = char_fits s p c n e i.inside

    -- one code point more
    next_passed : codes (drop from s) ≡ (i.done ++ (c ∷ [])) ++ codes (drop (p + n) s)
    next_passed =
        i.passed ∙ ap (λ (x : List ℕ). i.done ++ x) (codes_at_lem s p c n e i.inside)
        ∙ sym (append_assoc i.done (c ∷ []) (codes (drop (p + n) s)))

    next-bytes : take (p + n - from) (drop from s) ≡ encodes (i.done ++ (c ∷ []))
    next-bytes =
        let a = i.low in
        let b = i.mid in
        let one : encodes (c ∷ []) ≡ encode c = unfold encodes in append-nil (encode c) in
        part_add s from p n (omega arith)
        ∙ ap (λ (x : List ℕ). take (p - from) (drop from s) ++ x) (encode-decode (drop p s) c n e)
        ∙ ap (λ (x : List ℕ). x ++ encode c) i.bytes
        ∙ sym (encodes-append i.done (c ∷ []) ∙ ap (λ (x : List ℕ). encodes i.done ++ x) one)

    pub trimming_white : white c ≡ true → Trimming s from (p + n) to
    trimming_white w =
        let a = i.mid in
        record {
          led = i.led;
          low = i.low;
          mid = omega arith;
          inside = trimming_fits.1;
          done = i.done ++ (c ∷ []);
          passed = next_passed;
          bytes = next-bytes;
          kept = i.kept ∙ ap encodes (sym (end_snoc i.done c ∙ rw w));
          checks = i.checks ∙ check-at s p c n e i.inside;
        }

    pub trimming_dark : white c ≡ false → Trimming s from (p + n) (p + n)
    trimming_dark w =
        let a = i.mid in
        let b = i.low in
        record {
          led = i.led;
          low = omega arith;
          mid = omega arith;
          inside = trimming_fits.1;
          done = i.done ++ (c ∷ []);
          passed = next_passed;
          bytes = next-bytes;
          kept = next-bytes ∙ ap encodes (sym (end_snoc i.done c ∙ rw w));
          checks = i.checks ∙ check-at s p c n e i.inside;
        }
