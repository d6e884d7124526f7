-- The search for the first part of a text in emphasis.
use mathlib.Core.Path.{◌≡◌, refl, sym, ap, ◌∙◌}
use mathlib.Core.Bool.{Bool, true, false, ◌&&◌}
use mathlib.Core.List.{List, [], ◌∷◌}
use Prim.Native.Nat.{ℕ, ◌+◌, ◌-◌, ◌≤◌, ◌<◌}
use native.Mathlib.Omega.{arith}
use borrow.Author.Tests.{lt-ltb, le-ltb}
use lib.ListN.{length, take, drop, length-drop}
use lib.Seq.{length-take-le}
use Rattle.lists.proofs.Parts.{part_part}
use Rattle.lists.proofs.Tests.{by_flag}
use Rattle.characters.specs.white_space.Trim.{trim_start_utf8, trim_utf8, PartIn}
use Rattle.values.specs.emphasis.Commas.{parts}
use Rattle.values.specs.emphasis.Emphasis.{Choice, plain, marked, marks, placed, or_else, starts_with, ends_with, strip_start, strip, emphasised, first_marked, choice_of}
use Rattle.values.specs.emphasis.Found.{parts_behind, PartEnd, Bare, Emphasised}
use Rattle.characters.specs.declared.white_space.Part.{Part}
use Rattle.values.proofs.emphasis.Stripping.{strip-length}

-- the part of s from a up to e
abbrev pub between : List ℕ → ℕ → ℕ → List ℕ
between s a e = take (e - a) (drop a s)

-- the marks are tried one after the other
module _ (e : List ℕ) (es : List (List ℕ)) (p : List ℕ) {t : Bool} (r : t ≡ (starts_with e p && ends_with e p)) where
  pub mark-hit : t ≡ true → emphasised (e ∷ es) p ≡ marked (length p - length (strip_start 0 e p)) p (strip e p)
  unfolding emphasised
  mark-hit h = rw (sym r ∙ h)

  pub mark_miss : t ≡ false → emphasised (e ∷ es) p ≡ emphasised es p
  unfolding emphasised
  mark_miss h = rw (sym r ∙ h)

pub mark-none : (p : List ℕ) → emphasised [] p ≡ plain
unfolding emphasised
mark-none p = refl

pub mark-by : {p : List ℕ} {c d : Choice} {m : Part} → d ≡ c → Bare p c m → Bare p d m
mark-by e b = record { choice = e ∙ b.choice; ordered = b.ordered; inside = b.inside }

-- a part in emphasis is not empty, and its bare text is at most as long
abbrev pub Sized : Choice → Type 0
Sized plain = Unit {0}
Sized (marked place part bare) = (0 < length part) × (length bare ≤ length part)

mark-sized : (es : List (List ℕ)) (p : List ℕ) → 0 < length p → Sized (emphasised es p)
unfolding emphasised
mark-sized [] p h = tt
mark-sized (e ∷ es) p h =
    by_flag (starts_with e p && ends_with e p) (λ y. rw y (h, strip-length e p)) (λ z. rw z (mark-sized es p h))

marks-sized : (p : List ℕ) → Sized (emphasised marks p)
unfolding emphasised starts_with
marks-sized [] = tt
marks-sized (x ∷ p) = mark-sized marks (x ∷ p) (omega arith)

either_sized : (n : ℕ) (c d : Choice) → Sized c → Sized d → Sized (or_else (placed n c) d)
either_sized n plain d h k = k
either_sized n (marked place part bare) d h k = h

pub first-sized : (n : ℕ) (ps : List (List ℕ)) → Sized (first_marked n ps)
unfolding first_marked
first-sized n [] = tt
first-sized n (p ∷ ps) =
    either_sized (n + (length p - length (trim_start_utf8 p))) (emphasised marks (trim_utf8 p)) (first_marked (n + length p + 1) ps)
    (marks-sized (trim_utf8 p)) (first-sized (n + length p + 1) ps)

-- no part before `at` is in emphasis
pub record Finding (s : List ℕ) (at : ℕ) : Type 0 where
  pub inside : at ≤ length s
  pub same : choice_of s ≡ first_marked at (parts (drop at s))

pub finding_start : {s : List ℕ} → Finding s 0
finding_start {s} = record { inside = omega arith; same = refl }

-- the part from `at` up to `end` stands trimmed from `from` up to `to`, and the marks are tried on it
module _ {s : List ℕ} {at end from to : ℕ} (i : Finding s at) (k : PartEnd s at end)
    (w : PartIn s at end (trim_start_utf8 (between s at end)) (trim_utf8 (between s at end)) from to) where
  here : {c : Choice} → emphasised marks (between s from to) ≡ c
      → choice_of s ≡ or_else (placed from c) (first_marked (end + 1) (parts_behind s end))
  unfolding first_marked
  here h =
      let l : length (between s at end) ≡ end - at = length-take-le (end - at) (drop at s) (omega (arith, length-drop at s, k.low, k.high)) in
      let a : at + (length (between s at end) - length (trim_start_utf8 (between s at end))) ≡ from =
      omega (arith, k.low, w.start, w.low) in
      let b : at + length (between s at end) + 1 ≡ end + 1 = omega (arith, k.low) in
      let e = ap (emphasised marks) (sym w.text) ∙ h in
      i.same ∙ ap (first_marked at) k.same ∙ rw (a, b, e)

  long : length (between s from to) ≡ to - from
  long = length-take-le (to - from) (drop from s) (omega (arith, length-drop from s, w.high, k.high))

  -- its bare text stands at m
  module _ {m : Part} (b : Bare (between s from to) (emphasised marks (between s from to)) m) where
    pub finding_fits : from + m.to ≤ to
    finding_fits = omega (arith, long, b.inside, w.ordered)

    pub finding_hit : Emphasised s (record { from = from; to = to; a = from + m.from; b = from + m.to })
    finding_hit =
        let l = long in
        let n = b.inside in
        let o = b.ordered in
        let g = w.high in
        let j = k.high in
        let q = finding_fits in
        let z : Sized (marked m.from (between s from to) (between (between s from to) m.from m.to)) = rw b.choice at (marks-sized (between s from to)) in
        record {
          choice = here b.choice ∙ ap (marked (from + m.from) (between s from to)) (sym (part_part s from (to - from) m.from m.to o (omega arith)));
          low = omega arith;
          ordered = omega arith;
          high = omega arith;
          inside = omega arith;
          some = omega arith;
        }

  -- it has no emphasis
  module _ (n : emphasised marks (between s from to) ≡ plain) where
    pub finding_last : end ≡ length s → choice_of s ≡ plain
    unfolding first_marked
    finding_last e = here n ∙ rw (le-ltb end (length s) (omega arith))

    pub finding_more : (end ≡ length s → ⊥) → Finding s (end + 1)
    finding_more h =
        let l : end < length s = omega (arith, k.high) in
        record { inside = omega arith; same = here n ∙ rw (lt-ltb end (length s) l) }
