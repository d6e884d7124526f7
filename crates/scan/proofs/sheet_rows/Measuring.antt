-- A sheet that is being looked for, and one that is being measured.
use mathlib.Core.Path.{◌≡◌, refl, sym, ◌∙◌}
use mathlib.Core.Bool.{true, false}
use mathlib.Core.List.{List}
use Prim.Native.Nat.{ℕ, ◌+◌, ◌≤◌, ◌<◌, max}
use native.Mathlib.Omega.{arith}
use lib.ListN.{length, drop}
use borrow.Author.Tests.{eq-eqb, ne_eqb}
use Rattle.model.specs.Box.{┌, ┘}
use Rattle.characters.specs.white_space.Lines.{line_text, LineAt, HeadAt, ValidTo}
use Rattle.characters.specs.utf8.Utf8.{codes}
use Rattle.scan.specs.sheet_rows.Found.{texts_at, rest_at, StartAt, Measured}
use Rattle.scan.specs.sheet_rows.Rows.{begins, up_to, collect, rows_at, widest}
use Rattle.scan.specs.sheet_rows.Sheet.{rest_of}
use Rattle.scan.proofs.sheet_rows.RowsLaws.{line-counted, collect-next, collect-found, collect_end, rows_none, rows_last, rows_more, rows_end}
use Rattle.scan.proofs.sheet_rows.SheetLaws.{rest-next, rest-found, rest-none, rest_more, rest-last, rest_end, blank_not_last}

-- no line from `from` up to `at` begins a sheet
pub record Seeking (s : List ℕ) (from at : ℕ) : Type 0 where
  pub inside : at ≤ length s
  pub same : rows_at s from ≡ collect (texts_at s at)
  pub rest : rest_of (codes (drop from s)) ≡ rest_of (codes (drop at s))

pub seeking_start : (s : List ℕ) (from : ℕ) → from ≤ length s → Seeking s from from
seeking_start s from h = record { inside = h; same = refl; rest = refl }

module _ {s : List ℕ} {from at : ℕ} (i : Seeking s from at) where
  module _ {first next : ℕ} (l : HeadAt s at first next) where
    pub seeking_more : (first ≡ ┌ → ⊥) → Seeking s from next
    seeking_more f =
        let e : begins (line_text s at) ≡ false = ne_eqb _ ┌ (λ q. f (l.heading ∙ q)) in
        record { inside = l.inside; same = i.same ∙ collect-next l e; rest = i.rest ∙ rest-next l e }

    pub seeking_found : first ≡ ┌ → StartAt s from at
    seeking_found f =
        let e : begins (line_text s at) ≡ true = eq-eqb _ ┌ (sym l.heading ∙ f) in
        record { inside = i.inside; same = i.same ∙ collect-found l e; rest = i.rest ∙ rest-found s at e }

  pub seeking_end : length s ≤ at → StartAt s from at
  seeking_end h = record { inside = i.inside; same = i.same ∙ collect_end s at h; rest = i.rest ∙ rest-none s at h }

-- the sheet at `at` has n rows up to p, the longest of w code points, and goes on there
pub record Measuring (s : List ℕ) (at p n w : ℕ) : Type 0 where
  pub along : at + n ≤ p
  pub inside : p ≤ length s
  pub height : length (up_to (texts_at s at)) ≡ n + length (up_to (texts_at s p))
  pub width : widest (up_to (texts_at s at)) ≡ max w (widest (up_to (texts_at s p)))
  pub rest : rest_at s at ≡ rest_at s p

pub measuring_start : (s : List ℕ) (at : ℕ) → at ≤ length s → Measuring s at at 0 0
measuring_start s at h = record { along = omega arith; inside = h; height = omega arith; width = omega arith; rest = refl }

module _ {s : List ℕ} {at p n w : ℕ} (i : Measuring s at p n w) where
  module _ {from count last next : ℕ} (l : LineAt s p from count last next) (h : p < length s) where
    pub measuring_none : count ≤ 0 → Measuring s at next n w
    measuring_none z =
        let f = l.further h in
        record {
          along = omega arith;
          inside = l.inside;
          height = i.height ∙ rw (rows_none l z);
          width = i.width ∙ rw (rows_none l z);
          rest = i.rest ∙ rest_more l (blank_not_last l z);
        }

    pub measuring_more : {w' : ℕ} → w' ≡ max w count → 0 < count → (last ≡ ┘ → ⊥) → Measuring s at next (n + 1) w'
    unfolding widest
    measuring_more e z q =
        let f = l.further h in
        let g = line-counted l in
        record {
          along = omega arith;
          inside = l.inside;
          height = i.height ∙ rw (rows_more l z q) (omega arith);
          width = i.width ∙ rw (rows_more l z q, ← g) (omega arith);
          rest = i.rest ∙ rest_more l q;
        }

    pub measuring_last : {w' : ℕ} → w' ≡ max w count → 0 < count → last ≡ ┘ → Measured s at (n + 1) w' next
    unfolding widest
    measuring_last e z q =
        let g = line-counted l in
        record {
          height = sym (i.height ∙ rw (rows_last l z q) (omega arith));
          width = sym (i.width ∙ rw (rows_last l z q, ← g) (omega arith));
          inside = l.inside;
          rest = sym (i.rest ∙ rest-last l q);
        }

  pub measuring_end : length s ≤ p → Measured s at n w p
  unfolding widest
  measuring_end h =
      record {
        height = sym (i.height ∙ rw (rows_end s p h) (omega arith));
        width = sym (i.width ∙ rw (rows_end s p h) (omega arith));
        inside = i.inside;
        rest = sym (i.rest ∙ rest_end s p h);
      }

-- a check goes on along the lines that are read
pub valid_start : (s : List ℕ) (at : ℕ) → ValidTo s at at at
valid_start s at = record { same = refl; level = λ h. refl }

pub valid_more : {s : List ℕ} {from at next v w : ℕ} → ValidTo s from at v → at < length s → ValidTo s at next w → ValidTo s from next w
valid_more {s} i h l = record { same = i.same ∙ rw (i.level h) l.same; level = l.level }
