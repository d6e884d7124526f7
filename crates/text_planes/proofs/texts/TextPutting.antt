-- A region's text that is being written, row by row.
use mathlib.Core.Path.{◌≡◌, refl, ap, ◌∙◌, subst}
use mathlib.Core.List.{List, ◌++◌}
use Prim.Native.Nat.{ℕ, suc, ◌+◌, ◌-◌, ◌*◌, ◌≤◌, ◌<◌}
use native.Mathlib.Omega.{arith}
use lib.Dec.{ltb}
use lib.ListN.{length, take, drop}
use Rattle.lists.specs.Picture.{Picture, canvas}
use Rattle.lists.specs.Run.{run, build}
use Rattle.model.specs.Limits.{text_bytes}
use Rattle.model.specs.declared.Rect.{Rect}
use Rattle.cells.specs.rects.Rects.{RectIn}
use Rattle.characters.specs.white_space.Lines.{texts}
use Rattle.characters.specs.white_space.Trim.{trim, PartIn}
use Rattle.characters.specs.utf8.Utf8.{encodes}
use Rattle.text_planes.specs.texts.RegionText.{joined, text_of}
use Rattle.text_planes.specs.texts.Rows.{next}
use Rattle.text_planes.specs.texts.Spans.{WrittenTo}
use Rattle.text_planes.proofs.texts.BuildLaws.{build-next, grows}
use Rattle.text_planes.proofs.texts.JoinedLaws.{begun, rows_bytes, bytes_snoc, bytes_grow, begun_test}
use Rattle.text_planes.proofs.texts.PutAtLaws.{written_none, written_past, written_then}
use Rattle.text_planes.proofs.texts.RowLaws.{row_fits, row_part}

-- the characters of row j between the sides
abbrev row_of : Picture → Rect → ℕ → List ℕ
row_of p r j = build (r.right - 1 - (r.left + 1)) (λ i. p (r.left + 1 + i) (r.top + 1 + j))

-- the first n rows
abbrev rows_to : Picture → Rect → ℕ → List (List ℕ)
rows_to p r n = build n (row_of p r)

-- the rows above y are written, and `at` is behind them; b is the row of the bottom side
pub record Joining (w h : ℕ) (s : List ℕ) (r : Rect) (b : ℕ) (d : List ℕ) (start : ℕ) (out : List ℕ) (y at : ℕ) : Type 0 where
  pub size : h * w ≤ length s
  pub rect : RectIn w h r
  pub space : text_bytes + 4 ≤ length d
  pub low : r.top + 1 ≤ y
  pub last : b ≡ r.bottom - 1
  pub along : y ≤ b
  pub done : WrittenTo (rows_bytes (rows_to (canvas w h s) r (y - (r.top + 1)))) d out start at
  pub long : length out ≡ length d

-- the same of an equal rect
pub joining_of : {w h : ℕ} {s : List ℕ} {r q : Rect} {b : ℕ} {d : List ℕ} {start : ℕ} {out : List ℕ} {y at : ℕ} → r ≡ q → Joining w h s r b d start out y at → Joining w h s q b d start out y at
joining_of {w} {h} {s} {r} {q} {b} {d} {start} {out} {y} {at} e = subst (λ (t : Rect). Joining w h s t b d start out y at) e

pub joining_start : {w h : ℕ} {s : List ℕ} {r : Rect} {d : List ℕ} {start : ℕ} → h * w ≤ length s → RectIn w h r → start ≤ text_bytes → text_bytes + 4 ≤ length d
    → Joining w h s r (r.bottom - 1) d start d (r.top + 1) start
unfolding run texts encodes
joining_start {w} {h} {s} {r} {d} {start} n i k g =
    let z : r.top + 1 - (r.top + 1) ≡ 0 = omega arith in
    record { size = n; rect = i; space = g; low = omega arith; last = refl; along = omega (arith, i.tall); done = rw z (written_none d start k); long = refl }

module _ {w h : ℕ} {s : List ℕ} {r : Rect} {b : ℕ} {d : List ℕ} {start : ℕ} {out : List ℕ} {y at : ℕ} (q : Joining w h s r b d start out y at) where
  module _ (l : y < b) where
    columns : r.right - 1 ≤ w
    columns = omega (arith, q.rect.columns)

    row : y < h
    row = omega (arith, q.last, q.rect.rows)

    -- the row's part of the list
    pub joining_part : (y * w + (r.left + 1) ≤ y * w + (r.right - 1)) × (y * w + (r.right - 1) ≤ length s)
    joining_part = (omega (arith, q.rect.wide), row_fits w h s 0 (r.right - 1) y columns row q.size)

    module _ {f : List ℕ} {a e : ℕ} (t : PartIn s (y * w + (r.left + 1)) (y * w + (r.right - 1)) f
        (trim (take (y * w + (r.right - 1) - (y * w + (r.left + 1))) (drop (y * w + (r.left + 1)) s))) a e) where
      -- the trimmed part lies in the row's
      pub joining_room : (y * w + (r.left + 1) ≤ a) × (a ≤ e) × (e ≤ y * w + (r.right - 1)) × (y * w + (r.right - 1) ≤ length s) × (text_bytes + 4 ≤ length out)
      joining_room = (t.low, t.ordered, t.high, joining_part.1, omega (arith, q.long, q.space))

      -- so many rows stand above it
      abbrev done_rows : ℕ
      done_rows = y - (r.top + 1)

      trimmed : take (e - a) (drop a s) ≡ trim (row_of (canvas w h s) r done_rows)
      trimmed =
          let z : y * w + (r.right - 1) - (y * w + (r.left + 1)) ≡ r.right - 1 - (r.left + 1) = omega arith in
          let v : r.top + 1 + done_rows ≡ y = omega (arith, q.low) in
          t.text ∙ rw (z, v) (ap trim (row_part w h s (r.left + 1) (r.right - 1) y columns row q.size))

      -- what is written of it
      abbrev row_bytes : List ℕ
      row_bytes = encodes (next (ltb start at) (take (e - a) (drop a s)))

      rows_snoc : rows_bytes (rows_to (canvas w h s) r (suc done_rows)) ≡ rows_bytes (rows_to (canvas w h s) r done_rows) ++ row_bytes
      rows_snoc =
          let rs : List (List ℕ) = rows_to (canvas w h s) r done_rows in
          let g : ltb start at ≡ begun (joined (texts rs)) = begun_test (joined (texts rs)) start at q.done.ends in
          rw (build-next (row_of (canvas w h s) r) done_rows, bytes_snoc rs (row_of (canvas w h s) r done_rows), g, trimmed)

      pub joining_past : text_bytes < at + length row_bytes → text_bytes < start + length (text_of (canvas w h s) r)
      unfolding text_of
      joining_past m =
          let v = written_past q.done row_bytes m in
          let g = grows (row_of (canvas w h s) r) (λ rs. length (rows_bytes rs)) bytes_grow (suc done_rows) (r.bottom - 1 - (r.top + 1)) (omega (arith, q.low, q.last)) in
          omega (arith, v, g, ap length rows_snoc)

      pub joining_more : {o : List ℕ} {n : ℕ} → WrittenTo row_bytes out o at n → length o ≡ length out → Joining w h s r b d start o (y + 1) n
      joining_more m c =
          let z : suc done_rows ≡ y + 1 - (r.top + 1) = omega (arith, q.low) in
          record {
            size = q.size;
            rect = q.rect;
            space = q.space;
            low = omega (arith, q.low);
            last = q.last;
            along = omega arith;
            done = rw (← z, rows_snoc) (written_then q.done (omega (arith, q.space)) m);
            long = c ∙ q.long;
          }

  pub joining_end : b ≤ y → WrittenTo (text_of (canvas w h s) r) d out start at
  unfolding text_of
  joining_end l =
      let z : y ≡ r.bottom - 1 = omega (arith, q.last, q.along) in
      rw (← z) q.done
