-- Lines of a record that are being written.
use mathlib.Core.Bool.{true, false}
use mathlib.Core.Path.{◌≡◌, sym, ap, ◌∙◌}
use mathlib.Core.List.{List, ◌++◌, append_assoc, append-nil}
use Prim.Native.Nat.{ℕ, zero, suc, ◌+◌, ◌-◌, ◌*◌, ◌≤◌, ◌<◌}
use native.Mathlib.Numerals.{add-one}
use native.Mathlib.Omega.{arith}
use lib.ListN.{length, take, drop, length-drop}
use lib.Seq.{length-take-le}
use Rattle.print.specs.Decimal.{Written}
use Rattle.print.proofs.WrittenLaws.{written_nil, written_then, written_long, written_within, written_as}
use Rattle.print.specs.listing.RecordLines.{slots_held, offset_of, length_of, is_absent, absent_line, present_line, slot_line, slot_lines, head_read, record_lines, lengths, Sound, head_room, line_room}

-- four parts, one behind the other
pub written_four : {d o u v e x y z w : List ℕ} {a b c n : ℕ} → Written d o x a → Written o u y b → Written u v z c → Written v e w n
    → Written d e (x ++ (y ++ (z ++ w))) (a + (b + (c + n)))
written_four w1 w2 w3 w4 = written_then w1 (written_then w2 (written_then w3 w4))

-- a part of the bytes
pub written_part : (r : List ℕ) (offset size : ℕ) {d o : List ℕ} → offset + size ≤ length r
    → (let t = take (offset + size - offset) (drop offset r) in Written d o t (length t))
    → Written d o (take size (drop offset r)) size
written_part r offset size {d} {o} h u =
    let z : offset + size - offset ≡ size = omega arith in
    let w : Written d o (take size (drop offset r)) (length (take size (drop offset r))) = rw z at u in
    let l : length (take size (drop offset r)) ≡ size = length-take-le size (drop offset r) (omega (arith, length-drop offset r)) in
    written_within w (omega arith)

-- the line of a slot, by what its two words say
module _ (r : List ℕ) (i : ℕ) {offset size : ℕ} (f : offset ≡ offset_of r i) (g : size ≡ length_of r i) where
  pub slot_absent : is_absent offset size ≡ true → absent_line i ≡ slot_line r i
  unfolding slot_line
  slot_absent e = rw (← f, ← g, e)

  pub slot_present : is_absent offset size ≡ false → present_line i offset size (take size (drop offset r)) ≡ slot_line r i
  unfolding slot_line
  slot_present e = rw (← f, ← g, e)

-- one slot more
lines_next : (r : List ℕ) (i n : ℕ) → slot_lines r i (suc n) ≡ slot_lines r i n ++ slot_line r (i + n)
unfolding slot_lines
lines_next r i zero = let z : i + 0 ≡ i = omega arith in rw z (append-nil (slot_line r i))
lines_next r i (suc n) =
    let z : suc i + n ≡ i + suc n = omega arith in
    ap (λ (l : List ℕ). slot_line r i ++ l) (lines_next r (suc i) n ∙ rw z) ∙ sym (append_assoc (slot_line r i) (slot_lines r (suc i) n) (slot_line r (i + suc n)))

lengths-next : (r : List ℕ) (i n : ℕ) → lengths r i (suc n) ≡ lengths r i n + length_of r (i + n)
unfolding lengths
lengths-next r i zero = let z : i + 0 ≡ i = omega arith in rw z (omega arith)
lengths-next r i (suc n) =
    let z : suc i + n ≡ i + suc n = omega arith in
    let e : lengths r (suc i) (suc n) ≡ lengths r (suc i) n + length_of r (i + suc n) = lengths-next r (suc i) n ∙ rw z in
    omega (arith, e)

lengths_grow : (r : List ℕ) (i k n : ℕ) → k ≤ n → lengths r i k ≤ lengths r i n
unfolding lengths
lengths_grow r i zero n h = omega arith
lengths_grow r i (suc k) zero h = absurd (omega arith)
lengths_grow r i (suc k) (suc n) h = omega (arith, lengths_grow r (suc i) k n (omega arith))

-- the lines of the first i slots are written behind o₀
pub record Listing (o₀ r o : List ℕ) (i : ℕ) : Type 0 where
  pub along : i ≤ slots_held r
  pub written : Written o₀ o (slot_lines r 0 i) (69 * i + lengths r 0 i)

pub listing_start : (o r : List ℕ) → Listing o r o 0
unfolding slot_lines lengths
listing_start o r = record { along = omega arith; written = written_nil o }

module _ {o₀ r o : List ℕ} {i : ℕ} (q : Listing o₀ r o i) (s : Sound r) (h : i < slots_held r) where
  -- the lengths of the slots, this one's among them
  next-length : lengths r 0 (i + 1) ≡ lengths r 0 i + length_of r i
  next-length = let z : 0 + i ≡ i = omega arith in rw (add-one i) (lengths-next r 0 i ∙ rw z)

  next-room : {most : ℕ} → length o₀ + 287040 + length r ≤ most → length o + 69 + length_of r i ≤ most
  next-room room = omega (arith, written_long q.written, room, s.few, s.packed, next-length, lengths_grow r 0 (i + 1) (slots_held r) (omega arith))

  pub listing_room : {most : ℕ} → length o₀ + 287040 + length r ≤ most
      → (length o + 69 + length_of r i ≤ most) × (48 + 8 * i ≤ length r) × (offset_of r i + length_of r i ≤ length r)
  listing_room room = (next-room room, omega (arith, s.whole), s.inside i h)

  pub listing_more : {e : List ℕ} → Written o e (slot_line r i) (69 + length_of r i) → Listing o₀ r e (i + 1)
  listing_more {e} u =
      let z : 0 + i ≡ i = omega arith in
      let x : slot_lines r 0 i ++ slot_line r i ≡ slot_lines r 0 (i + 1) = rw (add-one i) (sym (lines_next r 0 i ∙ rw z)) in
      record { along = omega arith; written = written_within (written_as (written_then q.written u) x) (omega (arith, next-length)) }

-- all lines are written
pub listing_end : {o₀ r o d : List ℕ} {i : ℕ} → Listing o₀ r o i → Sound r → slots_held r ≤ i
    → Written d o₀ (head_read r) head_room → Written d o (record_lines r) (line_room (length r))
unfolding record_lines
listing_end {o₀} {r} {o} {d} {i} q s h u =
    let b = q.along in
    let z : i ≡ slots_held r = omega arith in
    let p : lengths r 0 i ≤ length r = rw z s.packed in
    written_within (written_as (written_then u q.written) (ap (λ (k : ℕ). head_read r ++ slot_lines r 0 k) z)) (omega (arith, s.few))
