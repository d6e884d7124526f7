-- The bytes of an encoded table may be read.
use mathlib.Core.Path.{◌≡◌, refl}
use mathlib.Core.List.{List, [], ◌∷◌, ◌++◌}
use Prim.Native.Nat.{ℕ, suc, ◌+◌, ◌^◌, ◌≤◌, ◌<◌}
use native.Mathlib.Omega.{arith}
use lib.Dec.{ltb}
use lib.ListN.{length, drop, length-append}
use borrow.Author.Tests.{ltb-true, ltb-false}
use Rattle.lists.specs.Put.{put}
use Rattle.lists.proofs.PutLaws.{put_front}
use Rattle.lists.proofs.Tests.{by_flag}
use Rattle.record.specs.Policy.{Text}
use Rattle.record.specs.Record.{Table, bytes_of, packed, text_offset, slots_in, total, encode}
use Rattle.record.specs.Slots.{slot_limit}
use Rattle.record.proofs.RecordTellsPolicy.{length-encode}
use Rattle.print.specs.listing.RecordLines.{offset_of, length_of, lengths, Sound}
use Rattle.print.proofs.listing.ReadLaws.{Holds, count-read, holds-all, holds-next, length-read, part_inside}

-- every part lies in the bytes
parts-inside : {r : List ℕ} {x y : List ℕ} (i o : ℕ) (us : List Text) → Holds r i o us x y → (j : ℕ) → i ≤ j → j < i + length us → offset_of r j + length_of r j ≤ length r
parts-inside i o [] h j a b = absurd (omega arith)
parts-inside {r} i o (u ∷ us) h j a b =
    by_flag (ltb i j)
    (λ t. parts-inside (suc i) (o + length (bytes_of u)) us (holds-next h) j (ltb-true i j t) (omega arith))
    (λ t. let e : i ≡ j = omega (arith, ltb-false i j t) in rw e at (part_inside h))

-- the lengths in the slots make the packed texts
lengths-packed : {r : List ℕ} {x y : List ℕ} (i o : ℕ) (us : List Text) → Holds r i o us x y → lengths r i (length us) ≡ length (packed us)
unfolding lengths packed
lengths-packed i o [] h = refl
lengths-packed i o (u ∷ us) h =
    omega (arith, length-read h, lengths-packed (suc i) (o + length (bytes_of u)) us (holds-next h), length-append (bytes_of u) (packed us))

module _ (t : Table) (counted : length t.texts ≡ slots_in t) (fits : total t < 2 ^ 32) (few : slots_in t ≤ slot_limit) where
  -- d is what follows the record
  pub encode-sound : (d : List ℕ) → Sound (encode t ++ d)
  encode-sound d =
      let c = count-read t d fits in
      let h = holds-all t d counted fits in
      let l = length-encode t counted in
      let a = length-append (encode t) d in
      let p : lengths (encode t ++ d) 0 (slots_in t) ≡ length (packed t.texts) = rw (← counted) (lengths-packed 0 _ t.texts h) in
      record {
        whole = omega arith;
        few = omega arith;
        inside = λ i b. parts-inside 0 (text_offset (slots_in t)) t.texts h i (omega arith) (omega arith);
        packed = rw c (omega arith);
      }

  -- the record at the front of a slice
  pub put-sound : (d : List ℕ) → Sound (put d 0 (encode t))
  put-sound d = rw (put_front d (encode t) (length (encode t)) refl) (encode-sound (drop (length (encode t)) d))
