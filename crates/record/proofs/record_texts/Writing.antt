-- Writing a record: what a caller that drives the writer needs.
use Rattle.std.specs.Prelude.{Ok, Err, None, Some}
use mathlib.Core.Path.{◌≡◌, refl, sym, ap, ◌∙◌}
use mathlib.Core.Bool.{Bool, true, false}
use mathlib.Core.List.{List, [], ◌∷◌, ◌++◌, append_assoc, append-nil}
use Prim.Native.Nat.{ℕ, ◌+◌, ◌*◌, ◌^◌, ◌<◌, ◌≤◌}
use native.Mathlib.Omega.{arith}
use lib.Dec.{ltb}
use lib.ListN.{length, take, drop, length-append, length-take, length-drop, take-append-drop}
use lib.Seq.{length-take-le, take-add, take_all}
use borrow.Author.Tests.{lt-ltb, le-ltb, ltb-true, ltb-false}
use Rattle.lists.specs.Choose.{choose}
use Rattle.lists.specs.Put.{put}
use Rattle.lists.proofs.PutLaws.{put_nil, put_next, put_comm, put_front, length-put}
use Rattle.model.specs.declared.Refusal.{Refusal}
use Rattle.model.specs.declared.Refusal.TheVariants.{OutputSliceShort}
use Rattle.record.specs.Policy.{Text}
use Rattle.record.specs.Record.{Table, words, slot_of, packed, slots_of, slot_offset, text_offset, slots_in, total, head_words, encode}
use Rattle.record.specs.Written.{begun_of, headed, with_texts, written_to}
use Rattle.record.proofs.Words.{length-words}
use Rattle.record.proofs.Texts.{length-slots, packed-append, length-packed, packed_one, slots-append}
use Rattle.record.specs.record_texts.PlainSlots.{Fits}

-- no text, an absent one, a present one
pub with_none : (d : List ℕ) (i o : ℕ) → with_texts d i o [] ≡ d
unfolding with_texts slots_of packed
with_none d i o = put_nil (put d (slot_offset + 8 * i) []) o ∙ put_nil d (slot_offset + 8 * i)

pub with_absent : (d : List ℕ) (i o : ℕ) → with_texts d i o (None ∷ []) ≡ put d (slot_offset + 8 * i) (slot_of 0 None)
unfolding with_texts slots_of packed
with_absent d i o = put_nil (put d (slot_offset + 8 * i) (slot_of 0 None)) o

pub with_present : (d : List ℕ) (i o : ℕ) (b : List ℕ) → with_texts d i o (Some b ∷ []) ≡ put (put d (slot_offset + 8 * i) (slot_of o (Some b))) o b
unfolding with_texts slots_of packed
with_present d i o b = rw (append-nil b)

-- texts ts from slot i on, all slots in front of the offset o
module _ (d : List ℕ) (i o : ℕ) (ts : List Text) (room : o + length (packed ts) ≤ length d) where
  pub length_with : slot_offset + 8 * (i + length ts) ≤ o → length (with_texts d i o ts) ≡ length d
  unfolding with_texts
  length_with h =
      let l = length-slots o ts in
      let p : length (put d (slot_offset + 8 * i) (slots_of o ts)) ≡ length d = length-put d (slot_offset + 8 * i) (slots_of o ts) (omega arith) in
      length-put (put d (slot_offset + 8 * i) (slots_of o ts)) o (packed ts) (omega arith) ∙ p

  -- and the texts us behind them
  pub with_next : (us : List Text) (j p : ℕ) → slot_offset + 8 * (i + length ts + length us) ≤ o → j ≡ i + length ts → p ≡ o + length (packed ts)
      → with_texts (with_texts d i o ts) j p us ≡ with_texts d i o (ts ++ us)
  unfolding with_texts
  with_next us j p h ej ep =
      let at : ℕ = slot_offset + 8 * i in
      let next : ℕ = slot_offset + 8 * j in
      let S : List ℕ = slots_of o ts in
      let T : List ℕ = packed ts in
      let lS : length S ≡ 8 * length ts = length-slots o ts in
      let lU : length (slots_of p us) ≡ 8 * length us = length-slots p us in
      let lp : length (put d at S) ≡ length d = length-put d at S (omega arith) in
      let lSU = length-append S (slots_of p us) in
      let lq : length (put d at (S ++ slots_of p us)) ≡ length d = length-put d at (S ++ slots_of p us) (omega arith) in
      let one : put (put (put d at S) o T) next (slots_of p us) ≡ put (put d at (S ++ slots_of p us)) o T =
      put_comm (put d at S) next (slots_of p us) o T (omega arith) (omega arith)
      ∙ ap (λ (l : List ℕ). put l o T) (put_next d at S (slots_of p us) next (omega arith) (omega arith)) in
      let two : put (put (put d at (S ++ slots_of p us)) o T) p (packed us) ≡ put (put d at (S ++ slots_of p us)) o (T ++ packed us) =
      put_next (put d at (S ++ slots_of p us)) o T (packed us) p ep (omega arith) in
      let sn : slots_of o (ts ++ us) ≡ S ++ slots_of p us = slots-append o ts us ∙ rw ep in
      rw (sn, packed-append ts us) (rw one two)

-- where a present text fits
pub text-fits : (b : List ℕ) (c i o n : ℕ) → i < c → Fits (Some b ∷ []) c i o n
    → (slot_offset + 8 * i + 8 ≤ o) × (o + length b ≤ n) × (o + length b < 2 ^ 32)
text-fits b c i o n h f =
    let l = packed_one b in
    (omega (arith, f.behind), omega (arith, f.room), omega (arith, f.small))

-- what beginning a record answers
module _ (n t : ℕ) where
  pub begun_whole : (k : ℕ) → begun_of n t ≡ Ok k → (t ≤ n) × (k ≡ t)
  begun_whole k = go (ltb n t) refl
    where
      go : (b : Bool) → ltb n t ≡ b → choose b (Err (OutputSliceShort t)) (Ok t) ≡ Ok k → (t ≤ n) × (k ≡ t)
      go true h e = let z : ◌≡◌ {A = ℕ} 0 1 = cc in absurd (omega arith)
      go false h e = (ltb-false n t h, cc)

  pub begun_short : (r : Refusal) → begun_of n t ≡ Err r → (n < t) × (r ≡ OutputSliceShort t)
  begun_short r = go (ltb n t) refl
    where
      go : (b : Bool) → ltb n t ≡ b → choose b (Err (OutputSliceShort t)) (Ok t) ≡ Err r → (n < t) × (r ≡ OutputSliceShort t)
      go true h e = (ltb-true n t h, cc)
      go false h e = let z : ◌≡◌ {A = ℕ} 0 1 = cc in absurd (omega arith)

-- a slice that is too short stays as it was
pub headed-short : (d : List ℕ) (t : ℕ) (ws : List ℕ) → length d < t → headed d t ws ≡ d
headed-short d t ws h = rw (lt-ltb (length d) t h)

-- one that is long enough has the header, and no text yet
pub headed-whole : (d : List ℕ) (t : Table) → total t ≤ length d → headed d (total t) (head_words t) ≡ written_to d t 0
unfolding written_to
headed-whole d t h = rw (le-ltb (length d) (total t) h) (sym (with_none (put d 0 (words (head_words t))) 0 (text_offset (slots_in t))))

-- the offset that the first i texts reach
abbrev pub offset_to : Table → ℕ → ℕ
offset_to t i = text_offset (slots_in t) + length (packed (take i t.texts))

-- where the writing of t over d stands: the slice x holds the header and the first i texts, and the next text's offset is o
pub record Standing (d : List ℕ) (t : Table) (x : List ℕ) (i o : ℕ) : Type 0 where
  pub along : i ≤ slots_in t
  pub here : x ≡ written_to d t i
  pub offset : o ≡ offset_to t i

-- counts and texts go together, and the slice is long enough
module _ (d : List ℕ) (t : Table) (counted : length t.texts ≡ slots_in t) (room : total t ≤ length d) where
  offset-within : (i : ℕ) → offset_to t i ≤ total t
  offset-within i = omega (arith, ap (λ (l : List Text). length (packed l)) (take-append-drop i t.texts), length-packed (take i t.texts) (drop i t.texts))

  length_taken : (i : ℕ) → i ≤ slots_in t → length (take i t.texts) ≡ i
  length_taken i h = length-take-le i t.texts (omega arith)

  length_front : length (put d 0 (words (head_words t))) ≡ length d
  length_front = length-put d 0 (words (head_words t)) (omega (arith, length-words (head_words t)))

  -- all texts: the record, and behind it the slice as it was
  pub written_all : (i : ℕ) → i ≡ slots_in t → written_to d t i ≡ encode t ++ drop (total t) d
  unfolding written_to with_texts encode
  written_all i e =
      let H : List ℕ = words (head_words t) in
      let S : List ℕ = slots_of (text_offset (slots_in t)) t.texts in
      let T : List ℕ = packed t.texts in
      let lH : length H ≡ 40 = length-words (head_words t) in
      let lS : length S ≡ 8 * slots_in t = length-slots (text_offset (slots_in t)) t.texts ∙ rw counted in
      let lHS = length-append H S in
      let lST = length-append S T in
      let lX = length-append H (S ++ T) in
      let all : take i t.texts ≡ t.texts = take_all i t.texts (omega arith) in
      rw all
      (ap (λ (l : List ℕ). put l (text_offset (slots_in t)) T) (put_next d 0 H S (slot_offset + 8 * 0) (omega arith) (omega arith))
      ∙ put_next d 0 (H ++ S) T (text_offset (slots_in t)) (omega arith) (omega arith)
      ∙ ap (put d 0) (append_assoc H S T)
      ∙ put_front d (H ++ (S ++ T)) (total t) (omega arith))

  -- begun
  pub standing_start : (x : List ℕ) (n o : ℕ) (ws : List ℕ) → n ≡ total t → ws ≡ head_words t → x ≡ headed d n ws → o ≡ text_offset (slots_in t) → Standing d t x 0 o
  unfolding packed
  standing_start x n o ws en ew ex eo =
      record { along = omega arith; here = ex ∙ rw (en, ew) (headed-whole d t room); offset = omega arith }

  module _ {x : List ℕ} {i o : ℕ} (s : Standing d t x i o) where
    -- the next texts
    module _ (ts : List Text) (next : take (length ts) (drop i t.texts) ≡ ts) where
      next-few : i + length ts ≤ slots_in t
      next-few =
          let a = s.along in
          omega (arith, ap length next, length-take (length ts) (drop i t.texts), length-drop i t.texts)

      next_taken : take (i + length ts) t.texts ≡ take i t.texts ++ ts
      next_taken = take-add i (length ts) t.texts ∙ rw next

      next-offset : offset_to t (i + length ts) ≡ o + length (packed ts)
      next-offset = let e = s.offset in rw next_taken (omega (arith, length-packed (take i t.texts) ts))

      -- written
      pub standing_next : (x' : List ℕ) (i' o' : ℕ) → x' ≡ with_texts x i o ts → i' ≡ i + length ts → o' ≡ o + length (packed ts) → Standing d t x' i' o'
      unfolding written_to
      standing_next x' i' o' ex ei eo =
          let f = next-few in
          let l = length_taken i s.along in
          let w : with_texts (written_to d t i) i o ts ≡ written_to d t (i + length ts) =
          with_next (put d 0 (words (head_words t))) 0 (text_offset (slots_in t)) (take i t.texts) (omega (arith, offset-within i, length_front)) ts i o
          (omega arith) (omega arith) s.offset
          ∙ rw next_taken in
          record {
            along = omega arith;
            here = ex ∙ rw (s.here, ei) w;
            offset = eo ∙ rw ei (sym next-offset);
          }

    pub standing_end : i ≡ slots_in t → x ≡ encode t ++ drop (total t) d
    standing_end e = s.here ∙ written_all i e
