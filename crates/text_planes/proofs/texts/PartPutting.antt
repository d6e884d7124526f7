-- Characters that are being written as UTF-8.
use mathlib.Core.Path.{◌≡◌, refl, sym, ap, ◌∙◌}
use mathlib.Core.List.{List, ◌++◌, append-nil}
use Prim.Native.Nat.{ℕ, ◌+◌, ◌≤◌, ◌<◌}
use native.Mathlib.Omega.{arith}
use lib.ListN.{length, get_or, take, drop, length-append, take-append-drop}
use lib.Seq.{take-add, take-length}
use Rattle.lists.specs.Put.{put}
use Rattle.lists.proofs.Parts.{at_cons}
use Rattle.lists.proofs.PutLaws.{put_next}
use Rattle.model.specs.Limits.{text_bytes}
use Rattle.characters.specs.utf8.Utf8.{encode, encodes}
use Rattle.characters.proofs.utf8.Inverse.{encodes-append}
use Rattle.text_planes.specs.texts.Spans.{WrittenTo}
use Rattle.text_planes.proofs.texts.PutAtLaws.{written_none}

-- i characters and the rest of them
module _ (s : List ℕ) (i : ℕ) where
  bytes_apart : encodes s ≡ encodes (take i s) ++ encodes (drop i s)
  bytes_apart = ap encodes (sym (take-append-drop i s)) ∙ encodes-append (take i s) (drop i s)

  bytes_next : i < length s → encodes (take (i + 1) s) ≡ encodes (take i s) ++ encode (get_or s i 0)
  unfolding encodes
  bytes_next l =
      ap encodes (take-add i 1 s) ∙ encodes-append (take i s) (take 1 (drop i s)) ∙ rw (at_cons s i 0 l, append-nil (encode (get_or s i 0)))

-- the first i characters stand in d from `at` on, and p is behind them
pub record Encoding (s d : List ℕ) (at : ℕ) (out : List ℕ) (i p : ℕ) : Type 0 where
  pub along : i ≤ length s
  pub done : WrittenTo (encodes (take i s)) d out at p
  pub long : length out ≡ length d

pub encoding_start : {s d : List ℕ} {at : ℕ} → at ≤ text_bytes → Encoding s d at d 0 at
unfolding encodes
encoding_start {s} {d} {at} h = record { along = omega arith; done = written_none d at h; long = refl }

module _ {s d : List ℕ} {at : ℕ} {out : List ℕ} {i p : ℕ} (q : Encoding s d at out i p) where
  module _ (h : i < length s) {o : List ℕ} {r : ℕ} (e : (r ≡ p + length (encode (get_or s i 0))) × (o ≡ put out p (encode (get_or s i 0)))) where
    size_next : r ≡ at + length (encodes (take (i + 1) s))
    size_next = omega (arith, e.0, q.done.ends, ap length (bytes_next s i h), length-append (encodes (take i s)) (encode (get_or s i 0)))

    pub encoding_more : r ≤ text_bytes → text_bytes ≤ length d → length o ≡ length out → Encoding s d at o (i + 1) r
    encoding_more k room l =
        let c : List ℕ = encode (get_or s i 0) in
        record {
          along = omega arith;
          done =
              record {
                ends = size_next;
                room = k;
                put = e.1 ∙ ap (λ (x : List ℕ). put x p c) q.done.put ∙ put_next d at (encodes (take i s)) c p q.done.ends (omega (arith, q.done.room, room)) ∙ ap (put d at) (sym (bytes_next s i h));
              };
          long = l ∙ q.long;
        }

    pub encoding_past : text_bytes < r → text_bytes < at + length (encodes s)
    encoding_past k =
        omega (arith, size_next, ap length (bytes_apart s (i + 1)), length-append (encodes (take (i + 1) s)) (encodes (drop (i + 1) s)))

  pub encoding_end : length s ≤ i → WrittenTo (encodes s) d out at p
  encoding_end h =
      let z : i ≡ length s = omega (arith, q.along) in
      let n : take i s ≡ s = rw z (take-length s) in
      rw n at q.done
