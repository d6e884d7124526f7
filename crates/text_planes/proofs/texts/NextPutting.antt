-- A row's text behind what the region's text has so far.
use mathlib.Core.Path.{◌≡◌, refl, ap}
use mathlib.Core.Bool.{Bool, true, false}
use mathlib.Core.List.{List, [], ◌∷◌, ◌++◌}
use Prim.Native.Nat.{ℕ, ◌+◌, ◌≤◌, ◌<◌}
use native.Mathlib.Omega.{arith}
use lib.Dec.{ltb}
use lib.ListN.{length, set}
use borrow.Author.Tests.{lt-ltb, le-ltb}
use Rattle.lists.proofs.PutLaws.{put_one}
use Rattle.model.specs.Limits.{text_bytes}
use Rattle.model.specs.Refusals.{Reading}
use Rattle.characters.specs.utf8.Utf8.{encode, encodes}
use Rattle.text_planes.specs.texts.Rows.{next}
use Rattle.text_planes.specs.texts.Spans.{WrittenTo, PutAt}
use Rattle.text_planes.proofs.texts.PutAtLaws.{written_none, put_then}

next-bytes : (x : List ℕ) → 0 < length x → encodes (next true x) ≡ (32 ∷ []) ++ encodes x
unfolding encodes encode
next-bytes [] h = absurd (omega arith)
next-bytes (c ∷ x) h = refl

next-same : (x : List ℕ) → next false x ≡ x
next-same [] = refl
next-same (c ∷ x) = refl

none-bytes : (x : List ℕ) (b : Bool) → length x ≤ 0 → encodes (next b x) ≡ []
unfolding encodes
none-bytes [] b h = refl
none-bytes (c ∷ x) b h = absurd (omega arith)

module _ (part : List ℕ) (start at : ℕ) where
  -- what is written of the part
  abbrev next_bytes : List ℕ
  next_bytes = encodes (next (ltb start at) part)

  pub next-none : {d : List ℕ} → length part ≤ 0 → at ≤ text_bytes → WrittenTo next_bytes d d at at
  next-none {d} h k = rw (none-bytes part (ltb start at) h) (written_none d at k)

  module _ (h : 0 < length part) (l : start < at) where
    behind-blank : next_bytes ≡ (32 ∷ []) ++ encodes part
    behind-blank = rw (lt-ltb start at l) (next-bytes part h)

    pub next_over : text_bytes ≤ at → text_bytes < at + length next_bytes
    next_over m = omega (arith, ap length behind-blank)

    pub next-blank : (d o : List ℕ) (r : Reading ℕ) → text_bytes ≤ length d → at < text_bytes → PutAt (encodes part) (set d at 32) o (at + 1) r → PutAt next_bytes d o at r
    next-blank d o r room m q =
        let b : WrittenTo (32 ∷ []) d (set d at 32) at (at + 1) = record { ends = omega arith; room = omega arith; put = put_one d at 32 (omega arith) } in
        rw behind-blank (put_then b (encodes part) o r room q)

  pub next-first : (d o : List ℕ) (r : Reading ℕ) → at ≤ start → PutAt (encodes part) d o at r → PutAt next_bytes d o at r
  next-first d o r h q = rw (le-ltb start at h, next-same part) q
