-- A row more in a region's text.
use mathlib.Core.Path.{◌≡◌, refl, sym, ap, ◌∙◌}
use mathlib.Core.Bool.{Bool, true, false}
use mathlib.Core.List.{List, [], ◌∷◌, ◌++◌, append_assoc, append-nil}
use Prim.Native.Nat.{ℕ, ◌+◌, ◌≤◌, ◌<◌}
use native.Mathlib.Omega.{arith}
use lib.Dec.{ltb, leb}
use lib.ListN.{length, length-append}
use borrow.Author.Tests.{lt-ltb, le-ltb}
use Rattle.lists.specs.Choose.{choose}
use Rattle.characters.specs.white_space.Lines.{kept, texts}
use Rattle.characters.specs.white_space.Trim.{trim}
use Rattle.characters.specs.utf8.Utf8.{encode, encodes}
use Rattle.characters.proofs.utf8.Inverse.{encodes-append}
use Rattle.text_planes.specs.texts.RegionText.{behind, joined}
use Rattle.text_planes.specs.texts.Rows.{next}

-- whether a text has begun
abbrev pub begun : List ℕ → Bool
begun [] = false
begun (c ∷ t) = true

behind-kept : (t : List ℕ) (ts : List (List ℕ)) → behind (kept t ts) ≡ next true t ++ behind ts
unfolding behind
behind-kept [] ts = refl
behind-kept (c ∷ t) ts = refl

behind_snoc : (rs : List (List ℕ)) (r : List ℕ) → behind (texts (rs ++ (r ∷ []))) ≡ behind (texts rs) ++ next true (trim r)
unfolding texts behind
behind_snoc [] r = behind-kept (trim r) [] ∙ append-nil (next true (trim r))
behind_snoc (x ∷ rs) r =
    behind-kept (trim x) (texts (rs ++ (r ∷ []))) ∙ rw (behind_snoc rs r, behind-kept (trim x) (texts rs))
    (sym (append_assoc (next true (trim x)) (behind (texts rs)) (next true (trim r))))

joined_one : (t : List ℕ) → joined (kept t []) ≡ next false t
unfolding behind
joined_one [] = refl
joined_one (c ∷ t) = append-nil (c ∷ t)

-- a text in front of others, to which u is added
joined-kept : (t : List ℕ) (ts ts' : List (List ℕ)) (u : List ℕ)
    → joined ts' ≡ joined ts ++ next (begun (joined ts)) u → behind ts' ≡ behind ts ++ next true u
    → joined (kept t ts') ≡ joined (kept t ts) ++ next (begun (joined (kept t ts))) u
joined-kept [] ts ts' u e f = e
joined-kept (c ∷ t) ts ts' u e f = rw f (sym (append_assoc (c ∷ t) (behind ts) (next true u)))

joined_snoc : (rs : List (List ℕ)) (r : List ℕ) → joined (texts (rs ++ (r ∷ []))) ≡ joined (texts rs) ++ next (begun (joined (texts rs))) (trim r)
unfolding texts
joined_snoc [] r = joined_one (trim r)
joined_snoc (x ∷ rs) r = joined-kept (trim x) (texts rs) (texts (rs ++ (r ∷ []))) (trim r) (joined_snoc rs r) (behind_snoc rs r)

-- the bytes of the rows' text
abbrev pub rows_bytes : List (List ℕ) → List ℕ
rows_bytes rs = encodes (joined (texts rs))

pub bytes_snoc : (rs : List (List ℕ)) (r : List ℕ) → rows_bytes (rs ++ (r ∷ [])) ≡ rows_bytes rs ++ encodes (next (begun (joined (texts rs))) (trim r))
bytes_snoc rs r = ap encodes (joined_snoc rs r) ∙ encodes-append (joined (texts rs)) (next (begun (joined (texts rs))) (trim r))

pub bytes_grow : (rs : List (List ℕ)) (r : List ℕ) → length (rows_bytes rs) ≤ length (rows_bytes (rs ++ (r ∷ [])))
bytes_grow rs r = rw (bytes_snoc rs r, length-append (rows_bytes rs) (encodes (next (begun (joined (texts rs))) (trim r)))) (omega arith)

some_of : (t : Bool) (a b : List ℕ) → 0 < length a → 0 < length b → 0 < length (choose t a b)
some_of true a b h k = h
some_of false a b h k = k

encode-some : (c : ℕ) → 0 < length (encode c)
unfolding encode
encode-some c = some_of (leb c 0x7F) _ _ (omega arith) (some_of (leb c 0x7FF) _ _ (omega arith) (some_of (leb c 0xFFFF) _ _ (omega arith) (omega arith)))

-- a text has begun where its bytes are more than none
pub begun_test : (x : List ℕ) (start at : ℕ) → at ≡ start + length (encodes x) → ltb start at ≡ begun x
unfolding encodes
begun_test [] start at e = le-ltb start at (omega arith)
begun_test (c ∷ x) start at e = lt-ltb start at (omega (arith, encode-some c, length-append (encode c) (encodes x)))
