-- Laws of the texts of all regions: as many as the rects, and together at most 61,440 bytes.
use Rattle.std.specs.Prelude.{Ok, Err}
use mathlib.Core.Path.{◌≡◌, sym, ap, ◌∙◌}
use mathlib.Core.List.{List, [], ◌∷◌, ◌++◌, append_assoc, append-nil, map}
use Prim.Native.Nat.{ℕ, ◌+◌, ◌≤◌, ◌<◌}
use lib.Dec.{ltb}
use lib.ListN.{length, length-append, length-map}
use borrow.Author.Tests.{lt-ltb, le-ltb, ltb-false}
use Rattle.lists.specs.Picture.{Picture}
use Rattle.lists.proofs.AnswerLaws.{refused-ok}
use Rattle.lists.proofs.Tests.{by_flag}
use Rattle.model.specs.Limits.{text_bytes}
use Rattle.model.specs.declared.Rect.{Rect}
use Rattle.model.specs.declared.Refusal.TheVariants.{OverLimit}
use Rattle.text_planes.specs.texts.RegionText.{text_of, packed, texts_of}

module _ (p : Picture) (rs : List Rect) where
  pub texts-all : length (packed (map (text_of p) rs)) ≤ text_bytes → texts_of p rs ≡ Ok (map (text_of p) rs)
  unfolding texts_of
  texts-all h = rw (le-ltb text_bytes (length (packed (map (text_of p) rs))) h)

  pub texts_over : text_bytes < length (packed (map (text_of p) rs)) → texts_of p rs ≡ Err OverLimit
  unfolding texts_of
  texts_over h = rw (lt-ltb text_bytes (length (packed (map (text_of p) rs))) h)

  -- texts that are not refused
  pub texts_are : (ts : List (List ℕ)) → texts_of p rs ≡ Ok ts → (length (packed (map (text_of p) rs)) ≤ text_bytes) × (map (text_of p) rs ≡ ts)
  unfolding texts_of
  texts_are ts e =
      by_flag (ltb text_bytes (length (packed (map (text_of p) rs))))
      (λ f. refused-ok (rw f at e))
      (λ f. let g = rw f at e in (ltb-false _ _ f, (cc)))

  pub texts_fit : {ts : List (List ℕ)} → texts_of p rs ≡ Ok ts → length (packed ts) ≤ text_bytes
  texts_fit {ts} e = let t = texts_are ts e in rw (← t.1) t.0

  pub texts-count : {ts : List (List ℕ)} → texts_of p rs ≡ Ok ts → length ts ≡ length rs
  texts-count {ts} e = ap length (sym (texts_are ts e).1) ∙ length-map rs (text_of p)

packed_snoc : (ts : List (List ℕ)) (t : List ℕ) → packed (ts ++ (t ∷ [])) ≡ packed ts ++ t
unfolding packed
packed_snoc [] t = append-nil t
packed_snoc (x ∷ ts) t = rw (packed_snoc ts t) (sym (append_assoc x (packed ts) t))

-- one text more
pub length_snoc : (ts : List (List ℕ)) (t : List ℕ) → length (packed (ts ++ (t ∷ []))) ≡ length (packed ts) + length t
length_snoc ts t = ap length (packed_snoc ts t) ∙ length-append (packed ts) t
