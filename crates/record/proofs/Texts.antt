-- Laws of slots and packed texts: their lengths, one run behind another, and that together they give the texts.
use Rattle.std.specs.Prelude.{None, Some}
use mathlib.Core.Path.{◌≡◌, refl, sym, ap, ◌∙◌}
use mathlib.Core.List.{List, [], ◌∷◌, ◌++◌, append_assoc, append-nil}
use Prim.Native.Nat.{ℕ, suc, ◌+◌, ◌*◌, ◌^◌, ◌<◌, ◌≤◌}
use native.Mathlib.Nat.{add_assoc, add-zero, suc-mul}
use native.Mathlib.Omega.{arith}
use lib.ListN.{length, get_or, length-append}
use Rattle.lists.proofs.Parts.{cut_left, cut_right}
use Rattle.record.specs.Policy.{Text}
use Rattle.record.specs.Record.{bytes_of, slot_of, packed, slots_of}
use Rattle.record.proofs.Words.{word_inj, word-rest}

-- a slot has eight bytes
pub length-slots : (o : ℕ) (ts : List Text) → length (slots_of o ts) ≡ 8 * length ts
unfolding slots_of
length-slots o [] = refl
length-slots o (None ∷ ts) = omega (arith, length-slots (o + 0) ts)
length-slots o (Some t ∷ ts) = omega (arith, length-slots (o + length t) ts)

pub packed-append : (ts us : List Text) → packed (ts ++ us) ≡ packed ts ++ packed us
unfolding packed
packed-append [] us = refl
packed-append (t ∷ ts) us = rw (packed-append ts us) (sym (append_assoc (bytes_of t) (packed ts) (packed us)))

pub length-packed : (ts us : List Text) → length (packed (ts ++ us)) ≡ length (packed ts) + length (packed us)
length-packed ts us = ap length (packed-append ts us) ∙ length-append (packed ts) (packed us)

pub packed_one : (b : List ℕ) → length (packed (Some b ∷ [])) ≡ length b
unfolding packed
packed_one b = rw (append-nil b)

-- the second run of slots begins at the offset that the first one's texts reach
pub slots-append : (o : ℕ) (ts us : List Text) → slots_of o (ts ++ us) ≡ slots_of o ts ++ slots_of (o + length (packed ts)) us
unfolding slots_of packed
slots-append o [] us = rw (add-zero o)
slots-append o (t ∷ ts) us =
    rw (slots-append (o + length (bytes_of t)) ts us, length-append (bytes_of t) (packed ts), add_assoc o (length (bytes_of t)) (length (packed ts)))
    (sym (append_assoc (slot_of o t) (slots_of (o + length (bytes_of t)) ts) _))

-- texts of at most m bytes each
pub packed_most : (m : ℕ) (ts : List Text) → ((i : ℕ) → i < length ts → length (bytes_of (get_or ts i None)) ≤ m) → length (packed ts) ≤ length ts * m
unfolding packed
packed_most m [] h = omega arith
packed_most m (t ∷ ts) h =
    let a : length (bytes_of t) ≤ m = h 0 (omega arith) in
    let b : length (packed ts) ≤ length ts * m = packed_most m ts (λ i l. h (suc i) (omega arith)) in
    omega (arith, length-append (bytes_of t) (packed ts), suc-mul (length ts) m)

-- the slots tell absent from present and give each length; with the lengths the packed bytes give each text
pub texts_inj : (o : ℕ) (ts us : List Text) → 0 < o → o + length (packed ts) < 2 ^ 32 → o + length (packed us) < 2 ^ 32
    → slots_of o ts ≡ slots_of o us → packed ts ≡ packed us → ts ≡ us
unfolding slots_of packed
texts_inj o [] [] pos ht hu es ep = refl
texts_inj o [] (None ∷ us) pos ht hu es ep = absurd (omega (arith, ap length es))
texts_inj o [] (Some u ∷ us) pos ht hu es ep = absurd (omega (arith, ap length es))
texts_inj o (None ∷ ts) [] pos ht hu es ep = absurd (omega (arith, ap length es))
texts_inj o (Some t ∷ ts) [] pos ht hu es ep = absurd (omega (arith, ap length es))
texts_inj o (None ∷ ts) (None ∷ us) pos ht hu es ep =
    ap (λ (l : List Text). None ∷ l) (texts_inj (o + 0) ts us (omega arith) (omega arith) (omega arith) (cc) ep)
texts_inj o (None ∷ ts) (Some u ∷ us) pos ht hu es ep = absurd (omega (arith, word_inj 0 o _ _ (omega arith) (omega arith) es))
texts_inj o (Some t ∷ ts) (None ∷ us) pos ht hu es ep = absurd (omega (arith, word_inj o 0 _ _ (omega arith) (omega arith) es))
texts_inj o (Some t ∷ ts) (Some u ∷ us) pos ht hu es ep =
    let lt = length-append t (packed ts) in
    let lu = length-append u (packed us) in
    let l : length t ≡ length u = word_inj (length t) (length u) _ _ (omega arith) (omega arith) (word-rest o o _ _ es) in
    let same : t ≡ u = cut_left t u _ _ l ep in
    let rest : slots_of (o + length t) ts ≡ slots_of (o + length t) us = cc in
    let more : ts ≡ us = texts_inj (o + length t) ts us (omega arith) (omega arith) (omega arith) rest (cut_right t u _ _ l ep) in
    cc
