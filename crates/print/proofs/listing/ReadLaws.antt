-- What reading finds in the bytes of an encoded table: its words, and slot by slot its texts.
use Rattle.std.specs.Prelude.{None, Some}
use mathlib.Core.Path.{◌≡◌, refl, sym, ap, ◌∙◌}
use mathlib.Core.List.{List, ◌∷◌, ◌++◌, append_assoc}
use Prim.Native.Nat.{ℕ, suc, ◌+◌, ◌*◌, ◌^◌, ◌≤◌, ◌<◌}
use native.Mathlib.Nat.{add-zero}
use native.Mathlib.Omega.{arith}
use lib.ListN.{length, drop, length-append}
use lib.Seq.{drop_at, get_or-drop}
use Rattle.lists.proofs.Parts.{drop-next}
use Rattle.record.specs.Policy.{Text}
use Rattle.record.specs.Record.{Table, word, words, head_words, bytes_of, slot_of, packed, slots_of, slot_offset, text_offset, slots_in, total, encode}
use Rattle.record.specs.Compared.{word_at}
use Rattle.record.proofs.Words.{word_read, length-words}
use Rattle.record.proofs.Texts.{length-slots}
use Rattle.print.specs.listing.RecordLines.{slots_held, offset_of, length_of}

word-from : (r : List ℕ) (k : ℕ) → word_at r k ≡ word_at (drop k r) 0
unfolding word_at
word-from r k = rw (get_or-drop k r 0 0, get_or-drop k r 1 0, get_or-drop k r 2 0, get_or-drop k r 3 0, add-zero k)

-- the word w stands at index k
pub word_there : (r : List ℕ) (k w : ℕ) (x : List ℕ) → w < 2 ^ 32 → drop k r ≡ word w ++ x → word_at r k ≡ w
word_there r k w x h e = word-from r k ∙ ap (λ (l : List ℕ). word_at l 0) e ∙ word_read w x h

pub count-read : (t : Table) (d : List ℕ) → total t < 2 ^ 32 → slots_held (encode t ++ d) ≡ slots_in t
unfolding encode words
count-read t d h = word_there (encode t ++ d) 32 (slots_in t) _ (omega arith) refl

-- from slot i and the running offset o on, the bytes r hold the texts us
pub record Holds (r : List ℕ) (i o : ℕ) (us : List Text) (x y : List ℕ) : Type 0 where
  pub behind : 0 < o
  pub small : o + length (packed us) < 2 ^ 32
  pub room : o + length (packed us) ≤ length r
  pub slots : drop (slot_offset + 8 * i) r ≡ slots_of o us ++ x
  pub texts : drop o r ≡ packed us ++ y

pub holds-all : (t : Table) (d : List ℕ) → length t.texts ≡ slots_in t → total t < 2 ^ 32
    → Holds (encode t ++ d) 0 (text_offset (slots_in t)) t.texts (packed t.texts ++ d) d
unfolding encode
holds-all t d c h =
    let H : List ℕ = words (head_words t) in
    let S : List ℕ = slots_of (text_offset (slots_in t)) t.texts in
    let T : List ℕ = packed t.texts in
    let r : List ℕ = (H ++ (S ++ T)) ++ d in
    let e : r ≡ H ++ (S ++ (T ++ d)) = append_assoc H (S ++ T) d ∙ ap (λ (l : List ℕ). H ++ l) (append_assoc S T d) in
    let lH : length H ≡ 40 = length-words (head_words t) in
    let lS = length-slots (text_offset (slots_in t)) t.texts in
    let lHS = length-append H S in
    record {
      behind = omega arith;
      small = h;
      room = omega (arith, ap length e, length-append H (S ++ (T ++ d)), length-append S (T ++ d), length-append T d);
      slots = ap (drop 40) e ∙ drop_at H (S ++ (T ++ d)) 40 lH;
      texts =
          ap (drop (text_offset (slots_in t))) (e ∙ sym (append_assoc H S (T ++ d)))
          ∙ drop_at (H ++ S) (T ++ d) (text_offset (slots_in t)) (omega arith);
    }

length_slot : (o : ℕ) (u : Text) → length (slot_of o u) ≡ 8
length_slot o None = refl
length_slot o (Some t) = refl

-- the offset in the slot of a text
abbrev pub offset_for : ℕ → Text → ℕ
offset_for o None = 0
offset_for o (Some t) = o

slot_words : (o : ℕ) (u : Text) → slot_of o u ≡ word (offset_for o u) ++ word (length (bytes_of u))
slot_words o None = refl
slot_words o (Some t) = refl

offset_most : (o : ℕ) (u : Text) → offset_for o u ≤ o
offset_most o None = omega arith
offset_most o (Some t) = omega arith

module _ {r : List ℕ} {i o : ℕ} {u : Text} {us : List Text} {x y : List ℕ} (h : Holds r i o (u ∷ us) x y) where
  -- the text, and what is packed behind it
  pub text_there : drop o r ≡ bytes_of u ++ (packed us ++ y)
  unfolding packed
  text_there = h.texts ∙ append_assoc (bytes_of u) (packed us) y

  sizes : length (packed (u ∷ us)) ≡ length (bytes_of u) + length (packed us)
  unfolding packed
  sizes = length-append (bytes_of u) (packed us)

  slot_there : drop (slot_offset + 8 * i) r ≡ slot_of o u ++ (slots_of (o + length (bytes_of u)) us ++ x)
  unfolding slots_of
  slot_there = h.slots ∙ append_assoc (slot_of o u) (slots_of (o + length (bytes_of u)) us) x

  words_there : drop (slot_offset + 8 * i) r ≡ word (offset_for o u) ++ (word (length (bytes_of u)) ++ (slots_of (o + length (bytes_of u)) us ++ x))
  words_there = slot_there ∙ ap (λ (l : List ℕ). l ++ (slots_of (o + length (bytes_of u)) us ++ x)) (slot_words o u)

  pub offset_read : offset_of r i ≡ offset_for o u
  offset_read = word_there r (slot_offset + 8 * i) (offset_for o u) _ (omega (arith, offset_most o u, h.small)) words_there

  pub length-read : length_of r i ≡ length (bytes_of u)
  length-read =
      word_there r (slot_offset + 8 * i + 4) (length (bytes_of u)) _ (omega (arith, sizes, h.small))
      (drop-next r (slot_offset + 8 * i) (word (offset_for o u)) _ words_there)

  pub part_inside : offset_of r i + length_of r i ≤ length r
  part_inside = omega (arith, offset_read, length-read, offset_most o u, sizes, h.room)

  -- the texts behind it
  pub holds-next : Holds r (suc i) (o + length (bytes_of u)) us x y
  holds-next =
      let z : slot_offset + 8 * i + length (slot_of o u) ≡ slot_offset + 8 * suc i = omega (arith, length_slot o u) in
      record {
        behind = omega (arith, h.behind);
        small = omega (arith, sizes, h.small);
        room = omega (arith, sizes, h.room);
        slots = ap (λ (k : ℕ). drop k r) (sym z) ∙ drop-next r (slot_offset + 8 * i) (slot_of o u) _ slot_there;
        texts = drop-next r o (bytes_of u) (packed us ++ y) text_there;
      }
