-- A record's lines are the lines of its table.
use Rattle.std.specs.Prelude.{None, Some}
use mathlib.Core.Path.{◌≡◌, refl, sym, ap, ◌∙◌}
use mathlib.Core.List.{List, [], ◌∷◌, ◌++◌}
use Prim.Native.Nat.{ℕ, suc, ◌+◌, ◌^◌, ◌<◌}
use native.Mathlib.Omega.{arith}
use borrow.Author.Tests.{ne_eqb}
use lib.ListN.{length, take}
use lib.Seq.{take_at}
use Rattle.record.specs.Policy.{Text}
use Rattle.record.specs.Record.{Table, words, bytes_of, packed, text_offset, slots_in, total, encode}
use Rattle.print.specs.listing.RecordLines.{present_line, slot_line, slot_lines, head_read, record_lines, count_lines, head_lines}
use Rattle.print.specs.listing.TableLines.{text_line, text_lines, table_lines}
use Rattle.print.proofs.listing.LineLaws.{slot_absent, slot_present}
use Rattle.print.proofs.listing.ReadLaws.{Holds, word_there, count-read, holds-all, holds-next, offset_read, length-read, text_there}

slot_line_lem : {r : List ℕ} {x y : List ℕ} (i o : ℕ) (u : Text) (us : List Text) → Holds r i o (u ∷ us) x y → slot_line r i ≡ text_line i o u
unfolding text_line
slot_line_lem {r} i o None us h = sym (slot_absent r i (sym (offset_read h)) (sym (length-read h)) refl)
slot_line_lem {r} {x} {y} i o (Some t) us h =
    let p = h.behind in
    sym (slot_present r i (sym (offset_read h)) (sym (length-read h)) (rw (ne_eqb o 0 (λ e. omega arith))))
    ∙ ap (present_line i o (length t)) (ap (take (length t)) (text_there h) ∙ take_at t (packed us ++ y) (length t) refl)

slot_lines_lem : {r : List ℕ} {x y : List ℕ} (i o : ℕ) (us : List Text) → Holds r i o us x y → slot_lines r i (length us) ≡ text_lines i o us
unfolding slot_lines text_lines
slot_lines_lem i o [] h = refl
slot_lines_lem {r} i o (u ∷ us) h = rw (slot_line_lem i o u us h, slot_lines_lem (suc i) (o + length (bytes_of u)) us (holds-next h))

head_lines_lem : (t : Table) (d : List ℕ) → total t < 2 ^ 32 → t.policy < 2 ^ 32 → t.orientation < 2 ^ 32 → t.rules < 2 ^ 32
    → head_read (encode t ++ d) ≡ head_lines (total t) t.policy t.orientation (count_lines t.inputs t.outputs t.annotations t.rules)
unfolding encode words
head_lines_lem t d f p o r =
    let z = encode t ++ d in
    rw (
      word_there z 0 (total t) _ f refl,
      word_there z 4 t.policy _ p refl,
      word_there z 8 t.orientation _ o refl,
      word_there z 12 t.inputs _ (omega arith) refl,
      word_there z 16 t.outputs _ (omega arith) refl,
      word_there z 20 t.annotations _ (omega arith) refl,
      word_there z 24 t.rules _ r refl,
    )

-- d is what follows the record
pub encode-lines : (t : Table) (d : List ℕ) → length t.texts ≡ slots_in t → total t < 2 ^ 32 → t.policy < 2 ^ 32 → t.orientation < 2 ^ 32 → t.rules < 2 ^ 32
    → record_lines (encode t ++ d) ≡ table_lines t
unfolding record_lines table_lines
encode-lines t d c f p o r =
    let z : slot_lines (encode t ++ d) 0 (slots_in t) ≡ text_lines 0 (text_offset (slots_in t)) t.texts =
    ap (slot_lines (encode t ++ d) 0) (sym c) ∙ slot_lines_lem 0 (text_offset (slots_in t)) t.texts (holds-all t d c f) in
    rw (head_lines_lem t d f p o r, count-read t d f, z)
