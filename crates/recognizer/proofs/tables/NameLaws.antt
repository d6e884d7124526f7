-- The name's slot in front of the others.
use Rattle.std.specs.Prelude.{Ok, None, Some}
use mathlib.Core.Path.{◌≡◌, refl, sym, ap, ◌∙◌}
use mathlib.Core.Bool.{Bool, true, false}
use mathlib.Core.List.{List, ◌∷◌}
use Prim.Native.Nat.{ℕ, zero, suc, ◌+◌, ◌-◌, ◌*◌, ◌≤◌, ◌<◌}
use native.Mathlib.Omega.{arith}
use lib.ListN.{length, get_or, take, drop, length-append, length-drop}
use lib.Seq.{length-take-le}
use Rattle.lists.specs.Choose.{choose}
use Rattle.lists.specs.Run.{run}
use Rattle.lists.proofs.RunLaws.{run-same}
use Rattle.model.specs.Limits.{text_bytes}
use Rattle.model.specs.Refusals.{Reading}
use Rattle.record.specs.Policy.{Text}
use Rattle.record.specs.Record.{Table, packed, bytes_of}
use Rattle.record.specs.Slots.{kind_at, offset_at, length_at, slot_limit}
use Rattle.cells.specs.Held.{TextsHeld}
use Rattle.cells.specs.Spans as spans
use Rattle.cells.proofs.SpanLaws.{text_in_lem}
use Rattle.record.specs.writer.SlotTexts.{slot_text, texts_from}
use Rattle.recognizer.specs.slot_runs.Spelt.{SlotPut}
use Rattle.recognizer.specs.Told.{TableHeld, table_in}
use Rattle.recognizer.specs.declared.SlotTable.{SlotTable}
use Rattle.recognizer.specs.tables.NamedTable.{name_of, named_table, NameIn, NamePut, Named}

-- a name that is taken from texts in slices
pub record NameHeld (named : Bool) (bytes ss : List ℕ) (count : ℕ) : Type 0 where
  pub first : NameIn named count
  pub few : length bytes ≤ text_bytes
  pub texts : TextsHeld bytes ss count

-- slot 0 as it was written
pub name_part : {ss d o : List ℕ} {named : Bool} → named ≡ true → SlotPut d o 0 1 (spans.offset_at ss 0) (spans.length_at ss 0) → NamePut named ss d o (spans.length_at ss 0)
unfolding slot_text
name_part t p =
    record {
      text = λ bytes. rw (t, p.kind, p.offset, p.size);
      bytes = rw t;
      inside = rw (t, p.offset, p.size);
      kept = λ j h. p.behind j (omega arith);
    }

pub name_absent : {ss d o : List ℕ} {named : Bool} → named ≡ false → SlotPut d o 0 0 0 0 → NamePut named ss d o 0
unfolding slot_text
name_absent t p =
    record {
      text = λ bytes. rw (t, p.kind);
      bytes = rw t;
      inside = rw (t, p.offset, p.size);
      kept = λ j h. p.behind j (omega arith);
    }

-- the name is that of the slot
name-text : (named : Bool) (bytes ss : List ℕ) (count : ℕ) → NameIn named count
    → choose named (Some (spans.text_at bytes ss 0)) None ≡ name_of named (spans.text_in bytes ss count)
name-text true bytes ss count h = ap Some (sym (text_in_lem bytes ss count 0 (h refl)))
name-text false bytes ss count h = refl

-- what was not written keeps its texts
kept-texts : (bytes d o : List ℕ) (n : ℕ) → ((j : ℕ) → 3 ≤ j → get_or o j 0 ≡ get_or d j 0) → texts_from bytes o 1 n ≡ texts_from bytes d 1 n
unfolding slot_text
kept-texts bytes d o n k = run-same (slot_text bytes o) (slot_text bytes d) 1 n (λ i a b. same i a)
  where
    same : (i : ℕ) → 1 ≤ i → slot_text bytes o i ≡ slot_text bytes d i
    same i h =
        let a : kind_at o i ≡ kind_at d i = k (3 * i) (omega arith) in
        let b : offset_at o i ≡ offset_at d i = k (3 * i + 1) (omega arith) in
        let c : length_at o i ≡ length_at d i = k (3 * i + 2) (omega arith) in
        rw (a, b, c)

-- the first text, and the others
first-text : {A : Type 0} (f : ℕ → A) (n : ℕ) → 1 ≤ n → run f 0 n ≡ f 0 ∷ run f 1 (n - 1)
unfolding run
first-text f zero h = absurd (omega arith)
first-text f (suc n) h = let e : suc n - 1 ≡ n = omega arith in rw e

pub some-slots : {t : SlotTable} {bytes d : List ℕ} → TableHeld t bytes d → 1 ≤ t.slots
some-slots h = omega (arith, h.slots)

part_size : (bytes : List ℕ) (a n : ℕ) → a + n ≤ length bytes → length (take n (drop a bytes)) ≡ n
part_size bytes a n h = length-take-le n (drop a bytes) (omega (arith, length-drop a bytes))

-- the bytes of a name
name-bytes : (named : Bool) (bytes ss : List ℕ) (count : ℕ) → NameHeld named bytes ss count
    → length (bytes_of (name_of named (spans.text_in bytes ss count))) ≡ choose named (spans.length_at ss 0) 0
name-bytes true bytes ss count n =
    let h = n.first refl in
    ap length (text_in_lem bytes ss count 0 h) ∙ part_size bytes (spans.offset_at ss 0) (spans.length_at ss 0) (n.texts.inside 0 h)
name-bytes false bytes ss count n = refl

name-inside : (named : Bool) (bytes ss : List ℕ) (count : ℕ) → NameHeld named bytes ss count
    → choose named (spans.offset_at ss 0 + spans.length_at ss 0) 0 ≤ length bytes
name-inside true bytes ss count n = n.texts.inside 0 (n.first refl)
name-inside false bytes ss count n = omega arith

-- so few that they can be added up
pub name-light : {t : SlotTable} {named : Bool} {bytes ss d o : List ℕ} {count size : ℕ} → TableHeld t bytes d → NameHeld named bytes ss count → NamePut named ss d o size
    → t.bytes + size ≤ (slot_limit + 1) * text_bytes
name-light {t} {named} {bytes} {ss} {d} {o} {count} {size} h n p = omega (arith, h.light, h.few, p.bytes, name-inside named bytes ss count n, name_most named, n.few)
  where
    name_most : (b : Bool) → choose b (spans.length_at ss 0) 0 ≤ choose b (spans.offset_at ss 0 + spans.length_at ss 0) 0
    name_most true = omega arith
    name_most false = omega arith

-- the bytes of texts behind a name
packed_front : (t : Text) (ts : List Text) → length (packed (t ∷ ts)) ≡ length (bytes_of t) + length (packed ts)
unfolding packed
packed_front t ts = length-append (bytes_of t) (packed ts)

-- a table with its name
module _ {t : SlotTable} {named : Bool} {bytes ss d o : List ℕ} {count size : ℕ} (h : TableHeld t bytes d) (n : NameHeld named bytes ss count) (p : NamePut named ss d o size) where
  abbrev name : Text
  name = name_of named (spans.text_in bytes ss count)

  abbrev pub with_name : ℕ → SlotTable
  with_name more =
      record {
        policy = t.policy;
        orientation = t.orientation;
        inputs = t.inputs;
        outputs = t.outputs;
        annotations = t.annotations;
        rules = t.rules;
        slots = t.slots;
        bytes = t.bytes + more;
      }

  size_is : size ≡ length (bytes_of name)
  size_is = p.bytes ∙ sym (name-bytes named bytes ss count n)

  texts_are : texts_from bytes o 0 t.slots ≡ name ∷ texts_from bytes d 1 (t.slots - 1)
  texts_are =
      first-text (slot_text bytes o) t.slots (some-slots h)
      ∙ rw (p.text bytes, name-text named bytes ss count n.first, kept-texts bytes d o (t.slots - 1) p.kept)

  inside-all : (i : ℕ) → i < t.slots → offset_at o i + length_at o i ≤ length bytes
  inside-all zero l = rw p.inside (name-inside named bytes ss count n)
  inside-all (suc i) l =
      let a : offset_at o (suc i) ≡ offset_at d (suc i) = p.kept (3 * suc i + 1) (omega arith) in
      let b : length_at o (suc i) ≡ length_at d (suc i) = p.kept (3 * suc i + 2) (omega arith) in
      rw (a, b) (h.inside (suc i) (omega arith) l)

  pub table-named : Named t (with_name size) name bytes d o
  table-named =
      record {
        same = rw size_is;
        texts = texts_are;
        held =
            record {
              short = n.few;
              slots = h.slots;
              few = h.few;
              rules = h.rules;
              total = omega (arith, h.total, size_is, ap (λ (ts : List Text). length (packed ts)) texts_are, packed_front name (texts_from bytes d 1 (t.slots - 1)));
              inside = inside-all;
            };
      }

-- the same table
pub named_table_lem : {t r : SlotTable} {name : Text} {bytes d o : List ℕ} (m : Reading Table) → Named t r name bytes d o → table_in name (Ok t) bytes d ≡ m → named_table (Ok r) bytes o ≡ m
named_table_lem m n e = rw (n.same, n.texts) e
