-- Writing a table's slots: the text of a slot, what is left of the slots, and the record as a whole.
use Rattle.std.specs.Prelude.{Ok, Err, None, Some}
use mathlib.Core.Path.{◌≡◌, refl, sym, ap, ◌∙◌}
use mathlib.Core.List.{List, [], ◌∷◌, ◌++◌}
use Prim.Native.Nat.{ℕ, zero, suc, ◌+◌, ◌-◌, ◌*◌, ◌^◌, ◌≤◌, ◌<◌}
use native.Mathlib.Omega.{arith}
use lib.ListN.{length, get_or, take, drop, length-append, length-take, length-drop}
use lib.Seq.{take_all}
use borrow.Author.Tests.{lt-ltb, le-ltb}
use Rattle.lists.specs.Put.{put}
use Rattle.lists.specs.Run.{run}
use Rattle.lists.proofs.PutLaws.{put_front}
use Rattle.lists.proofs.RunLaws.{length_run, run_then, get_or-build}
use Rattle.model.specs.declared.Refusal.{Refusal}
use Rattle.record.specs.Policy.{Text}
use Rattle.record.specs.Record.{Table, word, bytes_of, packed, slot_offset, text_offset, slots_in, total, encode}
use Rattle.record.specs.Slots.{kind_at, offset_at, length_at, part_at}
use Rattle.record.specs.Written.{begun_of, headed, with_texts}
use Rattle.record.specs.declared.Head.{Head}
use Rattle.record.proofs.RecordTellsPolicy.{length-encode}
use Rattle.record.proofs.Texts.{length-packed}
use Rattle.record.proofs.TotalFits.{total-fits}
use Rattle.record.specs.record_texts.PlainSlots.{of_kind, text_at, Parts, Fits}
use Rattle.record.proofs.record_texts.Steps.{slot_written}
use Rattle.record.proofs.record_texts.Writing.{with_none, length_with, with_next, text-fits, begun_whole, begun_short, headed-short, standing_start, standing_next, standing_end}
use Rattle.values.specs.Values.{values_of}
use Rattle.values.proofs.ValueLaws.{split-length}
use Rattle.record.specs.writer.SlotRecord.{table_from, record_in, SlotsHeld}
use Rattle.record.specs.writer.SlotTexts.{text_of_kind, slot_text, texts_from}

module _ (bytes d : List ℕ) (i : ℕ) where
  -- the record's reading of a slot that is absent or a part
  pub slot_plain : kind_at d i ≤ 1 → text_at bytes d i ≡ slot_text bytes d i
  unfolding text_at slot_text
  slot_plain h = go (kind_at d i) h
    where
      go : (k : ℕ) → k ≤ 1 → of_kind k (part_at bytes d i) ≡ text_of_kind k (part_at bytes d i)
      go zero l = refl
      go (suc zero) l = refl
      go (suc (suc k)) l = absurd (omega arith)

  slot_values : 1 < kind_at d i → slot_text bytes d i ≡ Some (values_of (part_at bytes d i)).allowed
  unfolding slot_text
  slot_values h = go (kind_at d i) h
    where
      go : (k : ℕ) → 1 < k → text_of_kind k (part_at bytes d i) ≡ Some (values_of (part_at bytes d i)).allowed
      go zero l = absurd (omega arith)
      go (suc zero) l = absurd (omega arith)
      go (suc (suc k)) l = refl

  -- neither a part nor a text is longer than the bytes
  part_short : length (part_at bytes d i) ≤ length bytes
  part_short = omega (arith, length-take (length_at d i) (drop (offset_at d i) bytes), length-drop (offset_at d i) bytes)

  slot_short : length (bytes_of (slot_text bytes d i)) ≤ length bytes
  unfolding slot_text
  slot_short = go (kind_at d i)
    where
      go : (k : ℕ) → length (bytes_of (text_of_kind k (part_at bytes d i))) ≤ length bytes
      go zero = omega arith
      go (suc zero) = part_short
      go (suc (suc k)) = omega (arith, part_short, split-length (part_at bytes d i))

-- a slot whose text is the allowed values of its part t
module _ (bytes d : List ℕ) (i : ℕ) (k : 1 < kind_at d i) (t : List ℕ) (et : t ≡ part_at bytes d i) where
  values-text : slot_text bytes d i ≡ Some (values_of t).allowed
  values-text = slot_values bytes d i k ∙ rw et

  -- what writing them asks, and what it leaves
  module _ (c o n : ℕ) (h : i < c) (f : Fits (slot_text bytes d i ∷ []) c i o n) where
    pub values_ask : (slot_offset + 8 * i + 8 ≤ o) × (o + length (values_of t).allowed ≤ n) × (o + length (values_of t).allowed < 2 ^ 32)
    values_ask = text-fits (values_of t).allowed c i o n h (rw values-text at f)

    pub values-left : (x y z : List ℕ) (e : ℕ) → length x ≡ n → (e ≡ o + length (values_of t).allowed) × (y ≡ put x o (values_of t).allowed)
        → z ≡ put y (slot_offset + 8 * i) (word o ++ word (e - o))
        → (e ≡ o + length (bytes_of (slot_text bytes d i))) × (z ≡ with_texts x i o (slot_text bytes d i ∷ []))
    values-left x y z e l w u =
        let m : e - o ≡ length (values_of t).allowed = omega (arith, w.0) in
        let a = values_ask in
        rw values-text (w.0, slot_written x y z i o (values_of t).allowed a.0 (omega (arith, a.1)) w.1 (u ∙ rw m))

-- the writing over x₀ has come to slot i and the offset o: the texts of the slots that are left give the whole
pub record SlotsTo (bytes d : List ℕ) (c : ℕ) (x₀ x : List ℕ) (i o : ℕ) : Type 0 where
  pub fits : Fits (texts_from bytes d i (c - i)) c i o (length x)
  pub long : length x ≡ length x₀
  pub whole : with_texts x i o (texts_from bytes d i (c - i)) ≡ with_texts x₀ 0 (text_offset c) (texts_from bytes d 0 c)

pub slots-start : (bytes d : List ℕ) (c : ℕ) (x : List ℕ) → Fits (texts_from bytes d 0 c) c 0 (text_offset c) (length x) → SlotsTo bytes d c x x 0 (text_offset c)
slots-start bytes d c x f =
    let e : c - 0 ≡ c = omega arith in
    record { fits = rw e f; long = refl; whole = rw e }

module _ {bytes d : List ℕ} {c : ℕ} {x₀ x : List ℕ} {i o : ℕ} (s : SlotsTo bytes d c x₀ x i o) where
  -- the texts ts of the next n slots
  module _ (n : ℕ) (ts : List Text) (h : i + n ≤ c) (e : ts ≡ texts_from bytes d i n) where
    left : texts_from bytes d i (c - i) ≡ ts ++ texts_from bytes d (i + n) (c - (i + n))
    left =
        let z : c - i ≡ n + (c - (i + n)) = omega arith in
        ap (texts_from bytes d i) z ∙ run_then (slot_text bytes d) i n (c - (i + n)) ∙ rw e

    packed-left : length (packed (texts_from bytes d i (c - i))) ≡ length (packed ts) + length (packed (texts_from bytes d (i + n) (c - (i + n))))
    packed-left = ap (λ (l : List Text). length (packed l)) left ∙ length-packed ts (texts_from bytes d (i + n) (c - (i + n)))

    next_fits : Fits ts c i o (length x)
    next_fits =
        let f = s.fits in
        record { along = f.along; behind = f.behind; room = omega (arith, packed-left); small = omega (arith, packed-left) }

    slots_next : (x' : List ℕ) (o' : ℕ) → x' ≡ with_texts x i o ts → o' ≡ o + length (packed ts) → SlotsTo bytes d c x₀ x' (i + n) o'
    slots_next x' o' ex eo =
        let f = s.fits in
        let behind = f.behind in
        let q = packed-left in
        let us : List Text = texts_from bytes d (i + n) (c - (i + n)) in
        let lt : length ts ≡ n = ap length e ∙ length_run (slot_text bytes d) i n in
        let lu : length us ≡ c - (i + n) = length_run (slot_text bytes d) (i + n) (c - (i + n)) in
        let room : o + length (packed ts) ≤ length x = omega arith in
        let l : length x' ≡ length x = ap length ex ∙ length_with x i o ts room (omega arith) in
        let next : with_texts x' (i + n) o' us ≡ with_texts x i o (ts ++ us) =
        rw ex (with_next x i o ts room us (i + n) o' (omega arith) (omega arith) eo) in
        record {
          fits = record { along = h; behind = omega arith; room = omega arith; small = omega arith };
          long = l ∙ s.long;
          whole = next ∙ ap (with_texts x i o) (sym left) ∙ s.whole;
        }

  -- one slot: what writing it asks, and what it leaves
  module _ (h : i < c) where
    one : (slot_text bytes d i ∷ []) ≡ texts_from bytes d i 1
    unfolding run
    one = refl

    pub slot_ask : Fits (slot_text bytes d i ∷ []) c i o (length x)
    slot_ask = next_fits 1 (slot_text bytes d i ∷ []) (omega arith) one

    pub slot_left : (x' : List ℕ) (o' : ℕ) → (o' ≡ o + length (bytes_of (slot_text bytes d i))) × (x' ≡ with_texts x i o (slot_text bytes d i ∷ []))
        → SlotsTo bytes d c x₀ x' (i + 1) o'
    unfolding packed
    slot_left x' o' w =
        let l = length-append (bytes_of (slot_text bytes d i)) [] in
        slots_next 1 (slot_text bytes d i ∷ []) (omega arith) one x' o' w.1 (omega (arith, w.0))

  pub slots_end : c ≤ i → x ≡ with_texts x₀ 0 (text_offset c) (texts_from bytes d 0 c)
  unfolding run
  slots_end h =
      let z : c - i ≡ 0 = omega arith in
      sym (with_none x i o) ∙ rw z at s.whole

-- the ten words that `begin_record` writes
abbrev ten_words : Head → ℕ → ℕ → List ℕ
ten_words h c used =
    (text_offset c + used) ∷ h.policy ∷ h.orientation ∷ h.inputs ∷ h.outputs ∷ h.annotations ∷ h.rules
    ∷ slot_offset ∷ c ∷ text_offset c ∷ []

-- a record from slots: its total fits, and what `begin_record` and `write_slots` ask and leave
module _ {h : Head} {bytes d : List ℕ} {c used : ℕ} (s : SlotsHeld h bytes d c used) where
  counted : length (table_from h bytes d c).texts ≡ slots_in (table_from h bytes d c)
  counted = length_run (slot_text bytes d) 0 c ∙ s.counted

  total-is : text_offset c + used ≡ total (table_from h bytes d c)
  total-is = omega (arith, s.counted, s.total)

  pub record_small : text_offset c + used < 2 ^ 32
  record_small =
      let t : Table = table_from h bytes d c in
      let short : (i : ℕ) → i < length t.texts → length (bytes_of (get_or t.texts i None)) ≤ 61440 =
      λ i l.
      let e : get_or t.texts i None ≡ slot_text bytes d i = get_or-build c (slot_text bytes d) i None (omega (arith, length_run (slot_text bytes d) 0 c)) in
      omega (arith, ap (λ (x : Text). length (bytes_of x)) e, slot_short bytes d i, s.short) in
      omega (arith, total-is, total-fits t (omega (arith, s.counted, s.few)) counted short)

  pub slots-held : Parts bytes d c
  slots-held = record { room = s.room; few = s.few; inside = λ i h k. s.inside i h }

  pub texts_fit : {n : ℕ} → text_offset c + used ≤ n → Fits (texts_from bytes d 0 c) c 0 (text_offset c) n
  texts_fit l =
      let e = s.total in
      let m = record_small in
      record { along = omega arith; behind = omega arith; room = omega arith; small = omega arith }

  pub record_room : (x : List ℕ) (k : ℕ) → Ok k ≡ begun_of (length x) (text_offset c + used) → text_offset c + used ≤ length x
  record_room x k e = (begun_whole (length x) (text_offset c + used) k (sym e)).0

  -- the slice x has become x' when the record was begun: x is too short, or the texts are written and make y of it
  module _ (x x' : List ℕ) (ex : x' ≡ headed x (text_offset c + used) (ten_words h c used)) where
    pub record_short : (r : Refusal) → Err r ≡ begun_of (length x) (text_offset c + used)
        → (Err r ≡ begun_of (length x) (total (table_from h bytes d c))) × (x' ≡ record_in x (table_from h bytes d c))
    record_short r e =
        let b = begun_short (length x) (text_offset c + used) r (sym e) in
        let l : length x < total (table_from h bytes d c) = omega (arith, total-is, b.0) in (
          e ∙ rw total-is,
          ex ∙ headed-short x (text_offset c + used) (ten_words h c used) b.0 ∙ rw (lt-ltb (length x) (total (table_from h bytes d c)) l),
        )

    pub record_whole : (k : ℕ) (y : List ℕ) → Ok k ≡ begun_of (length x) (text_offset c + used) → y ≡ with_texts x' 0 (text_offset c) (texts_from bytes d 0 c)
        → (Ok k ≡ begun_of (length x) (total (table_from h bytes d c))) × (y ≡ record_in x (table_from h bytes d c))
    record_whole k y e ey =
        let t : Table = table_from h bytes d c in
        let n : text_offset c ≡ text_offset (slots_in t) = ap text_offset s.counted in
        let room : total t ≤ length x = omega (arith, total-is, record_room x k e) in
        let begun = standing_start x t counted room x' (text_offset c + used) (text_offset c) (ten_words h c used) total-is (cc (total-is, s.counted, n)) ex n in
        let all : take (length t.texts) (drop 0 t.texts) ≡ t.texts = take_all (length t.texts) t.texts (omega arith) in
        let done = standing_next x t counted room begun t.texts all y (length t.texts) _ ey (omega arith) refl in
        let w : y ≡ put x 0 (encode t) = standing_end x t counted room done counted ∙ sym (put_front x (encode t) (total t) (length-encode t counted)) in
        (e ∙ rw total-is, w ∙ rw (le-ltb (length x) (total t) room))
